-- `beacon_plan::choose_place` meets its contract. Assumes nothing.
use Rattle.std.proofs.Common.{sym, ◌∙◌, ◌<◌, length, lt-ltb, le-ltb, arith}
use Rattle.spec_model.specs.Tables.{places}
use Rattle.beacon_plan.specs.Progress.{placed, chosen_taken, chosen_early, chosen_due, chosen_end}
use Rattle.beacon_plan.proofs.choose_place.Goals as goal
use Rattle.beacon_plan.proofs.choose_place.Goals.{then-row-t+then-row-best, else-row-t, else-row-t-via-then-row-t+else-row-best, else-row-t-via-else-row-t}

pub loop-i-preserved : goal.loop-i-preserved
loop-i-preserved c =
    let t = c.args.t.0 in
    let ps = c.args.progress.now in
    let i = c.loop-i.i in
    let p = placed c.loop-i.place in
    let d = c.loop-i.best in
    let k : i < length ps = omega arith in
    let h : i < places = omega arith in
    let so_far = c.loop-i.invariant.chosen in
    elim c.if-row-t.branch [
      | then-row-t+then-row-best w ↦ record {
        chosen = so_far ∙ chosen_taken t i p d ps k w.if-row-t.true w.if-row-best.true ∙ rw (w.place-is, w.best-is, lt-ltb i places h);
        within = rw w.place-is (λ q. omega arith);
      }
      | else-row-t w ↦ record {
        chosen = so_far
            ∙ elim w.else-row-t.branch [
              | else-row-t-via-then-row-t+else-row-best v ↦ chosen_due t i p d ps k v.if-row-t.true v.if-row-best.false
              | else-row-t-via-else-row-t v ↦ chosen_early t i p d ps k v.if-row-t.false
            ]
            ∙ rw (w.place-is, w.best-is);
        within = rw w.place-is (λ q. omega (arith, c.loop-i.invariant.within q));
      }
    ]

pub returns-then-place-lt-PLACES-clause-place : goal.returns-then-place-lt-PLACES-clause-place
returns-then-place-lt-PLACES-clause-place c =
    let l = c.loop-i in
    let e = l.invariant.chosen ∙ chosen_end c.args.t.0 l.i (placed l.place) l.best c.args.progress.now (omega arith) in
    sym (rw (lt-ltb l.place places c.if-place-lt-PLACES.true) at e)

pub returns-clause-place : goal.returns-clause-place
returns-clause-place c =
    let l = c.loop-i in
    let e = l.invariant.chosen ∙ chosen_end c.args.t.0 l.i (placed l.place) l.best c.args.progress.now (omega arith) in
    sym (rw (le-ltb l.place places c.if-place-lt-PLACES.false) at e)
