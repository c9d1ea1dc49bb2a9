use Rattle.std.proofs.Common.{sym, subst, ◌+◌, ◌∙◌, arith}
use Rattle.header_test.specs.Due.{Tells, Summed, Passes}
use Rattle.header_test.specs.Minimums.{Beside, beside_small, turn_parts, beside_more, beside_same, beside_all}
use Rattle.header_test.specs.Minimums.{put_parts, put_small, minimums_right}
use Rattle.header_test.proofs.minimums_pass.Goals as goal
use Rattle.header_test.proofs.minimums_pass.Goals.{then-i-place, else-i-place}

pub add_need-requires : goal.add_need-requires
add_need-requires c =
    let t = c.args.t in
    let p = c.requires.tidy in (
      beside_small t p.0 p.1 c.args.place c.loop-i.invariant,
      turn_parts t p.0 p.1 c.args.place c.loop-i.invariant c.loop-i-test.true _,
    )

pub loop-i-preserved : goal.loop-i-preserved
loop-i-preserved c =
    let t = c.args.t in
    let p = c.requires.tidy in
    let b = c.loop-i.invariant in
    let h = c.loop-i-test.true in
    elim c.if-i-place.branch [
      | then-i-place w ↦ subst (Beside t c.args.place c.args.used (c.loop-i.i + 1)) (sym (w.sums-is ∙ w.add_need.ensures))
          (beside_more t p.0 p.1 c.args.place b h _ w.if-i-place.true (omega arith))
      | else-i-place w ↦ subst (Beside t c.args.place c.args.used (c.loop-i.i + 1)) (sym w.sums-is)
          (beside_same t p.0 p.1 c.args.place b h w.if-i-place.false)
    ]

pub add_need-requires-2 : goal.add_need-requires-2
add_need-requires-2 c =
    let t = c.args.t in
    let p = c.requires.tidy in
    let z = c.requires.place_lt_places in
    (beside_small t p.0 p.1 c.args.place c.loop-i.invariant, put_parts t p.0 z.0 c.args.e z.1)

-- the sums beside the place, where the loop ends, and the entry's
pub passes-requires : goal.passes-requires
passes-requires c =
    let t = c.args.t in
    let p = c.requires.tidy in
    let z = c.requires.place_lt_places in
    let others = beside_all t p.0 p.1 c.args.place c.loop-i.invariant c.loop-i-test.false in
    subst Summed (sym c.add_need-2.ensures) (put_small t p.0 z.0 c.args.e z.1 (omega arith) others)

pub returns : goal.returns
returns c =
    let t = c.args.t in
    let p = c.requires.tidy in
    let z = c.requires.place_lt_places in
    let others = beside_all t p.0 p.1 c.args.place c.loop-i.invariant c.loop-i-test.false in
    minimums_right t p.0 z.0 c.args.e z.1 (omega arith) others c.passes.result
    (subst (λ v. Tells c.passes.result (Passes t.frame v)) c.add_need-2.ensures c.passes.ensures)
