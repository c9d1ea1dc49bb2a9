-- The start before the one that a turn reads is that of the turn before it. Assumes nothing.
use Rattle.std.proofs.Common.{◌≡◌, ◌+◌, ◌-◌, ap, subst, ◌∙◌, arith}
use Rattle.plan_record.specs.Starts.{start_at}
use Rattle.plan_window.specs.Laws.{Rising, rises_broken, rises_on, rises_ended}
use Rattle.plan_window.proofs.starts_rise.Goals as goal

pub returns-then-next-last : goal.returns-then-next-last
returns-then-next-last c =
    let i = c.loop-i.i in
    let e : i ≡ i - 1 + 1 = omega arith in
    rises_broken _ _ (i - 1) c.loop-i.invariant.1 (omega arith) c.start_of-last.ensures
    (c.start_of-next.ensures ∙ ap (start_at c.args.plan.now) e) c.if-next-last.true

pub loop-i-preserved : goal.loop-i-preserved
loop-i-preserved c =
    let i = c.loop-i.i in
    let e : i ≡ i - 1 + 1 = omega arith in
    let on : i - 1 + 1 ≡ i + 1 - 1 = omega arith in (
      omega arith,
      subst (Rising c.args.count c.args.plan.now) on
          (rises_on _ _ (i - 1) c.loop-i.invariant.1 (omega arith) c.start_of-last.ensures
          (c.start_of-next.ensures ∙ ap (start_at c.args.plan.now) e) c.if-next-last.false),
    )

pub returns : goal.returns
returns c = rises_ended _ _ (c.loop-i.i - 1) c.loop-i.invariant.1 (omega arith)
