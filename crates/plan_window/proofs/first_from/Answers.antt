use native.Mathlib.Omega.{arith}
use Rattle.plan_window.specs.Laws.{passed_within, before_found, before_passed, before_ended}
use Rattle.plan_window.proofs.first_from.Goals as goal

pub loop-i-init : goal.loop-i-init
loop-i-init c = (passed_within _ _ _ _ c.requires.1, c.requires.1)

pub returns-then-slot-start : goal.returns-then-slot-start
returns-then-slot-start c =
    before_found _ _ _ _ c.loop-i.invariant.1 c.loop-i-test.true c.start_of-start.ensures c.if-slot-start.true

pub loop-i-preserved : goal.loop-i-preserved
loop-i-preserved c =
    (omega arith, before_passed _ _ _ _ c.loop-i.invariant.1 c.loop-i-test.true c.start_of-start.ensures c.if-slot-start.false)

pub returns : goal.returns
returns c = let ended = before_ended _ _ _ _ c.loop-i.invariant.1 c.loop-i-test.false in omega arith
