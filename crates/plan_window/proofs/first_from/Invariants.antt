-- The records passed start before the slot. Assumes nothing.
use Prim.Native.Nat.{◌≤◌}
use Rattle.plan_window.specs.Laws.{Passed}
use Rattle.plan_window.proofs.first_from.Given as goal

abbrev pub invariant-loop-i : goal.invariant-loop-i
invariant-loop-i l = (l.i ≤ l.count) × Passed l.count l.plan l.i l.slot.0
