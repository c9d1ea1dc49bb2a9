-- Each start passed is below the next. Assumes nothing.
use Prim.Native.Nat.{◌≤◌, ◌-◌}
use Rattle.plan_window.specs.Laws.{Rising}
use Rattle.plan_window.proofs.starts_rise.Given as goal

abbrev pub invariant-loop-i : goal.invariant-loop-i
invariant-loop-i l = (1 ≤ l.i) × Rising l.count l.plan (l.i - 1)
