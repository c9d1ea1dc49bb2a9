-- A row for each turn. Assumes nothing.
use Rattle.std.proofs.Common.{◌≡◌}
use Rattle.demo_calls.proofs.slot_rows.Given as goal

abbrev pub invariant-loop-i : goal.invariant-loop-i
invariant-loop-i g l = l.shown ≡ l.i
