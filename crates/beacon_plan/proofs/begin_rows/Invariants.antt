-- The invariant: the first rows are begun. Assumes nothing.
use Rattle.std.specs.Prelude.{◌≡◌, take}
use Rattle.beacon_plan.specs.Progress.{begun_rows}
use Rattle.beacon_plan.proofs.begin_rows.Given as goal

abbrev pub invariant-loop-i : goal.invariant-loop-i
invariant-loop-i l = take l.i l.progress ≡ begun_rows (take l.i l.rows)
