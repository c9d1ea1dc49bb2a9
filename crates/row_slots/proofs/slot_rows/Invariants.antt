-- `row_slots::slot_rows` meets its contract. The invariant: to write the rows that are left gives what all of them give.
-- Assumes nothing.
use mathlib.Core.Path.{◌≡◌}
use Prim.Native.Nat.{◌≤◌, ◌+◌, ◌*◌, ◌-◌}
use lib.ListN.{length}
use Rattle.spec_shelf.specs.Bytes.{written}
use Rattle.spec_shelf.specs.Printed.{slot_rows, slot_row_most}
use Rattle.row_write.specs.BytesLaws.{Wrote}
use Rattle.row_slots.specs.RowLaws.{rows_from}
use Rattle.row_slots.proofs.slot_rows.Given as goal

abbrev pub invariant-loop-n : goal.invariant-loop-n
invariant-loop-n l =
    ((l.n ≤ l.count) × (l.end + slot_row_most * (l.count - l.n) ≤ length l.out) × (length l.out ≡ length l.initial.out))
    × Wrote l.out l.end (rows_from l.plan l.count l.n) (written l.initial.out l.at (slot_rows l.count l.plan)) (l.at + length (slot_rows l.count l.plan))

abbrev pub decreases-loop-n : goal.decreases-loop-n
decreases-loop-n l = l.count - l.n
