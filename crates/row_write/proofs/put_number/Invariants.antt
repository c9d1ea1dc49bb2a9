-- `row_write::put_number` meets its contract. The invariant: to write the digits that are left gives what all of them give.
-- Assumes nothing.
use mathlib.Core.Path.{◌≡◌}
use Prim.Native.Nat.{◌≤◌, ◌+◌, ◌-◌, max}
use lib.ListN.{length}
use Rattle.spec_shelf.specs.Bytes.{decimal, written}
use Rattle.row_write.specs.BytesLaws.{Wrote, digits_left}
use Rattle.row_write.proofs.put_number.Given as goal

abbrev pub invariant-loop-i : goal.invariant-loop-i
invariant-loop-i l =
    ((l.i ≤ 10) × (length l.out ≡ length l.initial.out) × (l.end + (10 - l.i) ≤ length l.out))
    × Wrote l.out l.end (digits_left l.n (max 1 l.n) l.i) (written l.initial.out l.at (decimal l.n)) (l.at + length (decimal l.n))

abbrev pub decreases-loop-i : goal.decreases-loop-i
decreases-loop-i l = 10 - l.i
