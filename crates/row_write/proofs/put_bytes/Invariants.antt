-- `row_write::put_bytes` meets its contract. The invariant: to write the bytes that are left gives what all of them give.
-- Assumes nothing.
use mathlib.Core.Path.{◌≡◌}
use Prim.Native.Nat.{◌≤◌, ◌+◌, ◌-◌}
use lib.ListN.{length}
use Rattle.spec_shelf.specs.Bytes.{written}
use Rattle.row_write.specs.BytesLaws.{BytesLeft}
use Rattle.row_write.proofs.put_bytes.Given as goal

abbrev pub invariant-loop-i : goal.invariant-loop-i
invariant-loop-i l =
    (l.i ≤ length l.bytes) × (length l.out ≡ length l.initial.out) × BytesLeft l.out l.at l.bytes l.i (written l.initial.out l.at l.bytes) (l.at + length l.bytes)

abbrev pub decreases-loop-i : goal.decreases-loop-i
decreases-loop-i l = length l.bytes - l.i
