-- The invariant: the digits from the place on, after the value so far, spell what the whole spells, and the value fits. Assumes nothing.
use mathlib.Core.Path.{◌≡◌}
use Prim.Native.Nat.{◌≤◌}
use lib.ListN.{drop}
use Rattle.row_fields.specs.ReadLaws.{digits_read}
use Rattle.row_fields.proofs.read_number.Given as goal

abbrev pub invariant-loop-byte : goal.invariant-loop-byte
invariant-loop-byte l = (l.value ≤ 4294967295) × (digits_read l.value (drop l.byte-index l.field) ≡ digits_read 0 l.field)
