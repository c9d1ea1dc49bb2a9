-- Laws of printed rows: how long they are. Assumes nothing.
use Rattle.std.specs.Prelude.{◌≡◌, refl, List, [], ◌∷◌, ℕ, ◌+◌, ◌*◌, ◌≤◌, length}
use Rattle.std.proofs.Common.{arith}
use Rattle.std.proofs.Math.ListN.{length-append}
use Rattle.spec_lists.specs.Lists.{concat_map}
use Rattle.spec_model.specs.declared.Name.{Name}
use Rattle.spec_rules.specs.Slots.{Run}
use Rattle.row_write.specs.Powers.{decimal_most}
pub use Rattle.row_write.specs.BytesLaws.{Wrote, wrote, contract, wrote_then, written_none}
use Rattle.spec_shelf.specs.Bytes.{written}
use Rattle.spec_shelf.specs.Printed.{name_field, header_row, plain_row, stream_row, slot_row_of}
use Rattle.spec_shelf.specs.Printed.{name_most, header_most, plain_most, stream_most, slot_row_most}

pub name_most_lem : (n : Name) → length (name_field n) ≤ name_most
unfolding name_field
name_most_lem n = decimal_most n.stream

-- a rule for `omega`: where a name has been printed, its field is no longer
pub named_most : (out after : List ℕ) (at : ℕ) (n : Name) → after ≡ written out at (44 ∷ name_field n) → length (name_field n) ≤ name_most
named_most out after at n e = name_most_lem n

pub header_row_length : length header_row ≡ header_most
header_row_length = refl

module _ (verb : List ℕ) (answer : ℕ) where
  pub plain_row_most : length (plain_row verb answer) ≤ length verb + plain_most
  unfolding plain_row
  plain_row_most = simp length-append (omega (arith, decimal_most answer))

  pub stream_row_most : (n : Name) → length (stream_row verb n answer) ≤ length verb + stream_most
  unfolding stream_row
  stream_row_most n = simp length-append (omega (arith, name_most_lem n, decimal_most answer))

-- ---- records
pub slot_row_most_lem : (r : Run) → length (slot_row_of r) ≤ slot_row_most
unfolding slot_row_of
slot_row_most_lem r =
    simp length-append (omega (arith, name_most_lem r.name, decimal_most r.job, decimal_most r.start, decimal_most r.length))

pub slot_rows_most : (rs : List Run) → length (concat_map slot_row_of rs) ≤ slot_row_most * length rs
slot_rows_most [] = omega arith
slot_rows_most (r ∷ rs) = simp length-append (omega (arith, slot_row_most_lem r, slot_rows_most rs))
