-- The invariant: the values so far, before those of what is left, are what the whole gives. Assumes nothing.
use mathlib.Core.Path.{◌≡◌}
use lib.ListN.{length, take, drop}
use Rattle.spec_text.specs.Fields.{field_count}
use Rattle.row_fields.specs.FieldLaws.{fields_after}
use Rattle.row_fields.specs.FieldReads.{fields_read}
use Rattle.row_fields.specs.ReadLaws.{joined}
use Rattle.row_fields.proofs.read_fields.Given as goal

abbrev pub invariant-loop-i : goal.invariant-loop-i
invariant-loop-i l =
    (length l.values ≡ field_count)
    × (joined (take l.i l.values) (fields_read (drop l.i l.asked-items) (fields_after l.rest)) ≡ fields_read l.fn.form (fields_after l.text))
