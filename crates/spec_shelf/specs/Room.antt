-- What the program lends to an answer, and what holds of its table. Assumes nothing.
use Rattle.std.specs.Prelude.{ℕ, ◌+◌, ◌*◌, ◌≡◌, Some}
use Rattle.spec_model.specs.declared.Table.{Table}
use Rattle.spec_rules.specs.Records.{most_records}
use Rattle.spec_rules.specs.WellFormed.{WellFormed}
use Rattle.spec_shelf.specs.Printed.{slot_row_most}
use Rattle.spec_shelf.specs.Meaning.{State}

-- the bytes kept for the row of a call, more than it needs; and the most bytes of an answer: that row, and those of the longest plan
abbrev pub call_room : ℕ
call_room = 1024

abbrev pub answer_most : ℕ
answer_most = call_room + slot_row_most * most_records

-- a table that is there was opened and changed by calls alone
abbrev pub Ready : State → Type 0
Ready s = (t : Table) → s ≡ Some t → WellFormed t
