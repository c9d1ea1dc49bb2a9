-- Printed rows. Document 01, "Reading, lending, printing": rows of six fields with CR LF. Assumes nothing.
use Rattle.std.specs.Prelude.{ℕ, ◌+◌, ◌*◌, List, [], ◌∷◌, ◌++◌}
use Rattle.spec_lists.specs.Lists.{concat_map}
use Rattle.spec_model.specs.declared.Name.{Name}
use Rattle.spec_rules.specs.Slots.{Run}
use Rattle.spec_rules.specs.Records.{records_of}
use Rattle.spec_shelf.specs.Bytes.{number_most, decimal}
unfoldable pub use Rattle.spec_shelf.specs.Bytes.{written}

-- ---- rows
abbrev pub crlf : List ℕ
crlf = 13 ∷ 10 ∷ []

-- `row,stream,job,start,length,answer`
abbrev pub header : List ℕ
header =
    114 ∷ 111 ∷ 119 ∷ 44 ∷ 115 ∷ 116 ∷ 114 ∷ 101 ∷ 97 ∷ 109 ∷ 44 ∷ 106 ∷ 111 ∷ 98 ∷ 44 ∷ 115 ∷ 116 ∷ 97 ∷ 114 ∷ 116 ∷ 44
    ∷ 108 ∷ 101 ∷ 110 ∷ 103 ∷ 116 ∷ 104 ∷ 44 ∷ 97 ∷ 110 ∷ 115 ∷ 119 ∷ 101 ∷ 114 ∷ []

abbrev pub header_row : List ℕ
header_row = header ++ crlf

-- a name, as its field has it
unfoldable pub name_field : Name → List ℕ
name_field n = decimal n.stream

-- a call without a name: `verb,,,,,answer`
unfoldable pub plain_row : List ℕ → ℕ → List ℕ
plain_row verb answer = verb ++ 44 ∷ 44 ∷ 44 ∷ 44 ∷ 44 ∷ decimal answer ++ crlf

-- a call with a name: `verb,stream,,,,answer`
unfoldable pub stream_row : List ℕ → Name → ℕ → List ℕ
stream_row verb n answer = verb ++ 44 ∷ name_field n ++ 44 ∷ 44 ∷ 44 ∷ 44 ∷ decimal answer ++ crlf

-- a record: `slot,stream,job,start,length,`
unfoldable pub slot_row_of : Run → List ℕ
slot_row_of r =
    115 ∷ 108 ∷ 111 ∷ 116 ∷ 44 ∷ name_field r.name ++ 44 ∷ decimal r.job ++ 44 ∷ decimal r.start
    ++ 44 ∷ decimal r.length ++ 44 ∷ crlf

-- a row for each of the first n records of a plan's words
unfoldable pub slot_rows : ℕ → List ℕ → List ℕ
slot_rows n ws = concat_map slot_row_of (records_of n ws)

-- ---- room: the most bytes of a name's field, of the header's row, of the rows of calls after their verb (five commas, the numbers and
-- CR LF), and of a record's row, which also has `slot`
abbrev pub name_most : ℕ
name_most = number_most

abbrev pub header_most : ℕ
header_most = 36

abbrev pub plain_most : ℕ
plain_most = 5 + number_most + 2

abbrev pub stream_most : ℕ
stream_most = name_most + plain_most

abbrev pub slot_row_most : ℕ
slot_row_most = 4 + 5 + name_most + 3 * number_most + 2
