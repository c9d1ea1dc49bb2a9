-- Reading an input byte by byte: what is known of the row that has begun. A row of more than 64 bytes has another form whatever its
-- bytes are, so that no more than 64 are kept. Document 01, "Reading, lending, printing". Assumes nothing.
use Rattle.std.specs.Prelude.{ℕ, suc, Bool, true, false, cond, ◌&&◌, List, [], ◌∷◌, ltb, eqb, set, replicate, Some, None}
use Rattle.row_cut.specs.declared.Line.{Line}
use Rattle.row_cut.specs.declared.Reader.{Reader}
use Rattle.row_cut.specs.declared.Cut.{Cut}
use Rattle.spec_text.specs.Rows.{lf, cr, row_most}

-- a line and a reader by their parts
abbrev pub line_in : List ℕ → ℕ → Line
line_in bs n = record { bytes = bs; len = n }

abbrev pub reader_in : List ℕ → ℕ → Bool → Reader
reader_in bs n h = record { line = line_in bs n; held = h }

-- a row that has no byte yet
unfoldable pub no_line : Line
no_line = record { bytes = replicate row_most 0; len = 0 }

-- one byte more; a length of 65 stands for every length above 64
unfoldable pub with_byte : Line → ℕ → Line
with_byte l b =
    cond (ltb l.len row_most)
    (record { bytes = set l.bytes l.len b; len = suc l.len })
    (record { bytes = l.bytes; len = suc row_most })

-- a whole row
unfoldable pub line_from : Line → List ℕ → Line
line_from l [] = l
line_from l (b ∷ bs) = line_from (with_byte l b) bs

abbrev pub line_of : List ℕ → Line
line_of row = line_from no_line row

-- at a row's start. A CR is kept back until the next byte tells whether it belongs to the row
unfoldable pub at_start : Reader
at_start = record { line = no_line; held = false }

-- the row with the CR that was kept back
unfoldable pub unheld : Reader → Line
unheld r = cond r.held (with_byte r.line cr) r.line

-- the byte ends the row
unfoldable pub ends_row : Reader → ℕ → Bool
ends_row r b = r.held && eqb b lf

-- after a byte that does not
unfoldable pub after_byte : Reader → ℕ → Reader
after_byte r b = cond (eqb b cr) (record { line = unheld r; held = true }) (record { line = with_byte (unheld r) b; held = false })

-- up to the first byte that ends the row, or through all the bytes: how many were taken, the row that has ended, and what stands after them
unfoldable pub cut_from : ℕ → Reader → List ℕ → Cut
cut_from n r [] = record { reader = r; taken = n; row = None }
cut_from n r (b ∷ bs) =
    let more = cut_from (suc n) (after_byte r b) bs in
    cond (ends_row r b) (record { reader = at_start; taken = suc n; row = Some r.line }) more

-- ---- the rows that a reader finds in some bytes, and the reader after them
unfoldable pub lines_in : Reader → List ℕ → List Line
lines_in r [] = []
lines_in r (b ∷ bs) =
    let next = lines_in at_start bs in
    let more = lines_in (after_byte r b) bs in
    cond (ends_row r b) (r.line ∷ next) more

unfoldable pub reader_after : Reader → List ℕ → Reader
reader_after r [] = r
reader_after r (b ∷ bs) =
    let next = reader_after at_start bs in
    let more = reader_after (after_byte r b) bs in
    cond (ends_row r b) next more

-- at the end of the input: the last row, where it has a byte
unfoldable pub last_lines : Reader → List Line
last_lines r = let l = unheld r in cond (eqb l.len 0) [] (l ∷ [])
