-- Input in chunks. However an input is cut into chunks, a reader that takes one chunk after the other finds the rows of the whole input.
-- Document 01, "Reading, lending, printing". Assumes nothing.
use Rattle.std.specs.Prelude.{◌≡◌, refl, true, false, cond, List, [], ◌∷◌, ◌++◌, map, ℕ, suc, eqb, ltb}
use Rattle.std.proofs.Common.{sym, ap, ◌∙◌, ⊎_elim, arith, eqb-true, ne_eqb}
use Rattle.base_lists.specs.Tests.{either}
use Rattle.spec_text.specs.Rows.{lf, cr, row_most, on_first, rows_of}
use Rattle.row_cut.specs.declared.Line.{Line}
use Rattle.row_cut.specs.declared.Reader.{Reader}
use Rattle.row_cut.specs.Lines.{no_line, with_byte, line_from, line_of, at_start, unheld, ends_row, after_byte, lines_in, reader_after, last_lines}

-- ---- two chunks are as good as one
pub lines_append : (r : Reader) (xs bs : List ℕ) → lines_in r (xs ++ bs) ≡ lines_in r xs ++ lines_in (reader_after r xs) bs
unfolding lines_in reader_after
lines_append r [] bs = refl
lines_append r (x ∷ xs) bs =
    ⊎_elim
    (λ e. rw e (ap (λ ls. r.line ∷ ls) (lines_append at_start xs bs)))
    (λ e. rw e (lines_append (after_byte r x) xs bs))
    (either (ends_row r x))

pub after_append : (r : Reader) (xs bs : List ℕ) → reader_after r (xs ++ bs) ≡ reader_after (reader_after r xs) bs
unfolding reader_after
after_append r [] bs = refl
after_append r (x ∷ xs) bs =
    ⊎_elim (λ e. rw e (after_append at_start xs bs)) (λ e. rw e (after_append (after_byte r x) xs bs)) (either (ends_row r x))

-- ---- the rows of an input whose first row goes on after a line
abbrev joined : Line → List (List ℕ) → List Line
joined l [] = cond (eqb l.len 0) [] (l ∷ [])
joined l (r ∷ rs) = line_from l r ∷ map line_of rs

-- a line that has a byte is not empty
some_byte : (l : Line) (b : ℕ) → eqb (with_byte l b).len 0 ≡ false
unfolding with_byte
some_byte l b = ⊎_elim (λ e. rw e (ne_eqb (suc l.len) 0 (λ p. omega arith))) (λ e. rw e refl) (either (ltb l.len row_most))

one_more : (l : Line) (b : ℕ) (rs : List (List ℕ)) → joined (with_byte l b) rs ≡ joined l (on_first b rs)
unfolding on_first line_from
one_more l b [] = rw (some_byte l b) refl
one_more l b (r ∷ rs) = refl

from_start : (rs : List (List ℕ)) → joined no_line rs ≡ map line_of rs
unfolding no_line
from_start [] = refl
from_start (r ∷ rs) = refl

-- all rows that a reader finds, to the end of the input
abbrev all : Reader → List ℕ → List Line
all r bs = lines_in r bs ++ last_lines (reader_after r bs)

-- no CR is kept back; a CR is
abbrev Free : List ℕ → Type 0
Free bs = (l : Line) → all (record { line = l; held = false }) bs ≡ joined l (rows_of bs)

abbrev Held : List ℕ → Type 0
Held bs = (l : Line) → all (record { line = l; held = true }) bs ≡ joined l (rows_of (cr ∷ bs))

-- a byte that is no CR begins no row's end
other_byte : (b : ℕ) (bs : List ℕ) → eqb b cr ≡ false → rows_of (b ∷ bs) ≡ on_first b (rows_of bs)
unfolding rows_of on_first
other_byte b [] e = refl
other_byte b (c ∷ bs) e = rw e refl

-- a CR without its LF does neither
lone_cr : (b : ℕ) (bs : List ℕ) → eqb b lf ≡ false → rows_of (cr ∷ b ∷ bs) ≡ on_first cr (rows_of (b ∷ bs))
unfolding rows_of on_first
lone_cr b bs e = rw e refl

free_step : (b : ℕ) (bs : List ℕ) → Free bs → Held bs → Free (b ∷ bs)
unfolding lines_in reader_after ends_row after_byte unheld
free_step b bs free held l = ⊎_elim is_cr is_other (either (eqb b cr))
  where
    is_cr : eqb b cr ≡ true → all (record { line = l; held = false }) (b ∷ bs) ≡ joined l (rows_of (b ∷ bs))
    is_cr e = rw (e, eqb-true b cr e) (held l)

    is_other : eqb b cr ≡ false → all (record { line = l; held = false }) (b ∷ bs) ≡ joined l (rows_of (b ∷ bs))
    is_other e = rw (e, other_byte b bs e) (free (with_byte l b) ∙ one_more l b (rows_of bs))

row_ended : (b : ℕ) (bs : List ℕ) (l : Line) → Free bs → eqb b lf ≡ true
    → all (record { line = l; held = true }) (b ∷ bs) ≡ joined l (rows_of (cr ∷ b ∷ bs))
unfolding lines_in reader_after ends_row at_start rows_of line_from
row_ended b bs l free e = rw e (ap (λ ls. l ∷ ls) (free no_line ∙ from_start (rows_of bs)))

-- the CR that was kept back belongs to the row
cr_kept : (b : ℕ) (bs : List ℕ) (l : Line) → eqb b lf ≡ false
    → all (record { line = l; held = true }) (b ∷ bs) ≡ all (record { line = with_byte l cr; held = false }) (b ∷ bs)
unfolding lines_in reader_after ends_row after_byte unheld
cr_kept b bs l e = rw e refl

held_step : (b : ℕ) (bs : List ℕ) → Free bs → Held bs → Held (b ∷ bs)
held_step b bs free held l = ⊎_elim (row_ended b bs l free) is_other (either (eqb b lf))
  where
    is_other : eqb b lf ≡ false → all (record { line = l; held = true }) (b ∷ bs) ≡ joined l (rows_of (cr ∷ b ∷ bs))
    is_other e =
        cr_kept b bs l e ∙ free_step b bs free held (with_byte l cr) ∙ one_more l cr (rows_of (b ∷ bs))
        ∙ ap (joined l) (sym (lone_cr b bs e))

both : (bs : List ℕ) → Free bs × Held bs
unfolding lines_in reader_after last_lines unheld rows_of line_from
both [] = ((λ l. refl), (λ l. rw (some_byte l cr) refl))
both (b ∷ bs) = let ih = both bs in (free_step b bs ih.0 ih.1, held_step b bs ih.0 ih.1)

-- the rows that a reader finds are those of the input
pub rows_found : (input : List ℕ) → lines_in at_start input ++ last_lines (reader_after at_start input) ≡ map line_of (rows_of input)
unfolding at_start
rows_found input = (both input).0 no_line ∙ from_start (rows_of input)
