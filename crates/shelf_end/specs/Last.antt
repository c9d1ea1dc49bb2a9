-- The last row of the input, which may lack its CR LF: it is served as if it had them. Assumes nothing.
use Rattle.std.specs.Prelude.{◌≡◌, false, List, [], ◌∷◌, ℕ, zero, suc, ◌+◌, ◌≤◌, eqb, length, take}
use Rattle.std.proofs.Math.Path.{refl}
use Rattle.std.proofs.Common.{ap, ◌∙◌, append-nil, arith}
use Rattle.base_lists.specs.Tests.{and_false}
use Rattle.spec_text.specs.Rows.{cr, lf}
use Rattle.row_cut.specs.declared.Reader.{Reader}
use Rattle.row_cut.specs.Lines.{unheld, ends_row, after_byte, lines_in}
use Rattle.spec_shelf.specs.Printed.{written}
use Rattle.spec_shelf.specs.Meaning.{printed}
use Rattle.spec_shelf.specs.Room.{answer_most}
use Rattle.shelf_state.specs.declared.Shelf.{Shelf}
use Rattle.shelf_state.specs.Cutting.{last_rows, last_plan}
use Rattle.shelf_state.specs.Whole.{plan_run, chunk_rows, chunk_plan}

abbrev pub row_end : List ℕ
row_end = cr ∷ lf ∷ []

-- CR LF end the row, whatever stands before them; a CR alone ends none
one_line : (r : Reader) → lines_in r row_end ≡ unheld r ∷ []
unfolding lines_in ends_row after_byte
one_line r = rw (and_false r.held) refl

no_line_lem : (r : Reader) → lines_in r (cr ∷ []) ≡ []
unfolding lines_in ends_row after_byte
no_line_lem r = rw (and_false r.held) refl

module _ (s : Shelf) (h : eqb (unheld s.reader).len 0 ≡ false) where
  rows_last : chunk_rows s row_end ≡ last_rows s
  unfolding chunk_rows printed last_rows
  rows_last = rw (one_line s.reader, h) (append-nil _)

  plan_last : (ws : List ℕ) → chunk_plan s row_end ws ≡ last_plan s ws
  unfolding chunk_plan plan_run last_plan
  plan_last ws = rw (one_line s.reader, h) refl

-- there is room for its answer, so that both bytes are served
both_served : (s : Shelf) (n at : ℕ) {next room : ℕ} → n ≤ 2 → at + answer_most ≤ room
    → next ≡ at + length (chunk_rows s (take n row_end)) → (next + answer_most ≤ room → n ≡ 2) → n ≡ 2
unfolding chunk_rows printed lines_in
both_served s zero at most spare e all = all (omega arith)
both_served s (suc zero) at most spare e all = all (omega (arith, rw (no_line_lem s.reader) at e))
both_served s (suc (suc n)) at most spare e all = omega arith

pub last_served : (s : Shelf) (n at : ℕ) (out plan : List ℕ) {next room : ℕ} {bytes words : List ℕ}
    → eqb (unheld s.reader).len 0 ≡ false → at + answer_most ≤ room
    → (let rows = chunk_rows s (take n row_end) in
    (next ≡ at + length rows) × ((bytes ≡ written out at rows) × (words ≡ chunk_plan s (take n row_end) plan)))
    → (n ≤ 2) × ((next ≤ room) × (next + answer_most ≤ room → n ≡ 2))
    → (next ≡ at + length (last_rows s)) × ((bytes ≡ written out at (last_rows s)) × (words ≡ last_plan s plan))
last_served s n at out plan h spare (e, (b, w)) (most, (inside, all)) =
    let k = both_served s n at most spare e all in
    let rows = ap (λ m. chunk_rows s (take m row_end)) k ∙ rows_last s h in (
      e ∙ ap (λ l. at + length l) rows,
      (b ∙ ap (written out at) rows, w ∙ ap (λ m. chunk_plan s (take m row_end) plan) k ∙ plan_last s h plan),
    )
