-- One byte of a cut. The code's next turn is i + 1. Assumes nothing.
use Rattle.std.specs.Prelude.{◌≡◌, true, false, Some, None, List, ℕ, ◌+◌, ◌<◌, ◌≤◌, eqb, length, drop, get_or}
use Rattle.std.proofs.Math.Path.{refl}
use Rattle.std.proofs.Common.{add-one, drop_of_length-le}
use borrow.Author.Tests.{eq-eqb, ne_eqb}
use Rattle.base_lists.specs.Loops.{left_next}
use Rattle.spec_text.specs.Rows.{lf, cr}
use Rattle.row_cut.specs.declared.Line.{Line}
use Rattle.row_cut.specs.declared.Reader.{Reader}
use Rattle.row_cut.specs.Lines.{at_start, with_byte, unheld, ends_row, after_byte, cut_from}

-- the row goes on at a byte, and is a line before it
abbrev pub GoesOn : Reader → ℕ → Line → Type 0
GoesOn r b l = (ends_row r b ≡ false) × (l ≡ unheld r)

module _ (r : Reader) (b : ℕ) where
  pub none_held_lem : r.held ≡ false → GoesOn r b r.line
  unfolding ends_row unheld
  none_held_lem e = rw e (refl, refl)

  -- the CR that was kept back belongs to the row
  pub cr_kept : r.held ≡ true → (b ≡ lf → ⊥) → GoesOn r b (with_byte r.line cr)
  unfolding ends_row unheld
  cr_kept e n = rw (e, ne_eqb b lf n) (refl, refl)

module _ (bs : List ℕ) (i : ℕ) (r : Reader) where
  -- the byte at i ends the row
  pub cut_here : i < length bs → r.held ≡ true → get_or bs i 0 ≡ lf
      → cut_from i r (drop i bs) ≡ record { reader = at_start; taken = i + 1; row = Some r.line }
  unfolding cut_from ends_row
  cut_here h e f = rw (left_next bs i 0 h, e, eq-eqb (get_or bs i 0) lf f, add-one) refl

  -- the row goes on: a CR is kept back, any other byte is the row's
  module _ (l m : Line) (h : i < length bs) (g : GoesOn r (get_or bs i 0) l) where
    abbrev On : Type 0
    On = cut_from i r (drop i bs) ≡ cut_from (i + 1) (record { line = m; held = eqb (get_or bs i 0) cr }) (drop (i + 1) bs)

    pub cut_cr : eqb (get_or bs i 0) cr ≡ true → m ≡ l → On
    unfolding cut_from after_byte
    cut_cr e q = rw (left_next bs i 0 h, g.0, e, q, g.1, add-one) refl

    pub cut_byte : eqb (get_or bs i 0) cr ≡ false → m ≡ with_byte l (get_or bs i 0) → On
    unfolding cut_from after_byte
    cut_byte e q = rw (left_next bs i 0 h, g.0, e, q, g.1, add-one) refl

  -- no byte is left
  pub cut_through : length bs ≤ i → cut_from i r (drop i bs) ≡ record { reader = r; taken = i; row = None }
  unfolding cut_from
  cut_through h = rw (drop_of_length-le bs h) refl
