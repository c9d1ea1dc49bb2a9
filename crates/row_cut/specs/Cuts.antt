-- A cut of a chunk, against the rows that a reader finds: the bytes of a cut that ends a row hold that row alone, and the next one
-- begins after them; a cut that ends none has taken the whole chunk. Assumes nothing.
use Rattle.std.specs.Prelude.{◌≡◌, refl, true, false, Some, None, List, [], ◌∷◌, ℕ, suc, ◌+◌, ◌≤◌, ◌<◌, length, take}
use Rattle.std.proofs.Common.{◌∙◌, ⊎_elim, arith}
use Rattle.base_lists.specs.Tests.{either}
use Rattle.row_cut.specs.declared.Line.{Line}
use Rattle.row_cut.specs.declared.Reader.{Reader}
use Rattle.row_cut.specs.Lines.{at_start, ends_row, after_byte, cut_from, lines_in, reader_after}

-- of k bytes that the cut took after the first n: they hold one row, and a reader starts anew after them
pub record Ended (n : ℕ) (r : Reader) (bs : List ℕ) (l : Line) : Type 0 where
  pub k : ℕ
  pub taken : (cut_from n r bs).taken ≡ n + k
  pub some : 0 < k
  pub inside : k ≤ length bs
  pub only : lines_in r (take k bs) ≡ l ∷ []
  pub anew : reader_after r (take k bs) ≡ at_start
  pub after : (cut_from n r bs).reader ≡ at_start

pub row_ended : (n : ℕ) (r : Reader) (bs : List ℕ) {l : Line} → (cut_from n r bs).row ≡ Some l → Ended n r bs l
unfolding cut_from lines_in reader_after
row_ended n r [] e = cc
row_ended n r (b ∷ bs) {l} e = ⊎_elim here (on (row_ended (suc n) (after_byte r b) bs)) (either (ends_row r b))
  where
    here : ends_row r b ≡ true → Ended n r (b ∷ bs) l
    here t =
        let q : r.line ≡ l = (let h : Some r.line ≡ Some l = rw t at e in cc) in
        record {
          k = 1;
          taken = rw t (omega arith);
          some = omega arith;
          inside = omega arith;
          only = rw (t, q) refl;
          anew = rw t refl;
          after = rw t refl;
        }

    on : ((cut_from (suc n) (after_byte r b) bs).row ≡ Some l → Ended (suc n) (after_byte r b) bs l) → ends_row r b ≡ false → Ended n r (b ∷ bs) l
    on later t =
        let m = later (rw t at e) in
        record {
          k = suc m.k;
          taken = rw t (m.taken ∙ omega arith);
          some = omega arith;
          inside = let h = m.inside in omega arith;
          only = rw t m.only;
          anew = rw t m.anew;
          after = rw t m.after;
        }

-- a chunk through which the row goes on
abbrev Open : ℕ → Reader → List ℕ → Type 0
Open n r bs = ((cut_from n r bs).taken ≡ n + length bs) × ((lines_in r bs ≡ []) × (reader_after r bs ≡ (cut_from n r bs).reader))

pub row_open : (n : ℕ) (r : Reader) (bs : List ℕ) → (cut_from n r bs).row ≡ None → Open n r bs
unfolding cut_from lines_in reader_after
row_open n r [] e = (omega arith, (refl, refl))
row_open n r (b ∷ bs) e = ⊎_elim here (on (row_open (suc n) (after_byte r b) bs)) (either (ends_row r b))
  where
    here : ends_row r b ≡ true → Open n r (b ∷ bs)
    here t = let h : Some r.line ≡ None = rw t at e in cc

    on : ((cut_from (suc n) (after_byte r b) bs).row ≡ None → Open (suc n) (after_byte r b) bs) → ends_row r b ≡ false → Open n r (b ∷ bs)
    on later t = let m = later (rw t at e) in rw t (m.0 ∙ omega arith, m.1)
