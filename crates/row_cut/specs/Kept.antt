-- What a line keeps of its row: a row of at most 64 bytes whole, of a longer one that it is longer. Assumes nothing.
use Rattle.std.specs.Prelude.{◌≡◌, refl, List, [], ◌∷◌, ◌++◌, ℕ, suc, ◌+◌, ◌≤◌, ◌<◌, ltb, length, take, set}
use Rattle.std.proofs.Common.{sym, ap, ◌∙◌, ⊎_elim, append-nil, append_assoc, arith, lt-ltb, le-ltb, ltb-true, ltb-false, length-set, take-suc-set}
use Rattle.std.proofs.lemmas.List.{length-replicate}
use Rattle.base_lists.specs.Tests.{either}
use Rattle.spec_text.specs.Rows.{row_most}
use Rattle.row_cut.specs.declared.Line.{Line}
use Rattle.row_cut.specs.Lines.{no_line, with_byte, line_from, line_of}

-- the bytes of a line that has at most 64
abbrev pub text_of : Line → List ℕ
text_of l = take l.len l.bytes

-- ---- one byte
room : (l : Line) (b : ℕ) → l.len < row_most → with_byte l b ≡ record { bytes = set l.bytes l.len b; len = suc l.len }
unfolding with_byte
room l b h = rw (lt-ltb l.len row_most h) refl

full : (l : Line) (b : ℕ) → row_most ≤ l.len → with_byte l b ≡ record { bytes = l.bytes; len = suc row_most }
unfolding with_byte
full l b h = rw (le-ltb l.len row_most h) refl

-- ---- a row that fits
under : (l : Line) (row : List ℕ) → length l.bytes ≡ row_most → l.len + length row ≤ row_most
    → ((line_from l row).len ≡ l.len + length row) × (text_of (line_from l row) ≡ text_of l ++ row)
unfolding line_from
under l [] h f = (omega arith, sym (append-nil _))
under l (b ∷ row) h f =
    let next : Line = record { bytes = set l.bytes l.len b; len = suc l.len } in
    let ih = under next row (length-set l.bytes l.len b ∙ h) (omega arith) in
    let on = ap (λ z. line_from z row) (room l b (omega arith)) in (
      ap (λ z. z.len) on ∙ ih.0 ∙ omega arith,
      ap text_of on ∙ ih.1 ∙ ap (λ ys. ys ++ row) (take-suc-set l.bytes l.len b (omega arith)) ∙ append_assoc (text_of l) (b ∷ []) row,
    )

pub kept_whole : (row : List ℕ) → length row ≤ row_most → ((line_of row).len ≡ length row) × (text_of (line_of row) ≡ row)
unfolding no_line
kept_whole row h = let k = under no_line row (length-replicate {A = ℕ} row_most 0) (omega arith) in (k.0 ∙ omega arith, k.1)

-- ---- a row that does not
over : (l : Line) (row : List ℕ) → l.len ≤ suc row_most → row_most < l.len + length row → (line_from l row).len ≡ suc row_most
unfolding line_from
over l [] h f = omega arith
over l (b ∷ row) h f =
    ⊎_elim
    (λ e. let t = ltb-true l.len row_most e in
    ap (λ z. (line_from z row).len) (room l b t)
    ∙ over (record { bytes = set l.bytes l.len b; len = suc l.len }) row (omega arith) (omega arith))
    (λ e. ap (λ z. (line_from z row).len) (full l b (ltb-false l.len row_most e))
    ∙ over (record { bytes = l.bytes; len = suc row_most }) row (omega arith) (omega arith))
    (either (ltb l.len row_most))

pub kept_long : (row : List ℕ) → row_most < length row → (line_of row).len ≡ suc row_most
unfolding no_line
kept_long row h = over no_line row (omega arith) (omega arith)
