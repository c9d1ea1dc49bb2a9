-- Input as rows of bytes. Document 01, "Reading, lending, printing": a row ends at its CR LF, the last row may lack it, and any other
-- CR or LF belongs to its row. Assumes nothing.
use Rattle.std.specs.Prelude.{ℕ, Bool, cond, ◌&&◌, List, [], ◌∷◌, eqb}

abbrev pub lf : ℕ
lf = 10

abbrev pub cr : ℕ
cr = 13

-- the most bytes of a row before its CR LF
abbrev pub row_most : ℕ
row_most = 64

-- the byte goes in front of the first part
unfoldable pub on_first : ℕ → List (List ℕ) → List (List ℕ)
on_first b [] = (b ∷ []) ∷ []
on_first b (r ∷ rs) = (b ∷ r) ∷ rs

abbrev pub is_end : ℕ → ℕ → Bool
is_end b c = eqb b cr && eqb c lf

-- the rows of an input, each without its CR LF
unfoldable pub rows_of : List ℕ → List (List ℕ)
rows_of [] = []
rows_of (b ∷ []) = (b ∷ []) ∷ []
rows_of (b ∷ c ∷ bs) = let rest = rows_of bs in let more = rows_of (c ∷ bs) in cond (is_end b c) ([] ∷ rest) (on_first b more)
