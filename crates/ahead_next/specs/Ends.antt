-- The first end of a period or a life, by the figures of a table. Assumes nothing.
use Rattle.std.specs.Prelude.{List, [], ◌∷◌, ℕ, min}
use Rattle.ahead_figures.specs.Figures.{never}

-- the first of all
unfoldable pub first_end : List ℕ → ℕ
first_end [] = never
first_end (e ∷ es) = min e (first_end es)
