-- Numbers as digits, and bytes in lent memory. Document 01, "Reading, lending, printing": numbers without leading zeros, their digits
-- from a table of powers of ten. Assumes nothing.
use Rattle.std.specs.Prelude.{ℕ, ◌+◌, ◌/◌, ◌%◌, max, List, [], ◌∷◌, ◌++◌, map, leb, length, take, drop}
use Rattle.spec_lists.specs.Lists.{keep}

-- ---- numbers
abbrev pub tens : List ℕ
tens = 1000000000 ∷ 100000000 ∷ 10000000 ∷ 1000000 ∷ 100000 ∷ 10000 ∷ 1000 ∷ 100 ∷ 10 ∷ 1 ∷ []

-- the digit of n at a power of ten
abbrev pub digit_at : ℕ → ℕ → ℕ
digit_at n p = 48 + n / p % 10

-- the digits at the powers that are at most n; 0 has one
unfoldable pub decimal : ℕ → List ℕ
decimal n = map (digit_at n) (keep (λ p. leb p (max 1 n)) tens)

-- room for a number
abbrev pub number_most : ℕ
number_most = 10

-- ---- lent memory: some bytes stand in it from a place on, and every other byte is as it was
unfoldable pub written : List ℕ → ℕ → List ℕ → List ℕ
written out at bs = take at out ++ bs ++ drop (at + length bs) out
