-- The kinds of a request, and the numbers that offers and entries carry for them. Document 01, "Units and one request". Assumes nothing.
use Rattle.std.specs.Prelude.{◌≡◌, ◌≢◌, ℕ, Option, Result, MatchOption, MatchResult}
use Rattle.spec_model.specs.declared.kind.Kind.{Kind}
use Rattle.spec_model.specs.declared.kind.Kind.TheVariants.{Fraction, Whole, Transfer}
use Rattle.spec_model.specs.declared.kind.UnknownKind.{UnknownKind}

-- the number of a kind
abbrev pub kind_number : Kind → ℕ
kind_number Fraction = 1
kind_number Whole = 2
kind_number Transfer = 3

-- a number that no kind has
abbrev pub NoKind : ℕ → Type 0
NoKind n = (n ≢ 1) × ((n ≢ 2) × (n ≢ 3))

-- the result is the kind with this number, or the number where no kind has it
abbrev pub Tells : ℕ → Result Kind UnknownKind → Type 0
Tells n r = MatchResult r (λ k. kind_number k ≡ n) (λ u. (u.0 ≡ n) × NoKind n)

-- the result is the kind with this number, if there is one
abbrev pub Known : ℕ → Option Kind → Type 0
Known n o = MatchOption o (NoKind n) (λ k. kind_number k ≡ n)
