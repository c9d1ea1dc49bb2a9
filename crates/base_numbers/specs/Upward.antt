-- Rounding up: of the numbers that are enough for a when taken b times, the least. By quotient and remainder, so that a and b, which may
-- have different units, stand in no sum. Assumes nothing.
use Rattle.std.specs.Prelude.{cond, ℕ, ◌+◌, ◌/◌, ◌%◌, min, eqb}

-- a over b: the quotient, and one more where something remains; over 0 it is 0, as the quotient is
unfoldable pub upward : (a b : ℕ) → ℕ
upward a b = cond (eqb b 0) 0 (a / b + min 1 (a % b))
