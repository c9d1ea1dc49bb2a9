-- Rounding up: of the numbers that are enough for a when taken b times, the least. By quotient and remainder, so that a and b, which may
-- have different units, stand in no sum. Assumes nothing.
use Rattle.std.specs.Prelude.{◌≡◌, refl, ℕ, zero, suc, ◌+◌, ◌*◌, ◌/◌, ◌%◌, ◌≤◌, ◌<◌}
use Rattle.std.proofs.Common.{div-add-mod', mod-lt, le_of_mul-le-mul_right, lt_of_mul-lt-mul_right, le-mul_of_pos_right, arith, ne_eqb}
use Rattle.base_numbers.specs.Upward.{upward}

-- ---- by what remains
pub upward_zero : (a : ℕ) → upward a 0 ≡ 0
unfolding upward
upward_zero a = refl

pub upward_exact : (a b : ℕ) → 1 ≤ b → a % b ≡ 0 → upward a b ≡ a / b
unfolding upward
upward_exact a b h r = rw (ne_eqb b 0 (λ z. omega arith)) (omega arith)

pub upward_more : (a b : ℕ) → 1 ≤ b → 1 ≤ a % b → upward a b ≡ a / b + 1
unfolding upward
upward_more a b h r = rw (ne_eqb b 0 (λ z. omega arith)) (omega arith)

-- ---- it is enough, and the least that is
pub upward_enough : (a b : ℕ) → 1 ≤ b → a ≤ upward a b * b
upward_enough a b h = go (a % b) refl
  where
    go : (r : ℕ) → a % b ≡ r → a ≤ upward a b * b
    go zero e = rw (upward_exact a b h e) (omega (arith, div-add-mod' a b))
    go (suc r) e = rw (upward_more a b h (omega arith)) (omega (arith, div-add-mod' a b, mod-lt a h))

pub upward_least : (a b q : ℕ) → a ≤ q * b → upward a b ≤ q
upward_least a zero q h = omega (arith, upward_zero a)
upward_least a (suc n) q h = go (a % suc n) refl
  where
    some : 1 ≤ suc n
    some = omega arith

    go : (r : ℕ) → a % suc n ≡ r → upward a (suc n) ≤ q
    go zero e = rw (upward_exact a (suc n) some e) (le_of_mul-le-mul_right (omega (arith, div-add-mod' a (suc n))) some)
    go (suc r) e =
        let more : a / suc n < q = lt_of_mul-lt-mul_right (suc n) (omega (arith, div-add-mod' a (suc n))) in
        omega (arith, upward_more a (suc n) some (omega arith))

pub upward_none : (b : ℕ) → upward 0 b ≡ 0
upward_none b = omega (arith, upward_least 0 b 0 (omega arith))

pub upward_most : (a b : ℕ) → upward a b ≤ a
upward_most a zero = omega (arith, upward_zero a)
upward_most a (suc n) = upward_least a (suc n) a (le-mul_of_pos_right a (omega arith))
