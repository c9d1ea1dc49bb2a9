-- A printed number that is read again is the number, and it has no leading zero. Assumes nothing.
use Rattle.std.specs.Prelude.{◌≡◌, true, List, [], ◌∷◌, map, length, get_or}
use Rattle.std.proofs.Math.Path.{refl, ap}
use Rattle.std.proofs.Common.{◌∙◌, mul-one, mod-eq_of_lt, mul_assoc, mul_comm, add-mul, le-div_iff_mul-le, div-lt_iff_lt-mul, arith, le-leb}
use Prim.Native.Nat.{ℕ, zero, suc, ◌+◌, ◌*◌, ◌-◌, ◌/◌, ◌%◌, ◌^◌, ◌≤◌, ◌<◌}
use Rattle.std.proofs.Math.Nat.{pow-succ', mod-one}
use Rattle.std.proofs.Math.Arith.{mod-mul}
use Rattle.base_lists.specs.Tests.{both_and, both_within}
use Rattle.spec_text.specs.Fields.{all_digits, spelt, value_of, is_number}
use Rattle.spec_shelf.specs.Bytes.{digit_at, decimal}
use Rattle.row_write.specs.Powers.{powers, power_positive, top_power, digits, decimal_least, decimal_most}

-- the digits at the k lowest powers go on to spell the number's last k digits
spelt_powers : (n k v : ℕ) → spelt v (map (digit_at n) (powers k)) ≡ v * 10 ^ k + n % 10 ^ k
unfolding spelt
spelt_powers n zero v = omega (arith, mul-one v, mod-one n)
spelt_powers n (suc k) v =
    let d = n / 10 ^ k % 10 in
    omega (
      arith,
      spelt_powers n k (10 * v + (48 + d - 48)),
      add-mul (10 * v) (48 + d - 48) (10 ^ k),
      ap (λ x. x * 10 ^ k) (the_digit d),
      ap (λ x. v * x) (pow-succ' 10 k),
      mul_assoc v 10 (10 ^ k),
      ap (λ x. x * 10 ^ k) (mul_comm 10 v),
      ap (λ x. n % x) (pow-succ' 10 k),
      mod-mul n {m = 10} {c = 10 ^ k} (omega arith) (power_positive k),
    )
  where
    the_digit : (d : ℕ) → 48 + d - 48 ≡ d
    the_digit d = omega arith

all_digits_lem : (n : ℕ) (ps : List ℕ) → all_digits (map (digit_at n) ps) ≡ true
unfolding all_digits
all_digits_lem n [] = refl
all_digits_lem n (p ∷ ps) = both_and _ _ (both_within 48 57 (digit_at n p) (omega arith) (omega arith)) (all_digits_lem n ps)

module _ (n : ℕ) (h : n ≤ 4294967295) where
  below_top : n < 10 ^ suc (top_power n).top
  below_top = omega (arith, (top_power n).most (omega arith))

  pub reads_back : value_of (decimal n) ≡ n
  reads_back =
      let k = suc (top_power n).top in
      ap value_of (digits n) ∙ omega (arith, spelt_powers n k 0, mod-eq_of_lt below_top)

  pub is_number_lem : is_number (decimal n) ≡ true
  unfolding is_number
  is_number_lem =
      both_and _ _ (both_within 1 10 (length (decimal n)) (decimal_least n) (decimal_most n))
      (both_and _ _ (ap all_digits (digits n) ∙ all_digits_lem n (powers (suc (top_power n).top)))
      (le-leb (value_of (decimal n)) 4294967295 (omega (arith, reads_back))))

  -- no leading zero: the first digit is 0 only where it is the only one
  first_digit : 1 ≤ n → 49 ≤ get_or (decimal n) 0 0
  first_digit l =
      let p = 10 ^ (top_power n).top in
      let z = power_positive (top_power n).top in
      let few : n / p < 10 = (div-lt_iff_lt-mul z).1 (omega (arith, below_top, pow-succ' 10 (top_power n).top)) in
      let some : 1 ≤ n / p = (le-div_iff_mul-le z).1 (omega (arith, (top_power n).least)) in
      rw (digits n) (omega arith)

  pub no_leading_zero : get_or (decimal n) 0 0 ≡ 48 → decimal n ≡ 48 ∷ []
  unfolding decimal
  no_leading_zero e = ap decimal (only_zero n (λ l. omega (arith, first_digit l)))
    where
      only_zero : (k : ℕ) → (1 ≤ k → ⊥) → k ≡ 0
      only_zero zero f = refl
      only_zero (suc k) f = absurd (f (omega arith))
