-- The place of the first element that passes a test, and the length of the list where none does; loops that look for it. Assumes nothing.
use Rattle.std.specs.Prelude.{◌≡◌, Bool, ◌||◌, eqb, take, drop, get_or}
use Rattle.std.proofs.Math.Path.{refl, sym, ap}
use Rattle.std.proofs.Common.{◌∙◌, not-suc-le-zero, le_of_suc-le-suc, add-one, drop_of_length-le}
use Rattle.std.proofs.Math.Bool.{true, false, cond, not}
use mathlib.Core.List.{List, [], ◌∷◌, map}
use Prim.Native.Nat.{ℕ, zero, suc, ◌+◌, ◌≤◌, ◌<◌}
use native.Mathlib.Omega.{arith}
use Rattle.std.proofs.Math.Dec.{ltb, leb-suc-suc, eqb-suc-suc, eqb-zero-suc}
use Rattle.std.proofs.Math.ListN.{length, set}
use borrow.Author.Tests.{lt-ltb}
use Rattle.spec_lists.specs.Lists.{one_if, cons_if, keep, sum_of, any_of}
use Rattle.base_lists.specs.Sums.{length_keep}
use Rattle.base_lists.specs.Loops.{left_next}

module _ {A : Type 0} (p : A → Bool) where
  unfoldable pub first_of : List A → ℕ
  first_of [] = 0
  first_of (x ∷ xs) = let n = first_of xs in cond (p x) 0 (suc n)

  pub first_most : (xs : List A) → first_of xs ≤ length xs
  unfolding first_of
  first_most [] = omega arith
  first_most (x ∷ xs) = go (p x) (first_most xs)
    where
      go : (b : Bool) → first_of xs ≤ length xs → cond b 0 (suc (first_of xs)) ≤ suc (length xs)
      go true h = omega arith
      go false h = omega arith

  -- there is one exactly where its place is inside
  pub first_some : (xs : List A) → ltb (first_of xs) (length xs) ≡ any_of p xs
  unfolding first_of
  first_some [] = refl
  first_some (x ∷ xs) = go (p x) (first_some xs)
    where
      go : (b : Bool) → ltb (first_of xs) (length xs) ≡ any_of p xs → ltb (cond b 0 (suc (first_of xs))) (suc (length xs)) ≡ (b || any_of p xs)
      go true e = lt-ltb 0 (suc (length xs)) (omega arith)
      go false e = leb-suc-suc (suc (first_of xs)) (length xs) ∙ e

  -- where no two pass, that one is replaced and every other stays
  none_mapped : (d : A) (xs : List A) → sum_of (λ x. one_if (p x)) xs ≤ 0 → xs ≡ map (λ x. cond (p x) d x) xs
  none_mapped d [] h = refl
  none_mapped d (x ∷ xs) h = go (p x) h (λ k. none_mapped d xs k)
    where
      go : (b : Bool) → one_if b + sum_of (λ x. one_if (p x)) xs ≤ 0 → (sum_of (λ x. one_if (p x)) xs ≤ 0 → xs ≡ map (λ x. cond (p x) d x) xs)
          → x ∷ xs ≡ cond b d x ∷ map (λ x. cond (p x) d x) xs
      go true h r = absurd (omega arith)
      go false h r = ap (λ l. x ∷ l) (r (omega arith))

  pub first_set : (d : A) (xs : List A) → sum_of (λ x. one_if (p x)) xs ≤ 1 → set xs (first_of xs) d ≡ map (λ x. cond (p x) d x) xs
  unfolding first_of
  first_set d [] h = refl
  first_set d (x ∷ xs) h = go (p x) h (λ k. first_set d xs k)
    where
      go : (b : Bool) → one_if b + sum_of (λ x. one_if (p x)) xs ≤ 1
          → (sum_of (λ x. one_if (p x)) xs ≤ 1 → set xs (first_of xs) d ≡ map (λ x. cond (p x) d x) xs)
          → set (x ∷ xs) (cond b 0 (suc (first_of xs))) d ≡ cond b d x ∷ map (λ x. cond (p x) d x) xs
      go true h r = ap (λ l. d ∷ l) (none_mapped d xs (omega arith))
      go false h r = ap (λ l. x ∷ l) (r (omega arith))

  -- ---- a loop that keeps the place found so far: of the first i elements, and of one more
  first_suc : (xs : List A) (i : ℕ) (d : A) → i < length xs → (let f = first_of (take i xs) in
      cond (p (get_or xs i d)) f (cond (eqb f i) (suc i) f) ≡ first_of (take (suc i) xs))
  unfolding first_of
  first_suc [] i d h = absurd (not-suc-le-zero h)
  first_suc (x ∷ xs) zero d h = refl
  first_suc (x ∷ xs) (suc i) d h = go (p x) (first_suc xs i d (le_of_suc-le-suc h))
    where
      f : ℕ
      f = first_of (take i xs)

      same : (b : Bool) → cond b 0 (cond (eqb 0 (suc i)) (suc (suc i)) 0) ≡ 0
      same true = refl
      same false = ap (λ c. cond c (suc (suc i)) 0) (eqb-zero-suc i)

      next : (b c : Bool) → cond b (suc f) (cond c (suc (suc i)) (suc f)) ≡ suc (cond b f (cond c (suc i) f))
      next true c = refl
      next false true = refl
      next false false = refl

      go : (b : Bool) → cond (p (get_or xs i d)) f (cond (eqb f i) (suc i) f) ≡ first_of (take (suc i) xs) → (let g = cond b 0 (suc f) in
          cond (p (get_or xs i d)) g (cond (eqb g (suc i)) (suc (suc i)) g) ≡ cond b 0 (suc (first_of (take (suc i) xs))))
      go true e = same (p (get_or xs i d))
      go false e =
          ap (λ c. cond (p (get_or xs i d)) (suc f) (cond c (suc (suc i)) (suc f))) (eqb-suc-suc f i)
          ∙ next (p (get_or xs i d)) (eqb f i)
          ∙ ap suc e

  pub first_more : {f : ℕ} (xs : List A) (i : ℕ) (d : A) → i < length xs → f ≡ first_of (take i xs)
      → cond (p (get_or xs i d)) f (cond (eqb f i) (i + 1) f) ≡ first_of (take (i + 1) xs)
  first_more xs i d h e = rw (add-one, e) (first_suc xs i d h)

  -- ---- a loop that stops at the first: v is its place, after i turns
  module _ (xs : List A) (i : ℕ) {v : ℕ} (w : i + first_of (drop i xs) ≡ v) where
    first_next : {b c : Bool} (d : A) → i < length xs → b ≡ p (get_or xs i d) → b ≡ c → i + cond c 0 (suc (first_of (drop (i + 1) xs))) ≡ v
    unfolding first_of
    first_next d h q r =
        ap (λ b. i + cond b 0 (suc (first_of (drop (i + 1) xs)))) (sym r ∙ q)
        ∙ sym (ap (λ l. i + first_of l) (left_next xs i d h))
        ∙ w

    pub first_found : {b : Bool} (d : A) → i < length xs → b ≡ p (get_or xs i d) → b ≡ true → i ≡ v
    first_found d h q r = omega (arith, first_next d h q r)

    pub first_passed : {b : Bool} (d : A) → i < length xs → b ≡ p (get_or xs i d) → b ≡ false → (i + 1) + first_of (drop (i + 1) xs) ≡ v
    first_passed d h q r = omega (arith, first_next d h q r)

    pub first_ended : length xs ≤ i → i ≡ v
    unfolding first_of
    first_ended h = omega (arith, w, ap first_of (drop_of_length-le xs h))

-- ---- the first that is not kept: a list is kept whole exactly where there is none
module _ {A : Type 0} (k : A → Bool) where
  pub first_kept : (xs : List A) → first_of (λ x. not (k x)) xs ≤ length (keep k xs)
  unfolding first_of
  first_kept [] = omega arith
  first_kept (x ∷ xs) = go (k x) (first_kept xs)
    where
      go : (b : Bool) → first_of (λ x. not (k x)) xs ≤ length (keep k xs)
          → cond (not b) 0 (suc (first_of (λ x. not (k x)) xs)) ≤ length (cons_if b x (keep k xs))
      go true h = omega arith
      go false h = omega arith

  pub kept_first : (xs : List A) → length xs ≤ length (keep k xs) → length xs ≤ first_of (λ x. not (k x)) xs
  unfolding first_of
  kept_first [] h = omega arith
  kept_first (x ∷ xs) h = go (k x) h (λ l. kept_first xs l)
    where
      go : (b : Bool) → suc (length xs) ≤ length (cons_if b x (keep k xs))
          → (length xs ≤ length (keep k xs) → length xs ≤ first_of (λ x. not (k x)) xs)
          → suc (length xs) ≤ cond (not b) 0 (suc (first_of (λ x. not (k x)) xs))
      go true h r = omega (arith, r (omega arith))
      go false h r = absurd (omega (arith, length_keep k xs))
