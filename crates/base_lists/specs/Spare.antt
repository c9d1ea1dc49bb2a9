-- Loops that stop before the end of an array, since all that is left there is spare: the same element again and again, to which the
-- loop would do nothing. Assumes nothing.
use Rattle.std.specs.Prelude.{◌≡◌, refl, List, [], ◌∷◌, ◌++◌, map, ℕ, zero, suc, ◌+◌, ◌-◌, ◌≤◌, ◌<◌, length, take, drop, set, get_or, replicate}
use Rattle.std.proofs.Common.{sym, ap, ap₂, subst, ◌∙◌, zero-le, suc-le-suc, not-suc-le-zero, le_of_suc-le-suc, add-one, arith, length-drop, drop_of_length-le}
use Rattle.spec_lists.specs.Lists.{sum_of}
use Rattle.spec_lists.specs.All.{All, stop, and}
use Rattle.base_lists.specs.All.{at_all}

module _ {A : Type 0} (d : A) where
  -- from place n on each is d
  abbrev pub Spare : ℕ → List A → Type 0
  Spare n xs = All (λ x. x ≡ d) (drop n xs)

  -- nothing is left there
  pub spare_end : (n : ℕ) (xs : List A) → length xs ≤ n → Spare n xs
  spare_end n xs h = rw (drop_of_length-le xs h) stop

  -- among the first i elements, and one more
  spare_suc : (n i : ℕ) (xs : List A) (z : A) → i < length xs → get_or xs i z ≡ d → Spare n (take i xs) → Spare n (take (suc i) xs)
  spare_suc n i [] z l e h = absurd (not-suc-le-zero l)
  spare_suc zero zero (x ∷ xs) z l e h = and e stop
  spare_suc zero (suc i) (x ∷ xs) z l e (and q h) = and q (spare_suc zero i xs z (le_of_suc-le-suc l) e h)
  spare_suc (suc n) zero (x ∷ xs) z l e h = spare_end n [] zero-le
  spare_suc (suc n) (suc i) (x ∷ xs) z l e h = spare_suc n i xs z (le_of_suc-le-suc l) e h

  pub spare_more : (n i : ℕ) (xs : List A) (z : A) → i < length xs → get_or xs i z ≡ d → Spare n (take i xs) → Spare n (take (i + 1) xs)
  spare_more n i xs z l e h = rw add-one (spare_suc n i xs z l e h)

  pub spare_at_lem : (n i : ℕ) (xs : List A) (z : A) → Spare n xs → n ≤ i → i < length xs → get_or xs i z ≡ d
  spare_at_lem n i [] z h k l = absurd (not-suc-le-zero l)
  spare_at_lem zero zero (x ∷ xs) z (and e h) k l = e
  spare_at_lem zero (suc i) (x ∷ xs) z (and e h) k l = spare_at_lem zero i xs z h zero-le (le_of_suc-le-suc l)
  spare_at_lem (suc n) zero (x ∷ xs) z h k l = absurd (not-suc-le-zero k)
  spare_at_lem (suc n) (suc i) (x ∷ xs) z h k l = spare_at_lem n i xs z h (le_of_suc-le-suc k) (le_of_suc-le-suc l)

  pub spare_of : (n : ℕ) (xs : List A) (z : A) → ((i : ℕ) → n ≤ i → i < length xs → get_or xs i z ≡ d) → Spare n xs
  spare_of zero xs z h = at_all (λ x. x ≡ d) xs z (λ i l. h i zero-le l)
  spare_of (suc n) [] z h = stop
  spare_of (suc n) (x ∷ xs) z h = spare_of n xs z (λ i k l. h (suc i) (suc-le-suc k) (suc-le-suc l))

  pub spare_map : {B : Type 0} (f : A → B) (n : ℕ) (xs : List A) → Spare n xs → All (λ y. y ≡ f d) (drop n (map f xs))
  spare_map f zero [] h = stop
  spare_map f zero (x ∷ xs) (and e h) = and (ap f e) (spare_map f zero xs h)
  spare_map f (suc n) [] h = stop
  spare_map f (suc n) (x ∷ xs) h = spare_map f n xs h

  pub spare_sum : (f : A → ℕ) → f d ≡ 0 → (n : ℕ) (xs : List A) → Spare n xs → sum_of f (take n xs) ≡ sum_of f xs
  spare_sum f z zero [] h = refl
  spare_sum f z zero (x ∷ xs) (and e h) = omega (arith, ap f e, z, spare_sum f z zero xs h)
  spare_sum f z (suc n) [] h = refl
  spare_sum f z (suc n) (x ∷ xs) h = omega (arith, spare_sum f z n xs h)

  -- a loop that replaces each element
  pub spare_mapped : (f : A → A) → f d ≡ d → (n : ℕ) (xs : List A) → Spare n xs → map f (take n xs) ++ drop n xs ≡ map f xs
  spare_mapped f z zero [] h = refl
  spare_mapped f z zero (x ∷ xs) (and e h) = ap₂ (λ y l. y ∷ l) (e ∙ sym (ap f e ∙ z)) (spare_mapped f z zero xs h)
  spare_mapped f z (suc n) [] h = refl
  spare_mapped f z (suc n) (x ∷ xs) h = ap (λ l. f x ∷ l) (spare_mapped f z n xs h)

  -- a loop that fills an array of m places with the elements of xs: the first i are there, and d behind them
  abbrev pub begun : (m i : ℕ) → List A → List A
  begun m i xs = take i xs ++ replicate (m - i) d

  begun_suc : (i r : ℕ) (xs : List A) (z : A) → i < length xs
      → set (take i xs ++ replicate (suc r) d) i (get_or xs i z) ≡ take (suc i) xs ++ replicate r d
  begun_suc i r [] z h = absurd (not-suc-le-zero h)
  begun_suc zero r (x ∷ xs) z h = refl
  begun_suc (suc i) r (x ∷ xs) z h = ap (λ l. x ∷ l) (begun_suc i r xs z (le_of_suc-le-suc h))

  pub begun_more : {v : A} {ys : List A} (m i : ℕ) (xs : List A) (z : A) → length xs ≡ m → i < m → ys ≡ begun m i xs
      → v ≡ get_or xs i z → set ys i v ≡ begun m (i + 1) xs
  begun_more m i xs z e l p q =
      let up : m - i ≡ suc (m - (i + 1)) = omega arith in
      rw (p, q, up, add-one i) (begun_suc i (m - suc i) xs z (omega arith))

  -- at a place of d nothing is to be done
  begun_pass : (i r : ℕ) (xs : List A) (z : A) → i < length xs → get_or xs i z ≡ d
      → take i xs ++ replicate (suc r) d ≡ take (suc i) xs ++ replicate r d
  begun_pass i r [] z h e = absurd (not-suc-le-zero h)
  begun_pass zero r (x ∷ xs) z h e = ap (λ y. y ∷ replicate r d) (sym e)
  begun_pass (suc i) r (x ∷ xs) z h e = ap (λ l. x ∷ l) (begun_pass i r xs z (le_of_suc-le-suc h) e)

  pub begun_same : {ys : List A} (m i : ℕ) (xs : List A) (z : A) → length xs ≡ m → i < m → ys ≡ begun m i xs → get_or xs i z ≡ d
      → ys ≡ begun m (i + 1) xs
  begun_same m i xs z e l p q =
      let up : m - i ≡ suc (m - (i + 1)) = omega arith in
      rw (p, up, add-one i) (begun_pass i (m - suc i) xs z (omega arith) q)

  begun_spare : (i r : ℕ) (xs : List A) → length (drop i xs) ≡ r → Spare i xs → take i xs ++ replicate r d ≡ xs
  begun_spare zero r [] e h = rw (sym e)
  begun_spare zero r (x ∷ xs) e (and q h) = rw (sym e) (ap₂ (λ y l. y ∷ l) (sym q) (begun_spare zero (length xs) xs refl h))
  begun_spare (suc i) r [] e h = rw (sym e)
  begun_spare (suc i) r (x ∷ xs) e h = ap (λ l. x ∷ l) (begun_spare i r xs e h)

  pub begun_all : (m i : ℕ) (xs : List A) → length xs ≡ m → Spare i xs → begun m i xs ≡ xs
  begun_all m i xs e h = begun_spare i (m - i) xs (length-drop i xs ∙ ap (λ k. k - i) e) h

-- ---- such a loop, after i turns of n
pub record Filling {A : Type 0} (d : A) (xs : List A) (n : ℕ) (ys : List A) (i : ℕ) : Type 0 where
  pub inside : i ≤ n
  pub so_far : ys ≡ begun d (length xs) i xs

module _ {A : Type 0} {d : A} {xs : List A} {n : ℕ} where
  pub filling_none : {m : ℕ} → length xs ≡ m → Filling d xs n (replicate m d) 0
  filling_none {m} e =
      let k : m ≡ length xs - 0 = omega arith in
      record { inside = omega arith; so_far = ap (λ r. replicate r d) k }

  module _ {ys : List A} {i : ℕ} (f : Filling d xs n ys i) where
    pub filling_more : {v : A} (z : A) → n ≤ length xs → i < n → v ≡ get_or xs i z → Filling d xs n (set ys i v) (i + 1)
    filling_more z l h e =
        record { inside = omega arith; so_far = begun_more d (length xs) i xs z refl (omega arith) f.so_far e }

    pub filling_all : n ≤ i → Spare d n xs → ys ≡ xs
    filling_all h q =
        let e : n ≡ i = omega (arith, f.inside) in
        f.so_far ∙ begun_all d (length xs) i xs refl (subst (λ k. Spare d k xs) e q)
