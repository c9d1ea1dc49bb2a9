-- Two lists taken together, place by place, as far as both go: what stands at a place, where the second list is spare, and where both are
-- maps of one list. Assumes nothing.
use Rattle.std.specs.Prelude.{◌≡◌, length, get_or}
use Rattle.std.proofs.Math.Path.{refl, ap, ap₂}
use Rattle.std.proofs.Common.{◌∙◌, not-suc-le-zero, le_of_suc-le-suc}
use mathlib.Core.List.{List, [], ◌∷◌, map}
use Prim.Native.Nat.{ℕ, zero, suc, ◌<◌, min, zero-le, suc-le-suc}
use native.Mathlib.Omega.{arith}
use Rattle.spec_lists.specs.All.{stop, and}
use Rattle.base_lists.specs.Spare.{Spare}

module _ {A B C : Type 0} (f : A → B → C) where
  unfoldable pub zip : List A → List B → List C
  zip [] ys = []
  zip (x ∷ xs) [] = []
  zip (x ∷ xs) (y ∷ ys) = f x y ∷ zip xs ys

  pub length_zip : (xs : List A) (ys : List B) → length (zip xs ys) ≡ min (length xs) (length ys)
  unfolding zip
  length_zip [] ys = omega arith
  length_zip (x ∷ xs) [] = omega arith
  length_zip (x ∷ xs) (y ∷ ys) = omega (arith, length_zip xs ys)

  pub zip_at : (xs : List A) (ys : List B) (i : ℕ) (a : A) (b : B) (c : C) → i < length xs → i < length ys
      → get_or (zip xs ys) i c ≡ f (get_or xs i a) (get_or ys i b)
  unfolding zip
  zip_at [] ys i a b c h k = absurd (not-suc-le-zero h)
  zip_at (x ∷ xs) [] i a b c h k = absurd (not-suc-le-zero k)
  zip_at (x ∷ xs) (y ∷ ys) zero a b c h k = refl
  zip_at (x ∷ xs) (y ∷ ys) (suc i) a b c h k = zip_at xs ys i a b c (le_of_suc-le-suc h) (le_of_suc-le-suc k)

  pub zip_spare : {b : B} {c : C} → ((x : A) → f x b ≡ c) → (n : ℕ) (xs : List A) (ys : List B) → Spare b n ys → Spare c n (zip xs ys)
  unfolding zip
  zip_spare z zero [] ys h = stop
  zip_spare z zero (x ∷ xs) [] h = stop
  zip_spare z zero (x ∷ xs) (y ∷ ys) (and e h) = and (ap (f x) e ∙ z x) (zip_spare z zero xs ys h)
  zip_spare z (suc n) [] ys h = stop
  zip_spare z (suc n) (x ∷ xs) [] h = stop
  zip_spare z (suc n) (x ∷ xs) (y ∷ ys) h = zip_spare z n xs ys h

  pub zip_map : {E : Type 0} (g : E → A) (h : E → B) (es : List E) → zip (map g es) (map h es) ≡ map (λ e. f (g e) (h e)) es
  unfolding zip
  zip_map g h [] = refl
  zip_map g h (e ∷ es) = ap (λ l. f (g e) (h e) ∷ l) (zip_map g h es)

  -- place by place the same as a map of another list
  pub zip_as : {E : Type 0} (g : E → C) (xs : List A) (ys : List B) (es : List E) (a : A) (b : B) (d : E) → length xs ≡ length es
      → length ys ≡ length es → ((i : ℕ) → i < length es → f (get_or xs i a) (get_or ys i b) ≡ g (get_or es i d)) → zip xs ys ≡ map g es
  unfolding zip
  zip_as g [] ys [] a b d p q h = refl
  zip_as g [] ys (e ∷ es) a b d p q h = absurd (omega arith)
  zip_as g (x ∷ xs) ys [] a b d p q h = absurd (omega arith)
  zip_as g (x ∷ xs) [] (e ∷ es) a b d p q h = absurd (omega arith)
  zip_as g (x ∷ xs) (y ∷ ys) (e ∷ es) a b d p q h =
      ap₂ (λ v l. v ∷ l) (h zero (suc-le-suc zero-le))
      (zip_as g xs ys es a b d (omega arith) (omega arith) (λ i l. h (suc i) (suc-le-suc l)))
