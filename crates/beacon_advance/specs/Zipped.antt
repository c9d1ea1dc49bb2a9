-- A loop that replaces each element of a list by what stands beside it in another: after i turns the first i are replaced. Assumes nothing.
use Rattle.std.specs.Prelude.{◌≡◌, length, take, drop, set, get_or}
use Rattle.std.proofs.Math.Path.{refl, sym, ap, ap₂}
use Rattle.std.proofs.Common.{◌∙◌, not-suc-le-zero, le_of_suc-le-suc, add-one, arith}
use mathlib.Core.List.{List, [], ◌∷◌, ◌++◌}
use Prim.Native.Nat.{ℕ, zero, suc, ◌+◌, ◌<◌}
use Rattle.spec_lists.specs.All.{and}
use Rattle.base_lists.specs.Spare.{Spare}
use Rattle.table_queue.specs.Zips.{zip}

module _ {A B : Type 0} (f : A → B → B) where
  abbrev pub zipped : ℕ → List A → List B → List B
  zipped i xs ys = take i (zip f xs ys) ++ drop i ys

  -- the place of the turn is not replaced yet
  pub zipped_at : (xs : List A) (ys : List B) (i : ℕ) (b : B) → length xs ≡ length ys → i < length ys
      → get_or (zipped i xs ys) i b ≡ get_or ys i b
  unfolding zip
  zipped_at xs [] i b e h = absurd (not-suc-le-zero h)
  zipped_at [] (y ∷ ys) i b e h = absurd (omega arith)
  zipped_at (x ∷ xs) (y ∷ ys) zero b e h = refl
  zipped_at (x ∷ xs) (y ∷ ys) (suc i) b e h = zipped_at xs ys i b (omega arith) (le_of_suc-le-suc h)

  zipped_suc : (xs : List A) (ys : List B) (i : ℕ) (a : A) (b : B) → length xs ≡ length ys → i < length ys
      → set (zipped i xs ys) i (f (get_or xs i a) (get_or ys i b)) ≡ zipped (suc i) xs ys
  unfolding zip
  zipped_suc xs [] i a b e h = absurd (not-suc-le-zero h)
  zipped_suc [] (y ∷ ys) i a b e h = absurd (omega arith)
  zipped_suc (x ∷ xs) (y ∷ ys) zero a b e h = refl
  zipped_suc (x ∷ xs) (y ∷ ys) (suc i) a b e h = ap (λ l. f x y ∷ l) (zipped_suc xs ys i a b (omega arith) (le_of_suc-le-suc h))

  pub zipped_more : (xs : List A) (ys : List B) (i : ℕ) (a : A) (b : B) → length xs ≡ length ys → i < length ys
      → set (zipped i xs ys) i (f (get_or xs i a) (get_or ys i b)) ≡ zipped (i + 1) xs ys
  zipped_more xs ys i a b e h = rw add-one (zipped_suc xs ys i a b e h)

  -- the rest is spare: the loop would leave it as it is
  pub zipped_all : {d : B} → ((x : A) → f x d ≡ d) → (n : ℕ) (xs : List A) (ys : List B) → length xs ≡ length ys → Spare d n ys
      → zipped n xs ys ≡ zip f xs ys
  unfolding zip
  zipped_all z zero [] [] e h = refl
  zipped_all z zero [] (y ∷ ys) e h = absurd (omega arith)
  zipped_all z zero (x ∷ xs) [] e h = refl
  zipped_all z zero (x ∷ xs) (y ∷ ys) e (and q h) =
      ap₂ (λ v l. v ∷ l) (q ∙ sym (ap (f x) q ∙ z x)) (zipped_all z zero xs ys (omega arith) h)
  zipped_all z (suc n) [] [] e h = refl
  zipped_all z (suc n) [] (y ∷ ys) e h = absurd (omega arith)
  zipped_all z (suc n) (x ∷ xs) [] e h = refl
  zipped_all z (suc n) (x ∷ xs) (y ∷ ys) e h = ap (λ l. f x y ∷ l) (zipped_all z n xs ys (omega arith) h)
