-- Loops over a list, from the front: after i turns the first i elements are replaced, or added up, or passed in a search, and what is
-- left gives what the whole gives. The code's next turn is i + 1. Assumes nothing.
use Rattle.std.specs.Prelude.{◌≡◌, refl, Bool, true, false, ◌&&◌, ◌||◌, List, [], ◌∷◌, ◌++◌, map, ℕ, zero, suc, ◌+◌, ◌≤◌, ◌<◌, length, take, drop, set, get_or}
use Rattle.std.proofs.Common.{sym, ap, ap₂, ◌∙◌, append_assoc, not-suc-le-zero, le_of_suc-le-suc, add-one, arith, length-set, take-suc, take-suc-set, take_all, drop-cons}
use Rattle.std.proofs.lemmas.List.{map-append, set_split}
use Rattle.spec_lists.specs.Lists.{cons_if, one_if, keep, sum_of, any_of}
use Rattle.spec_lists.specs.All.{All, stop, and}

-- ---- one turn, at place i; a read past the end would give d
module _ {A : Type 0} (xs : List A) (i : ℕ) (d : A) (h : i < length xs) where
  -- what is left begins with the element
  pub left_next : drop i xs ≡ get_or xs i d ∷ drop (i + 1) xs
  left_next = rw add-one (drop-cons xs i d h)

  -- what is passed ends with it
  pub passed_next : (ys : List A) → take (i + 1) xs ++ ys ≡ take i xs ++ get_or xs i d ∷ ys
  passed_next ys = rw (add-one, take-suc xs i d h) (append_assoc (take i xs) (get_or xs i d ∷ []) ys)

  pub set_next : (x : A) → set xs i x ≡ take i xs ++ x ∷ drop (i + 1) xs
  set_next x = rw add-one (set_split xs i x h)

-- the element of a map
pub map_at : {A B : Type 0} (f : A → B) (xs : List A) (i : ℕ) (d : A) (e : B) → i < length xs → get_or (map f xs) i e ≡ f (get_or xs i d)
map_at f [] i d e h = absurd (not-suc-le-zero h)
map_at f (x ∷ xs) zero d e h = refl
map_at f (x ∷ xs) (suc i) d e h = map_at f xs i d e (le_of_suc-le-suc h)

-- ---- a loop that replaces each element
module _ {A : Type 0} (f : A → A) where
  -- the first i replaced, the others as they were
  abbrev pub mapped : ℕ → List A → List A
  mapped i xs = map f (take i xs) ++ drop i xs

  mapped_suc : (xs : List A) (i : ℕ) (d : A) → i < length xs → set (mapped i xs) i (f (get_or xs i d)) ≡ mapped (suc i) xs
  mapped_suc [] i d h = absurd (not-suc-le-zero h)
  mapped_suc (x ∷ xs) zero d h = refl
  mapped_suc (x ∷ xs) (suc i) d h = ap (λ l. f x ∷ l) (mapped_suc xs i d (le_of_suc-le-suc h))

  pub mapped_more : (xs : List A) (i : ℕ) (d : A) → i < length xs → set (mapped i xs) i (f (get_or xs i d)) ≡ mapped (i + 1) xs
  mapped_more xs i d h = rw add-one (mapped_suc xs i d h)

  -- the place of the turn is not replaced yet
  pub mapped_at : (xs : List A) (i : ℕ) (d : A) → i < length xs → get_or (mapped i xs) i d ≡ get_or xs i d
  mapped_at [] i d h = absurd (not-suc-le-zero h)
  mapped_at (x ∷ xs) zero d h = refl
  mapped_at (x ∷ xs) (suc i) d h = mapped_at xs i d (le_of_suc-le-suc h)

  pub mapped_all : (xs : List A) (i : ℕ) → length xs ≤ i → mapped i xs ≡ map f xs
  mapped_all [] zero h = refl
  mapped_all [] (suc i) h = refl
  mapped_all (x ∷ xs) zero h = absurd (not-suc-le-zero h)
  mapped_all (x ∷ xs) (suc i) h = ap (λ l. f x ∷ l) (mapped_all xs i (le_of_suc-le-suc h))

-- ---- a loop that fills ys by the elements of xs, both n long: the first i are filled
pub record Copied {A B : Type 0} (f : A → B) (xs : List A) (n : ℕ) (ys : List B) (i : ℕ) : Type 0 where
  pub inside : i ≤ n
  pub size : length ys ≡ n
  pub so_far : take i ys ≡ map f (take i xs)

module _ {A B : Type 0} {f : A → B} {xs : List A} {ys : List B} where
  pub copied_none : Copied f xs (length ys) ys 0
  copied_none = record { inside = omega arith; size = refl; so_far = refl }

  module _ {n i : ℕ} (l : length xs ≡ n) (c : Copied f xs n ys i) where
    pub copied_more : {v : B} (d : A) → i < n → v ≡ f (get_or xs i d) → Copied f xs n (set ys i v) (i + 1)
    copied_more {v} d h q =
        let hx : i < length xs = omega arith in
        let hy : i < length ys = omega arith in
        record {
          inside = omega arith;
          size = length-set ys i v ∙ c.size;
          so_far = rw (add-one i, take-suc-set ys i v hy, take-suc xs i d hx, map-append, c.so_far, q);
        }

    pub copied_all : n ≤ i → ys ≡ map f xs
    copied_all h =
        let hx : length xs ≤ i = omega arith in
        let hy : length ys ≤ i = omega arith in
        sym (take_all i ys hy) ∙ c.so_far ∙ ap (map f) (take_all i xs hx)

-- ---- a loop that adds up f of each element
module _ {A : Type 0} (f : A → ℕ) where
  abbrev pub summed : ℕ → List A → ℕ
  summed i xs = sum_of f (take i xs)

  summed_suc : (xs : List A) (i : ℕ) (d : A) → i < length xs → summed i xs + f (get_or xs i d) ≡ summed (suc i) xs
  summed_suc [] i d h = absurd (not-suc-le-zero h)
  summed_suc (x ∷ xs) zero d h = omega arith
  summed_suc (x ∷ xs) (suc i) d h = omega (arith, summed_suc xs i d (le_of_suc-le-suc h))

  -- what the code has so far, and the number that it adds
  pub summed_more : {all v : ℕ} (xs : List A) (i : ℕ) (d : A) → i < length xs → all ≡ summed i xs → v ≡ f (get_or xs i d)
      → all + v ≡ summed (i + 1) xs
  summed_more xs i d h p q = rw (add-one, p, q) (summed_suc xs i d h)

  pub summed_all : (xs : List A) (i : ℕ) → length xs ≤ i → summed i xs ≡ sum_of f xs
  summed_all xs i h = ap (sum_of f) (take_all i xs h)

-- ---- a search that goes on to the end: whether one of the first i elements passes, and of one more
module _ {A : Type 0} (p : A → Bool) where
  any_suc : (xs : List A) (i : ℕ) (d : A) → i < length xs → (any_of p (take i xs) || p (get_or xs i d)) ≡ any_of p (take (suc i) xs)
  any_suc [] i d h = absurd (not-suc-le-zero h)
  any_suc (x ∷ xs) zero d h = go (p x)
    where
      go : (b : Bool) → b ≡ (b || false)
      go true = refl
      go false = refl
  any_suc (x ∷ xs) (suc i) d h = go (p x) (any_suc xs i d (le_of_suc-le-suc h))
    where
      go : (b : Bool) → (any_of p (take i xs) || p (get_or xs i d)) ≡ any_of p (take (suc i) xs)
          → ((b || any_of p (take i xs)) || p (get_or xs i d)) ≡ (b || any_of p (take (suc i) xs))
      go true e = refl
      go false e = e

  pub any_more : {b : Bool} (xs : List A) (i : ℕ) (d : A) → i < length xs → b ≡ any_of p (take i xs)
      → (b || p (get_or xs i d)) ≡ any_of p (take (i + 1) xs)
  any_more xs i d h e = rw (add-one, e) (any_suc xs i d h)

-- ---- over all elements, where a definition speaks of those that are kept
module _ {A : Type 0} where
  pub any_ext : (p q : A → Bool) {xs : List A} → All (λ x. p x ≡ q x) xs → any_of p xs ≡ any_of q xs
  any_ext p q stop = refl
  any_ext p q (and e h) = ap₂ ◌||◌ e (any_ext p q h)

  pub any_keep : (p k : A → Bool) (xs : List A) → any_of p (keep k xs) ≡ any_of (λ x. k x && p x) xs
  any_keep p k [] = refl
  any_keep p k (x ∷ xs) = go (k x) (any_keep p k xs)
    where
      go : (b : Bool) → any_of p (keep k xs) ≡ any_of (λ x. k x && p x) xs
          → any_of p (cons_if b x (keep k xs)) ≡ ((b && p x) || any_of (λ x. k x && p x) xs)
      go true e = ap (λ c. p x || c) e
      go false e = e

  pub length_count : (k : A → Bool) (xs : List A) → length (keep k xs) ≡ sum_of (λ x. one_if (k x)) xs
  length_count k [] = refl
  length_count k (x ∷ xs) = go (k x) (length_count k xs)
    where
      go : (b : Bool) → length (keep k xs) ≡ sum_of (λ x. one_if (k x)) xs
          → length (cons_if b x (keep k xs)) ≡ one_if b + sum_of (λ x. one_if (k x)) xs
      go true e = omega arith
      go false e = omega arith
