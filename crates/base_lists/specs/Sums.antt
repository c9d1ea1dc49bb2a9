-- Sums over lists. Assumes nothing.
use Rattle.std.specs.Prelude.{◌≡◌, refl, Bool, true, false, cond, List, [], ◌∷◌, ◌++◌, map, ℕ, zero, suc, ◌+◌, ◌*◌, ◌≤◌, ◌<◌, length, get_or}
use Rattle.std.proofs.Common.{ap, ap₂, sym, ◌∙◌, zero-le, mul-zero, mul-add, suc-mul, not-suc-le-zero, le_of_suc-le-suc, arith}
use Rattle.spec_lists.specs.Lists.{cons_if, one_if, keep, sum_of, insert, sort, concat_map}
use Rattle.base_lists.specs.Tests.{cond_le, one_if_true}
use Rattle.spec_lists.specs.All.{All, stop, and}
use Rattle.base_lists.specs.All.{all_map, all_of, all_at}

module _ {A : Type 0} where
  pub sum_ext : (f g : A → ℕ) {xs : List A} → All (λ x. f x ≡ g x) xs → sum_of f xs ≡ sum_of g xs
  sum_ext f g stop = refl
  sum_ext f g (and p h) = ap₂ ◌+◌ p (sum_ext f g h)

  pub sum_same : (f g : A → ℕ) (xs : List A) → ((x : A) → f x ≡ g x) → sum_of f xs ≡ sum_of g xs
  sum_same f g xs h = sum_ext f g (all_of xs h)

  pub sum_le : (f g : A → ℕ) {xs : List A} → All (λ x. f x ≤ g x) xs → sum_of f xs ≤ sum_of g xs
  sum_le f g stop = zero-le
  sum_le f g (and p h) = omega (arith, p, sum_le f g h)

  pub sum_add : (f g : A → ℕ) (xs : List A) → sum_of (λ x. f x + g x) xs ≡ sum_of f xs + sum_of g xs
  sum_add f g [] = refl
  sum_add f g (x ∷ xs) = omega (arith, sum_add f g xs)

  pub sum_zero : (f : A → ℕ) {xs : List A} → All (λ x. f x ≡ 0) xs → sum_of f xs ≡ 0
  sum_zero f stop = refl
  sum_zero f (and p h) = omega (arith, p, sum_zero f h)

  pub sum_times : (k : ℕ) (f : A → ℕ) (xs : List A) → sum_of (λ x. k * f x) xs ≡ k * sum_of f xs
  sum_times k f [] = sym (mul-zero k)
  sum_times k f (x ∷ xs) = omega (arith, sum_times k f xs, mul-add k (f x) (sum_of f xs))

  pub sum_most : (f : A → ℕ) (m : ℕ) {xs : List A} → All (λ x. f x ≤ m) xs → sum_of f xs ≤ length xs * m
  sum_most f m stop = zero-le
  sum_most f m (and {xs = ys} p h) = omega (arith, p, sum_most f m h, suc-mul (length ys) m)

  -- each is at most the sum
  pub each_in_sum : (f : A → ℕ) (xs : List A) → All (λ x. f x ≤ sum_of f xs) xs
  each_in_sum f [] = stop
  each_in_sum f (x ∷ xs) = and {x = x} (omega arith) (all_map (λ y h. omega arith) (each_in_sum f xs))

  -- where f ≤ g everywhere and the sums do not differ, the values do not
  pub sum_tight : (f g : A → ℕ) {xs : List A} → All (λ x. f x ≤ g x) xs → sum_of g xs ≤ sum_of f xs → All (λ x. g x ≤ f x) xs
  sum_tight f g stop e = stop
  sum_tight f g (and {x = y} p h) e = and {x = y} (omega (arith, sum_le f g h)) (sum_tight f g h (omega arith))

  -- ---- under a filter, a sort, a join
  sum_cons_if : (f : A → ℕ) (b : Bool) (x : A) (xs : List A) → sum_of f (cons_if b x xs) ≡ cond b (f x) 0 + sum_of f xs
  sum_cons_if f true x xs = refl
  sum_cons_if f false x xs = omega arith

  pub sum_keep : (f : A → ℕ) (p : A → Bool) (xs : List A) → sum_of f (keep p xs) ≡ sum_of (λ x. cond (p x) (f x) 0) xs
  sum_keep f p [] = refl
  sum_keep f p (x ∷ xs) = sum_cons_if f (p x) x (keep p xs) ∙ ap (λ v. cond (p x) (f x) 0 + v) (sum_keep f p xs)

  pub sum_keep_le : (f : A → ℕ) (p : A → Bool) (xs : List A) → sum_of f (keep p xs) ≤ sum_of f xs
  sum_keep_le f p xs =
      omega (arith, sum_keep f p xs, sum_le (λ x. cond (p x) (f x) 0) f (all_of xs (λ x. cond_le (p x) (f x))))

  sum_cond : (f : A → ℕ) (b : Bool) (xs ys : List A) (v : ℕ) → sum_of f xs ≡ v → sum_of f ys ≡ v → sum_of f (cond b xs ys) ≡ v
  sum_cond f true xs ys v h k = h
  sum_cond f false xs ys v h k = k

  sum_insert : (f : A → ℕ) (before : A → A → Bool) (x : A) (xs : List A) → sum_of f (insert before x xs) ≡ f x + sum_of f xs
  sum_insert f before x [] = refl
  sum_insert f before x (y ∷ ys) =
      sum_cond f (before x y) (x ∷ y ∷ ys) (y ∷ insert before x ys) (f x + (f y + sum_of f ys)) refl
      (omega (arith, sum_insert f before x ys))

  pub sum_sort : (f : A → ℕ) (before : A → A → Bool) (xs : List A) → sum_of f (sort before xs) ≡ sum_of f xs
  sum_sort f before [] = refl
  sum_sort f before (x ∷ xs) = sum_insert f before x (sort before xs) ∙ ap (λ v. f x + v) (sum_sort f before xs)

  pub sum_append : (f : A → ℕ) (xs ys : List A) → sum_of f (xs ++ ys) ≡ sum_of f xs + sum_of f ys
  sum_append f [] ys = omega arith
  sum_append f (x ∷ xs) ys = omega (arith, sum_append f xs ys)

  pub length_keep : (p : A → Bool) (xs : List A) → length (keep p xs) ≤ length xs
  length_keep p [] = zero-le
  length_keep p (x ∷ xs) = go (p x) (length_keep p xs)
    where
      go : (b : Bool) → length (keep p xs) ≤ length xs → length (cons_if b x (keep p xs)) ≤ suc (length xs)
      go true h = omega arith
      go false h = omega arith

  -- a count of 0: none passes
  pub count_none : (p : A → Bool) (xs : List A) → sum_of (λ x. one_if (p x)) xs ≡ 0 → All (λ x. p x ≡ false) xs
  count_none p [] h = stop
  count_none p (x ∷ xs) h = and (no (p x) h) (count_none p xs (omega arith))
    where
      no : (b : Bool) → one_if b + sum_of (λ x. one_if (p x)) xs ≡ 0 → b ≡ false
      no true h = absurd (omega arith)
      no false h = refl

  -- a count of 1: no two places pass
  count_more : (p : A → Bool) (x : A) (xs : List A) (d : A) (j : ℕ) → j < length xs → p x ≡ true → p (get_or xs j d) ≡ true
      → sum_of (λ y. one_if (p y)) (x ∷ xs) ≤ 1 → ⊥
  count_more p x xs d j l q r c =
      omega (
        arith,
        one_if_true q,
        one_if_true r,
        all_at (λ y. one_if (p y) ≤ sum_of (λ z. one_if (p z)) xs) xs d (each_in_sum (λ y. one_if (p y)) xs) j l,
      )

  pub count_once : (p : A → Bool) (xs : List A) (d : A) (i j : ℕ) → i < length xs → j < length xs → p (get_or xs i d) ≡ true
      → p (get_or xs j d) ≡ true → sum_of (λ x. one_if (p x)) xs ≤ 1 → i ≡ j
  count_once p [] d i j h k q r c = absurd (not-suc-le-zero h)
  count_once p (x ∷ xs) d zero zero h k q r c = refl
  count_once p (x ∷ xs) d zero (suc j) h k q r c = absurd (count_more p x xs d j (le_of_suc-le-suc k) q r c)
  count_once p (x ∷ xs) d (suc i) zero h k q r c = absurd (count_more p x xs d i (le_of_suc-le-suc h) r q c)
  count_once p (x ∷ xs) d (suc i) (suc j) h k q r c =
      ap suc (count_once p xs d i j (le_of_suc-le-suc h) (le_of_suc-le-suc k) q r (omega arith))

module _ {A B : Type 0} where
  pub sum_map : (f : B → ℕ) (g : A → B) (xs : List A) → sum_of f (map g xs) ≡ sum_of (λ x. f (g x)) xs
  sum_map f g [] = refl
  sum_map f g (x ∷ xs) = ap (λ v. f (g x) + v) (sum_map f g xs)

  pub sum_concat : (f : B → ℕ) (g : A → List B) (xs : List A) → sum_of f (concat_map g xs) ≡ sum_of (λ x. sum_of f (g x)) xs
  sum_concat f g [] = refl
  sum_concat f g (x ∷ xs) = sum_append f (g x) (concat_map g xs) ∙ ap (λ v. sum_of f (g x) + v) (sum_concat f g xs)

  -- the order of two sums does not matter
  pub sum_swap : (f : A → B → ℕ) (xs : List A) (ys : List B) → sum_of (λ x. sum_of (f x) ys) xs ≡ sum_of (λ y. sum_of (λ x. f x y) xs) ys
  sum_swap f [] ys = sym (sum_zero (λ y. 0) (all_of ys (λ y. refl)))
  sum_swap f (x ∷ xs) ys = omega (arith, sum_swap f xs ys, sum_add (f x) (λ y. sum_of (λ x. f x y) xs) ys)
