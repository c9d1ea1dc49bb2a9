-- Lists, tests and sums: what the definitions of document 01 are written with. Assumes nothing.
use Rattle.std.specs.Prelude.{ℕ, zero, suc, ◌+◌, max, Bool, true, false, cond, ◌&&◌, ◌||◌, List, [], ◌∷◌, ◌++◌, leb, eqb}

-- a ≤ x ≤ b
abbrev pub within : ℕ → ℕ → ℕ → Bool
within a b x = leb a x && leb x b

-- 1 where the test passes, to count by a sum
abbrev pub one_if : Bool → ℕ
one_if b = cond b 1 0

-- c s + .. + c (d-1), and 0 where d ≤ s
abbrev pub span : (ℕ → ℕ) → ℕ → ℕ → ℕ
span c zero zero = 0
span c zero (suc d) = c 0 + span (λ u. c (suc u)) 0 d
span c (suc s) zero = 0
span c (suc s) (suc d) = span (λ u. c (suc u)) s d

-- two lists of numbers are the same
abbrev pub same_list : List ℕ → List ℕ → Bool
same_list [] [] = true
same_list [] (y ∷ ys) = false
same_list (x ∷ xs) [] = false
same_list (x ∷ xs) (y ∷ ys) = eqb x y && same_list xs ys

module _ {A : Type 0} where
  abbrev pub cons_if : Bool → A → List A → List A
  cons_if true x xs = x ∷ xs
  cons_if false x xs = xs

  -- those that pass the test, in order
  abbrev pub keep : (A → Bool) → List A → List A
  keep p [] = []
  keep p (x ∷ xs) = cons_if (p x) x (keep p xs)

  abbrev pub sum_of : (A → ℕ) → List A → ℕ
  sum_of f [] = 0
  sum_of f (x ∷ xs) = f x + sum_of f xs

  abbrev pub most_of : (A → ℕ) → List A → ℕ
  most_of f [] = 0
  most_of f (x ∷ xs) = max (f x) (most_of f xs)

  abbrev pub any_of : (A → Bool) → List A → Bool
  any_of p [] = false
  any_of p (x ∷ xs) = p x || any_of p xs

  -- x before the first that it comes before
  abbrev pub insert : (A → A → Bool) → A → List A → List A
  insert before x [] = x ∷ []
  insert before x (y ∷ ys) = let r = insert before x ys in cond (before x y) (x ∷ y ∷ ys) (y ∷ r)

  abbrev pub sort : (A → A → Bool) → List A → List A
  sort before [] = []
  sort before (x ∷ xs) = insert before x (sort before xs)

  -- the lists that f gives, one after the other
  abbrev pub concat_map : {B : Type 0} → (A → List B) → List A → List B
  concat_map f [] = []
  concat_map f (x ∷ xs) = f x ++ concat_map f xs
