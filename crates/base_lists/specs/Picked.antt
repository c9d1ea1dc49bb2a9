-- One element of a list and the others; and two lists matched one to one, up to their order. Assumes nothing.
use Rattle.std.specs.Prelude.{◌≡◌, refl, ◌⊎◌, Bool, true, false, ◌||◌, List, [], ◌∷◌, map, ℕ, suc, ◌+◌, ◌≤◌, length}
use Rattle.std.proofs.Common.{sym, ap, ap₂, subst, ◌∙◌, inl, inr, arith}
use Rattle.spec_lists.specs.Lists.{cons_if, one_if, keep, sum_of, any_of}
use Rattle.base_lists.specs.Tests.{either, one_if_true}
use Rattle.spec_lists.specs.All.{All, stop, and}
use Rattle.base_lists.specs.All.{head, tail}
use Rattle.base_lists.specs.Sums.{sum_zero, count_none}

module _ {A : Type 0} where
  -- the first list is the second with x put in
  pub data Picked (x : A) : List A → List A → Type 0 where
    here : {xs : List A} → Picked x (x ∷ xs) xs
    there : {y : A} {xs ys : List A} → Picked x xs ys → Picked x (y ∷ xs) (y ∷ ys)

  pub picked_all : {P : A → Type 0} {x : A} {xs ys : List A} → Picked x xs ys → P x → All P ys → All P xs
  picked_all here p h = and p h
  picked_all (there k) p h = and (head h) (picked_all k p (tail h))

  pub picked_one : {P : A → Type 0} {x : A} {xs ys : List A} → Picked x xs ys → All P xs → P x
  picked_one here h = head h
  picked_one (there k) h = picked_one k (tail h)

  pub picked_rest : {P : A → Type 0} {x : A} {xs ys : List A} → Picked x xs ys → All P xs → All P ys
  picked_rest here h = tail h
  picked_rest (there k) h = and (head h) (picked_rest k (tail h))

  pub picked_sum : (f : A → ℕ) {x : A} {xs ys : List A} → Picked x xs ys → sum_of f xs ≡ f x + sum_of f ys
  picked_sum f here = refl
  picked_sum f (there k) = omega (arith, picked_sum f k)

  pub picked_length : {x : A} {xs ys : List A} → Picked x xs ys → length xs ≡ suc (length ys)
  picked_length here = refl
  picked_length (there k) = ap suc (picked_length k)

  -- a sum to which one element alone adds
  pub picked_only : (f : A → ℕ) {x : A} {xs ys : List A} → Picked x xs ys → All (λ y. f y ≡ 0) ys → sum_of f xs ≡ f x
  picked_only f k h = omega (arith, picked_sum f k, sum_zero f h)

  -- where at most one passes and x does, no other does
  pub picked_alone : (p : A → Bool) {x : A} {xs ys : List A} → Picked x xs ys → sum_of (λ y. one_if (p y)) xs ≤ 1 → p x ≡ true
      → All (λ y. p y ≡ false) ys
  picked_alone p {ys = ys} k w h = count_none p ys (omega (arith, picked_sum (λ y. one_if (p y)) k, one_if_true h))

  pub picked_any : (p : A → Bool) {x : A} {xs ys : List A} → Picked x xs ys → any_of p xs ≡ (p x || any_of p ys)
  picked_any p here = refl
  picked_any p {x} (there {y = z} {ys = zs} k) = ap (λ b. p z || b) (picked_any p k) ∙ swap (p z) (p x) (any_of p zs)
    where
      swap : (a b c : Bool) → (a || (b || c)) ≡ (b || (a || c))
      swap true true c = refl
      swap true false c = refl
      swap false b c = refl

  -- each element with the others
  pub each_picked : (xs : List A) → All (λ x. (ys : List A) × Picked x xs ys) xs
  each_picked [] = stop
  each_picked (x ∷ xs) = and (xs, here) (deeper (each_picked xs))
    where
      deeper : {zs : List A} → All (λ y. (ys : List A) × Picked y xs ys) zs → All (λ y. (ys : List A) × Picked y (x ∷ xs) ys) zs
      deeper stop = stop
      deeper (and p h) = and (x ∷ p.0, there p.1) (deeper h)

  picked_cons_if : (b : Bool) (y : A) {x : A} {xs ys : List A} → Picked x xs ys → Picked x (cons_if b y xs) (cons_if b y ys)
  picked_cons_if true y k = there k
  picked_cons_if false y k = k

  -- under a map and a filter it stays in, or it does not
  pub picked_in : (p : A → Bool) (g : A → A) {x : A} {xs ys : List A} → Picked x xs ys → p (g x) ≡ true
      → Picked (g x) (keep p (map g xs)) (keep p (map g ys))
  picked_in p g {x} (here {xs = zs}) q = subst (λ b. Picked (g x) (cons_if b (g x) (keep p (map g zs))) (keep p (map g zs))) (sym q) here
  picked_in p g (there {y = z} k) q = picked_cons_if (p (g z)) (g z) (picked_in p g k q)

  pub picked_out : (p : A → Bool) (g : A → A) {x : A} {xs ys : List A} → Picked x xs ys → p (g x) ≡ false
      → keep p (map g xs) ≡ keep p (map g ys)
  picked_out p g {x} (here {xs = zs}) q = ap (λ b. cons_if b (g x) (keep p (map g zs))) q
  picked_out p g (there {y = z} k) q = ap (cons_if (p (g z)) (g z)) (picked_out p g k q)

module _ {A B : Type 0} where
  pub data Paired (R : A → B → Type 0) : List A → List B → Type 0 where
    done : Paired R [] []
    pair : {x : A} {xs : List A} {y : B} {ys zs : List B} → R x y → Picked y ys zs → Paired R xs zs → Paired R (x ∷ xs) ys

  pub paired_length : {R : A → B → Type 0} {xs : List A} {ys : List B} → Paired R xs ys → length xs ≡ length ys
  paired_length done = refl
  paired_length (pair r k p) = omega (arith, paired_length p, picked_length k)

  pub paired_with : {R : A → B → Type 0} {P : A → Type 0} {Q : B → Type 0} {xs : List A} {ys : List B}
      → Paired R xs ys → All P xs → All Q ys → Paired (λ x y. R x y × P x × Q y) xs ys
  paired_with done h q = done
  paired_with (pair r k p) h q = pair (r, head h, picked_one k q) k (paired_with p (tail h) (picked_rest k q))

  pub paired_left : {R : A → B → Type 0} {P : A → Type 0} {xs : List A} {ys : List B} → Paired R xs ys
      → ((x : A) (y : B) → R x y → P x) → All P xs
  paired_left done f = stop
  paired_left (pair {x = a} {y = b} r k p) f = and (f a b r) (paired_left p f)

  pub paired_right : {R : A → B → Type 0} {Q : B → Type 0} {xs : List A} {ys : List B} → Paired R xs ys
      → ((x : A) (y : B) → R x y → Q y) → All Q ys
  paired_right done f = stop
  paired_right (pair {x = a} {y = b} r k p) f = picked_all k (f a b r) (paired_right p f)

  pub paired_any : {R : A → B → Type 0} (p : A → Bool) (q : B → Bool) {xs : List A} {ys : List B}
      → ((x : A) (y : B) → R x y → p x ≡ q y) → Paired R xs ys → any_of p xs ≡ any_of q ys
  paired_any p q h done = refl
  paired_any p q h (pair {x = a} {y = b} r k m) = ap₂ ◌||◌ (h a b r) (paired_any p q h m) ∙ sym (picked_any q k)

  -- both sides changed and filtered alike
  pub paired_keep : {R S : A → B → Type 0} (u : A → Bool) (v : B → Bool) (f : A → A) (g : B → B) {xs : List A} {ys : List B}
      → ((x : A) (y : B) → R x y → (u (f x) ≡ v (g y)) × (v (g y) ≡ true → S (f x) (g y)))
      → Paired R xs ys → Paired S (keep u (map f xs)) (keep v (map g ys))
  paired_keep u v f g h done = done
  paired_keep {S = S} u v f g h (pair {x = a} {xs = aa} {y = b} {ys = bs} {zs = cs} r k p) =
      subst (λ c. Paired S (cons_if c (f a) (keep u (map f aa))) (keep v (map g bs))) (sym (h a b r).0)
      (go (either (v (g b))) (paired_keep u v f g h p))
    where
      go : (v (g b) ≡ true) ⊎ (v (g b) ≡ false) → Paired S (keep u (map f aa)) (keep v (map g cs))
          → Paired S (cons_if (v (g b)) (f a) (keep u (map f aa))) (keep v (map g bs))
      go (inl q) w =
          subst (λ c. Paired S (cons_if c (f a) (keep u (map f aa))) (keep v (map g bs))) (sym q)
          (pair ((h a b r).1 q) (picked_in v g k q) w)
      go (inr q) w =
          subst (λ c. Paired S (cons_if c (f a) (keep u (map f aa))) (keep v (map g bs))) (sym q)
          (subst (Paired S (keep u (map f aa))) (sym (picked_out v g k q)) w)
