-- The largest value over a list, under a filter and a map. Assumes nothing.
use Rattle.std.specs.Prelude.{◌≡◌, refl, Bool, true, false, List, [], ◌∷◌, map, ℕ, ◌-◌, max}
use Rattle.std.proofs.Common.{ap, arith}
use Rattle.spec_lists.specs.Lists.{cons_if, keep, most_of}
use Rattle.spec_lists.specs.All.{All, stop, and}

module _ {A : Type 0} where
  -- a filter that drops only zeros
  pub most_keep : (f : A → ℕ) (p : A → Bool) {xs : List A} → All (λ x. p x ≡ false → f x ≡ 0) xs → most_of f (keep p xs) ≡ most_of f xs
  most_keep f p stop = refl
  most_keep f p (and {x = y} {xs = ys} h r) = go (p y) h (most_keep f p r)
    where
      go : (b : Bool) → (b ≡ false → f y ≡ 0) → most_of f (keep p ys) ≡ most_of f ys
          → most_of f (cons_if b y (keep p ys)) ≡ max (f y) (most_of f ys)
      go true h q = ap (max (f y)) q
      go false h q = omega (arith, h refl)

  -- one less of each is one less of the largest
  pub most_less : (f g : A → ℕ) {xs : List A} → All (λ x. g x ≡ f x - 1) xs → most_of g xs ≡ most_of f xs - 1
  most_less f g stop = refl
  most_less f g (and p h) = omega (arith, p, most_less f g h)

module _ {A B : Type 0} where
  pub most_map : (f : B → ℕ) (g : A → B) (xs : List A) → most_of f (map g xs) ≡ most_of (λ x. f (g x)) xs
  most_map f g [] = refl
  most_map f g (x ∷ xs) = ap (max (f (g x))) (most_map f g xs)
