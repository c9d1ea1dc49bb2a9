-- Services that are greedy by earliest deadline: one that has nothing to do; the slot that goes to a job due first;
-- and those that, in the order of their deadlines, each take what they can of what is left.
-- Assumes nothing.
use Rattle.std.specs.Prelude.{◌≡◌, List, [], ◌∷◌, ℕ, ◌-◌, ◌≤◌, min}
use Rattle.spec_lists.specs.All.{All}
use Rattle.base_edf.specs.Edf.{Source, rem, left}

-- ---- in the order of the deadlines
-- each deadline is no later than those after it
pub data Rising {A : Type 0} (at : A → Source) : List A → Type 0 where
  flat : Rising at []
  rise : {x : A} {xs : List A} → All (λ y. left (at x) ≤ left (at y)) xs → Rising at xs → Rising at (x ∷ xs)

-- each in turn takes the smaller of what it is owed and what is left of c
pub data Takes {A : Type 0} (at : A → Source) (g : A → ℕ) : ℕ → List A → Type 0 where
  none : {c : ℕ} → Takes at g c []
  take : {c : ℕ} {x : A} {xs : List A} → g x ≡ min (rem (at x)) c → Takes at g (c - g x) xs → Takes at g c (x ∷ xs)
