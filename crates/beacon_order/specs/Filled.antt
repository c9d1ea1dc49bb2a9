-- Entries in an array with one for each place, free entries behind them. Assumes nothing.
use Rattle.std.specs.Prelude.{◌≡◌, refl, List, [], ◌∷◌, ◌++◌, ℕ, zero, suc, ◌+◌, ◌-◌, ◌≤◌, length, take, replicate}
use Rattle.std.proofs.Common.{ap, le_refl, arith}
use Rattle.spec_lists.specs.All.{All}
use Rattle.base_lists.specs.All.{all_append, all_take, all_replicate}
use Rattle.spec_model.specs.Entries.{free_entry}
use Rattle.spec_model.specs.declared.Entry.{Entry}
use Rattle.spec_model.specs.Tables.{places}

-- the entries, as many as there are places, and free ones behind them
abbrev pub filled : List Entry → List Entry
filled es = take places (es ++ replicate places free_entry)

-- m of those behind them
module _ {A : Type 0} (d : A) where
  take_replicate : (m k : ℕ) → m ≤ k → take m (replicate k d) ≡ replicate m d
  take_replicate zero k l = refl
  take_replicate (suc m) zero l = absurd (omega arith)
  take_replicate (suc m) (suc k) l = ap (λ r. d ∷ r) (take_replicate m k (omega arith))

  take_behind : (xs : List A) (n m k : ℕ) → n ≡ length xs + m → n ≤ k → take n (xs ++ replicate k d) ≡ xs ++ replicate m d
  take_behind [] n m k e l = (let q : n ≡ m = omega arith in rw q (take_replicate m k (omega arith)))
  take_behind (x ∷ xs) zero m k e l = absurd (omega arith)
  take_behind (x ∷ xs) (suc n) m k e l = ap (λ r. x ∷ r) (take_behind xs n m k (omega arith) (omega arith))

pub filled_behind : (es : List Entry) → length es ≤ places → filled es ≡ es ++ replicate (places - length es) free_entry
filled_behind es h = take_behind free_entry es places (places - length es) places (omega arith) (le_refl places)

pub filled_all : (P : Entry → Type 0) → P free_entry → {es : List Entry} → All P es → All P (filled es)
filled_all P z h = all_take places (all_append h (all_replicate P places free_entry z))
