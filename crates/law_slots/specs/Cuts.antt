-- A list of slots cut into its longest runs of slots of one job: that is what step E does, slot by slot from the end.
-- Assumes nothing.
use Rattle.std.specs.Prelude.{◌≡◌, ◌≢◌, get_or}
use mathlib.Core.List.{List, [], ◌∷◌}
use Rattle.std.proofs.Math.Option.{none, some}
use Prim.Native.Nat.{ℕ, suc, ◌+◌, ◌≤◌, ◌<◌}
use Rattle.spec_rules.specs.Slots.{JobName, Slot, Run}

-- the job that a record names
abbrev pub name_in : Run → JobName
name_in r = record { name = r.name; number = r.job }

-- ---- a list of slots
module _ (cs : List Slot) where
  abbrev pub slot : ℕ → Slot
  slot x = get_or cs x none

  -- from slot s on: no more jobs' slots; or an idle slot first; or a run first, which another slot ends
  pub data Cuts : ℕ → List Run → Type 0 where
    over : {s : ℕ} → ((x : ℕ) → s ≤ x → slot x ≡ none) → Cuts s []
    skip : {s : ℕ} {rs : List Run} → slot s ≡ none → Cuts (suc s) rs → Cuts s rs
    cut : {s : ℕ} {r : Run} {rs : List Run} → r.start ≡ s → 1 ≤ r.length
        → ((x : ℕ) → r.start ≤ x → x < r.start + r.length → slot x ≡ some (name_in r)) → slot (r.start + r.length) ≢ some (name_in r)
        → Cuts (r.start + r.length) rs → Cuts s (r ∷ rs)
