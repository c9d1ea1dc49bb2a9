-- Step D: where the jobs have room, each gets its need exactly, from its release on and before its deadline, and no slot elsewhere.
-- And every slot that is not idle is a job's, so that the slots of some jobs are the sum of what each of them has.
-- Assumes nothing.
use Rattle.std.specs.Prelude.{◌≡◌, ◌⊎◌, false, List, ℕ, ◌+◌, ◌≤◌, ◌<◌, get_or}
use Rattle.std.proofs.Math.Option.{none}
use Rattle.spec_lists.specs.Lists.{span}
use Rattle.spec_rules.specs.Slots.{Job, Slot, has_slot}
use Rattle.law_slots.specs.Choice.{got}

-- 1 where slot x of cs is j's
abbrev pub has : List Slot → Job → ℕ → ℕ
has cs j x = got (get_or cs x none) j

-- slot t lies before the job's release, or at its deadline or after
abbrev pub Outside : ℕ → Job → Type 0
Outside t j = (t < j.release) ⊎ (j.due ≤ t)

-- of the n slots cs from slot s on: as many as j needs are its, all from its release on and before its deadline
pub record Met (s n : ℕ) (cs : List Slot) (j : Job) : Type 0 where
  pub exact : span (has cs j) 0 n ≡ j.need
  pub outside : (x : ℕ) → Outside (s + x) j → has_slot (get_or cs x none) j ≡ false
