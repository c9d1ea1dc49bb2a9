-- Idle slots before others, as those of a header: no job has them, every job is met so much later, and what holds of each slot's job holds as
-- before. Assumes nothing.
use Rattle.std.specs.Prelude.{◌≡◌, Bool, cond, List, ℕ, get_or}
use Rattle.std.proofs.Math.Option.{none}
use Rattle.spec_lists.specs.Lists.{sum_of}
use Rattle.spec_rules.specs.Slots.{Job, JobName, Slot, name_of}
use Rattle.law_slots.specs.Choice.{wins}
use Rattle.law_slots.specs.Meets.{has}

-- ---- a slot is a passing job's as often as the passing jobs, together, have it
abbrev pub Shared : List Slot → List Job → Type 0
Shared cs js = (p : JobName → Bool) (x : ℕ) → wins p (get_or cs x none) ≡ sum_of (λ j. cond (p (name_of j)) (has cs j x) 0) js
