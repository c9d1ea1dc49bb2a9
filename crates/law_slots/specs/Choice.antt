-- The job that a slot goes to: released, unfinished and, of all such, due first; and what the slot changes.
-- Assumes nothing.
use Rattle.std.specs.Prelude.{◌≡◌, Bool, true, false, List, ℕ, ◌≤◌}
use Rattle.std.proofs.Math.Option.{Option, none, some}
use Rattle.spec_lists.specs.Lists.{one_if, sum_of}
use Rattle.spec_lists.specs.All.{All}
use Rattle.base_lists.specs.Picked.{Picked}
use Rattle.spec_rules.specs.Slots.{Job, JobName, name_of, is_ready, Slot, same_name, has_slot}

-- no job name stands twice
abbrev pub Keys : List Job → Type 0
Keys js = (k : JobName) → sum_of (λ (j : Job). one_if (same_name (name_of j) k)) js ≤ 1

-- ---- the choice
-- what choose gives: nothing where no job is ready, else a ready job that no other ready job is due before
pub data Choice (s : ℕ) (js : List Job) : Option Job → Type 0 where
  idle : All (λ j. is_ready s j ≡ false) js → Choice s js none
  takes : {k : Job} {ks : List Job} → Picked k js ks → is_ready s k ≡ true → All (λ j. is_ready s j ≡ true → k.due ≤ j.due) js
      → Choice s js (some k)

-- ---- what a slot changes
-- what j gets of slot c
abbrev pub got : Slot → Job → ℕ
got c j = one_if (has_slot c j)

-- 1 where the slot's job passes
abbrev pub wins : (JobName → Bool) → Slot → ℕ
wins p none = 0
wins p (some k) = one_if (p k)
