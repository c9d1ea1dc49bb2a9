-- Step E: the records are the longest runs of slots of one job, all of them and no others, by start; so every slot is
-- given as often as step D gave it, and none twice.
-- Assumes nothing.
use Rattle.std.specs.Prelude.{◌≡◌, ◌≢◌, Bool, ◌&&◌, ℕ, suc, ◌+◌, ◌≤◌, ◌<◌, get_or}
use mathlib.Core.List.{List}
use Rattle.std.proofs.Math.Option.{none, some}
use Rattle.spec_lists.specs.Lists.{one_if, sum_of}
use Rattle.spec_rules.specs.Slots.{JobName, Slot, Run, gives}
use Rattle.law_slots.specs.Cuts.{name_in}

-- how many records give slot x to a job that passes
abbrev pub covers : (JobName → Bool) → ℕ → List Run → ℕ
covers p x rs = sum_of (λ (r : Run). one_if (gives r x && p (name_in r))) rs

-- a longest run of slots of one job: the slots just before it and just after it are not that job's
pub record IsRun (cs : List Slot) (r : Run) : Type 0 where
  pub one : 1 ≤ r.length
  pub all : (x : ℕ) → r.start ≤ x → x < r.start + r.length → get_or cs x none ≡ some (name_in r)
  pub before : (x : ℕ) → r.start ≡ suc x → get_or cs x none ≢ some (name_in r)
  pub after : get_or cs (r.start + r.length) none ≢ some (name_in r)
