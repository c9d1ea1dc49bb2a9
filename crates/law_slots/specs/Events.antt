-- Steps D and E by events: a choice holds until its job ends or a job is released, and its slots are one run.
-- Assumes nothing.
use Rattle.std.specs.Prelude.{◌⊎◌, Bool, cond, ◌&&◌, List, [], ◌∷◌, ℕ, ◌+◌, ◌-◌, ◌≤◌, eqb}
use Rattle.spec_model.specs.Names.{same}
use Rattle.spec_rules.specs.Slots.{Job, JobName, Slot, has_slot, Run, run}

-- ---- slots
-- the job with n slots less to come
abbrev pub less_by : ℕ → Job → Job
less_by n j = record { name = j.name; number = j.number; release = j.release; due = j.due; need = j.need - n }

-- the job after n slots that all are c
abbrev pub spent : ℕ → Slot → Job → Job
spent n c j = cond (has_slot c j) (less_by n j) j

-- the job is not released within the n slots from s on, the first one excepted
abbrev pub Quiet : (n s : ℕ) → Job → Type 0
Quiet n s j = (j.release ≤ s) ⊎ (s + n ≤ j.release)

-- ---- runs
-- a run of job k that starts in t
abbrev pub follows : JobName → ℕ → Run → Bool
follows k t r = same r.name k.name && (eqb r.job k.number && eqb r.start t)

-- n slots of job k from slot s on, before the runs rs
unfoldable pub joined : (n s : ℕ) → JobName → List Run → List Run
joined n s k [] = run k s n ∷ []
joined n s k (r ∷ rs) = cond (follows k (s + n) r) (run k s (n + r.length) ∷ rs) (run k s n ∷ r ∷ rs)
