-- A slot at a time, step D is greedy service by earliest deadline: where the jobs have room, the slot misses no deadline
-- and leaves room for what is left.
-- Assumes nothing.
use Rattle.std.specs.Prelude.{List, ℕ, zero, suc, ◌-◌}
use Rattle.base_edf.specs.Edf.{Source, source, Room}
use Rattle.spec_rules.specs.Slots.{Job}

-- a job that is released in w, due in l and asks n, as a source: it runs, or it is the one job that follows
abbrev pub asking : (w l n : ℕ) → Source
asking zero l n = source n l 0 1 0
asking (suc w) l n = source 0 (suc w) n (l - suc w) 1

-- a job as a source, when s slots have passed
abbrev pub job_source : ℕ → Job → Source
job_source s j = asking (j.release - s) (j.due - s) j.need

-- in no window do the jobs ask more than its slots
abbrev pub JobRoom : ℕ → List Job → Type 0
JobRoom s js = Room (job_source s) js (λ u. 1)
