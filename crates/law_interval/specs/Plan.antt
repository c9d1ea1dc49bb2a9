-- The plan of a well-formed table: its records are exactly the longest runs of step D's slots, in rising order; there are at most
-- 1,024 of them; and each names a request in range and one of its jobs, and lies within the interval. Assumes nothing.
use Rattle.std.specs.Prelude.{◌≡◌, true, ℕ, ◌≤◌, ◌<◌, length, ◌+◌}
use mathlib.Core.List.{map, Memᴰ}
use Rattle.spec_lists.specs.Lists.{sum_of}
use Rattle.spec_lists.specs.All.{All}
use Rattle.spec_model.specs.Frames.{slots_in}
use Rattle.spec_model.specs.Names.{name_in_range}
use Rattle.spec_model.specs.declared.Frame.{Frame}
use Rattle.spec_model.specs.declared.Name.{Name}
use Rattle.spec_model.specs.declared.Table.{Table}
use Rattle.spec_rules.specs.Slots.{JobName, jobs_from, step_d, Run}
use Rattle.spec_model.specs.Tables.{held_of}
use Rattle.spec_rules.specs.Calls.{plan_of}
use Rattle.law_model.specs.Frames.{most_slots}
use Rattle.law_slots.specs.Count.{to_come}
use Rattle.spec_rules.specs.Records.{most_records}
use Rattle.spec_rules.specs.Reading.{rises}
use Rattle.law_slots.specs.Runs.{IsRun}

-- a name that can be held, and one of its jobs
abbrev pub Named : JobName → Type 0
Named k = (name_in_range k.name ≡ true) × (k.number < 16)

-- up to sixteen jobs of one stream, the first of which is released at 0, have at most 31 releases and ends to come
abbrev pub FewCome : Type 0
FewCome = (n : ℕ) (s : Name) (T need : ℕ) → n ≤ 16 → sum_of (to_come 0) (jobs_from n s T need 0) ≤ 31

-- what stands in a record: a name, a job, and slots of the interval
pub record InRange (F : Frame) (r : Run) : Type 0 where
  pub name : name_in_range r.name ≡ true
  pub job : r.job < 16
  pub slots : r.start + r.length ≤ slots_in F

pub record RightPlan (t : Table) : Type 0 where
  -- every record is a longest run of step D's slots, and every longest run is a record
  pub records : All (IsRun (step_d t.frame (held_of t))) (plan_of t)
  pub runs : (r : Run) → IsRun (step_d t.frame (held_of t)) r → Memᴰ r (plan_of t)
  pub rise : rises (map (λ r. r.start) (plan_of t)) ≡ true
  pub few : length (plan_of t) ≤ most_records
  pub in_range : All (InRange t.frame) (plan_of t)
  pub short : slots_in t.frame ≤ most_slots
