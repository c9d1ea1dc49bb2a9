-- The slots of an interval and the plan: steps D and E of document 01, "One beacon"; document 02, No. 1. Assumes nothing.
use Rattle.std.specs.Prelude.{ℕ, zero, suc, ◌+◌, ◌*◌, ◌-◌, Bool, false, cond, ◌&&◌, List, [], ◌∷◌, ◌++◌, map, ltb, leb, eqb, replicate}
use Rattle.std.proofs.Math.Option.{Option, none, some}
use Rattle.spec_lists.specs.Lists.{keep, sort, concat_map}
use Rattle.spec_model.specs.Frames.{slots_in, header_in, room_in, part_of}
use Rattle.spec_model.specs.Names.{same, lower}
use Rattle.spec_model.specs.Entries.{is_kind}
use Rattle.spec_model.specs.declared.Frame.{Frame}
use Rattle.spec_model.specs.declared.Name.{Name}
use Rattle.spec_model.specs.declared.Entry.{Entry}
use Rattle.spec_rules.specs.Share.{Grant, slots_for, order, job_count, need_with, step_b, step_c}

-- D. a job of the interval
pub record Job : Type 0 where
  pub name : Name
  pub number : ℕ
  pub release : ℕ
  pub due : ℕ
  pub need : ℕ

-- what names a job in the plan
pub record JobName : Type 0 where
  pub name : Name
  pub number : ℕ

abbrev pub name_of : Job → JobName
name_of j = record { name = j.name; number = j.number }

-- job j of a request whose jobs are T slots long: released at j times T, due at (j+1) times T
abbrev pub job_at : Name → (T need j : ℕ) → Job
job_at n T need j = record { name = n; number = j; release = j * T; due = suc j * T; need = need }

-- so many of them from job j on
unfoldable pub jobs_from : (count : ℕ) → Name → (T need j : ℕ) → List Job
jobs_from zero n T need j = []
jobs_from (suc c) n T need j = job_at n T need j ∷ jobs_from c n T need (suc j)

-- B/m for kind 1; a piece is released at 0 and due at B
abbrev pub job_length : Frame → Entry → ℕ
job_length F e = cond (is_kind 1 e) (part_of F e.parts) (slots_in F)

-- min + extra for kind 1; the step B and C slots of a piece
abbrev pub job_need : (bs cs : List Grant) → Entry → ℕ
job_need bs cs e = cond (is_kind 1 e) (need_with cs e) (slots_for e.name bs + slots_for e.name cs)

abbrev pub jobs_of : Frame → (bs cs : List Grant) → Entry → List Job
jobs_of F bs cs e = jobs_from (job_count e) e.name (job_length F e) (job_need bs cs e) 0

-- ties: kind 1 before others, lower stream number within kind 1, the order of step B among pieces
abbrev pub lower_named : Entry → Entry → Bool
lower_named e f = lower e.name f.name

unfoldable pub tie_order : List Entry → List Entry
tie_order es = sort lower_named (keep (is_kind 1) es) ++ order es

unfoldable pub jobs : Frame → List Entry → List Job
jobs F es =
    let bs = step_b F es in
    let cs = step_c F es in
    concat_map (jobs_of F bs cs) (tie_order es)

-- is it released and unfinished at slot s?
abbrev pub is_ready : ℕ → Job → Bool
is_ready s j = leb j.release s && ltb 0 j.need

-- the one due first; of two due at once the one that stands first
abbrev pub due_first : Job → Option Job → Option Job
due_first j none = some j
due_first j (some k) = cond (leb j.due k.due) (some j) (some k)

-- the released, unfinished job due first at slot s
unfoldable pub choose : ℕ → List Job → Option Job
choose s [] = none
choose s (j ∷ js) = let r = choose s js in cond (is_ready s j) (due_first j r) r

-- who has a slot: a job, or none where it is idle
abbrev pub Slot : Type 0
Slot = Option JobName

abbrev pub slot_of : Option Job → Slot
slot_of none = none
slot_of (some j) = some (name_of j)

abbrev pub same_name : JobName → JobName → Bool
same_name a b = same a.name b.name && eqb a.number b.number

abbrev pub has_slot : Slot → Job → Bool
has_slot none j = false
has_slot (some k) j = same_name (name_of j) k

-- the jobs after the slot: the one that had it needs one less
abbrev pub one_less : Job → Job
one_less j = record { name = j.name; number = j.number; release = j.release; due = j.due; need = j.need - 1 }

abbrev pub charge : Slot → Job → Job
charge c j = cond (has_slot c j) (one_less j) j

-- n slots from slot s on
unfoldable pub slots_from : (n s : ℕ) → List Job → List Slot
slots_from zero s js = []
slots_from (suc n) s js = let c = slot_of (choose s js) in c ∷ slots_from n (suc s) (map (charge c) js)

-- those of the header are idle, and a job that is released among them waits
unfoldable pub step_d : Frame → List Entry → List Slot
step_d F es = replicate (header_in F) none ++ slots_from (room_in F) (header_in F) (jobs F es)

-- E. one record for each longest run of slots of one job, by start
pub record Run : Type 0 where
  pub name : Name
  pub job : ℕ
  pub start : ℕ
  pub length : ℕ

abbrev pub run : JobName → (start slots : ℕ) → Run
run k s n = record { name = k.name; job = k.number; start = s; length = n }

-- the run r goes on from slot s, which is job k's
abbrev pub goes_on : JobName → ℕ → Run → Bool
goes_on k s r = same r.name k.name && (eqb r.job k.number && eqb r.start (suc s))

-- slot s before the runs that follow it
unfoldable pub prepend : ℕ → Slot → List Run → List Run
prepend s none rs = rs
prepend s (some k) [] = run k s 1 ∷ []
prepend s (some k) (r ∷ rs) = cond (goes_on k s r) (run k s (suc r.length) ∷ rs) (run k s 1 ∷ r ∷ rs)

-- the runs of slots s, s+1, ..
unfoldable pub runs_from : ℕ → List Slot → List Run
runs_from s [] = []
runs_from s (c ∷ cs) = prepend s c (runs_from (suc s) cs)

unfoldable pub step_e : Frame → List Entry → List Run
step_e F es = runs_from 0 (step_d F es)

-- a record gives its request the slots from start to start + length - 1
abbrev pub gives : Run → ℕ → Bool
gives r x = leb r.start x && ltb x (r.start + r.length)
