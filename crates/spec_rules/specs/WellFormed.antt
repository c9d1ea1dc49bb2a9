-- What opening gives and every call keeps of a table: all that a call may ask of the table that it is handed. Document 01,
-- "Reading, lending, printing". Assumes nothing.
use Rattle.std.specs.Prelude.{ℕ, ◌+◌, ◌*◌, ◌-◌, ◌≤◌, ◌≡◌, ◌⊎◌, ◌≢◌, true, List, length}
use Rattle.spec_lists.specs.Lists.{one_if, sum_of}
use Rattle.spec_lists.specs.All.{All}
use Rattle.spec_model.specs.Names.{name_in_range}
use Rattle.spec_model.specs.Answers.{fields_answer}
use Rattle.spec_model.specs.Entries.{free_entry, is_named, asks}
use Rattle.spec_model.specs.Answers.{request_of}
use Rattle.spec_model.specs.declared.Frame.{Frame}
use Rattle.spec_model.specs.declared.Name.{Name}
use Rattle.spec_model.specs.declared.Setting.{Setting}
use Rattle.spec_model.specs.declared.Entry.{Entry}
use Rattle.spec_model.specs.declared.Table.{Table}
use Rattle.spec_rules.specs.Ahead.{fits_ahead}
use Rattle.spec_model.specs.Tables.{places, held_of}
use Rattle.spec_rules.specs.Settings.{Succeeds, frame_of}

-- kinds 2 and 3: where the entry stands in the period that runs, and how many periods follow it
pub record Running (e : Entry) : Type 0 where
  pub parts : e.parts ≡ 0
  pub ahead : 1 ≤ e.left.0
  pub short : e.left.0 ≤ e.period.0
  pub following : ℕ
  pub lives : e.life_left.0 ≡ e.left.0 + following * e.period.0
  pub owed : e.owed.0 ≡ asks e - e.given.0
  pub whole : e.kind ≡ 2 → e.given.0 ≤ e.max.0
  pub transfer : e.kind ≡ 3 → e.given.0 ≤ asks e

-- a held entry: its request passed the checks, its life is not over
pub record Held (F : Frame) (e : Entry) : Type 0 where
  pub name : name_in_range e.name ≡ true
  pub fields : fields_answer F (request_of e) ≡ 0
  pub alive : 1 ≤ e.life_left.0
  pub life : e.life_left.0 ≤ e.life.0
  pub fraction : e.kind ≡ 1 → (e.period.0 ≡ 0) × (e.owed.0 ≡ 0) × (e.given.0 ≡ 0) × (e.left.0 ≡ 0)
  pub running : e.kind ≢ 1 → Running e

-- no name stands twice
abbrev pub Once : List Entry → Type 0
Once es = (n : Name) → sum_of (λ (e : Entry). one_if (is_named n e)) es ≤ 1

-- all but looking ahead: what looking ahead itself starts from
pub record Tidy (t : Table) : Type 0 where
  pub setting : (s : Setting) × Succeeds s × (t.frame ≡ frame_of s)
  pub size : length t.entries ≡ places
  pub entries : All (λ e. (e ≡ free_entry) ⊎ Held t.frame e) t.entries
  pub once : Once (held_of t)

pub record WellFormed (t : Table) : Type 0 where
  pub tidy : Tidy t
  pub fits : fits_ahead t.frame (held_of t) ≡ true
