-- What looking ahead, but for the header test, knows between two ends: the columns show a table of which it says what it said of the first, v, and which its load does
-- not overfill. Then what each step of a turn says of v. Assumes nothing.
use Rattle.std.specs.Prelude.{◌≡◌, Bool, ℕ, ◌≤◌}
use Rattle.spec_model.specs.declared.Table.{Table}
use Rattle.spec_model.specs.Frames.{room_in}
use Rattle.spec_model.specs.Tables.{held_of}
use Rattle.spec_rules.specs.Share.{load}
use Rattle.spec_rules.specs.WellFormed.{Tidy}
use Rattle.law_ahead.specs.KeepsUp.{keeps_up_ahead}
use Rattle.ahead_figures.specs.Columns.{Columns}
use Rattle.ahead_figures.specs.Figures.{longest}
use Rattle.law_figures.specs.Shows.{Shows}

abbrev pub ahead : Table → Bool
ahead t = keeps_up_ahead t.frame (held_of t)

-- where it begins: the columns are a table's, and an interval has so much room
pub record Begins (t : Table) (room used : ℕ) (c : Columns) : Type 0 where
  pub tidy : Tidy t
  pub frame : room_in t.frame ≡ room
  pub shows : Shows 0 used t c

-- some table is shown, and r is what looking ahead says of any
abbrev pub Begun : (room used : ℕ) → Columns → Type 0
Begun room used c = (t : Table) × Begins t room used c

abbrev pub Says : (r : Bool) (room used : ℕ) → Columns → Type 0
Says r room used c = (t : Table) → Begins t room used c → r ≡ ahead t

pub record Looking (v : Bool) (room used now taken : ℕ) (c : Columns) : Type 0 where
  pub table : Table
  pub tidy : Tidy table
  pub frame : room_in table.frame ≡ room
  pub same : ahead table ≡ v
  pub shows : Shows now used table c
  pub soon : now ≤ longest
  pub load : taken ≡ load (held_of table)
  pub enough : taken ≤ room

-- it follows from where it began
abbrev pub Follows : (room used : ℕ) → Columns → (now taken : ℕ) → Columns → Type 0
Follows room used c₀ now taken c = (t : Table) → Begins t room used c₀ → Looking (ahead t) room used now taken c
