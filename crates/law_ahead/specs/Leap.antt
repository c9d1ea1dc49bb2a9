-- Intervals in which nothing ends, served as one: until the nearest end of a life or of a period nobody leaves and nobody's period begins
-- anew, so the intervals up to there are served with the slots of all of them; and looking ahead says after them what it said before.
-- Assumes nothing.
use Rattle.std.specs.Prelude.{cond, map, ℕ, ◌*◌, ◌<◌}
use Rattle.spec_lists.specs.All.{All}
use Rattle.spec_model.specs.Entries.{is_piece}
use Rattle.spec_model.specs.declared.Entry.{Entry}
use Rattle.spec_model.specs.declared.Table.{Table}
use Rattle.spec_model.specs.Tables.{held_of, with_entries}
use Rattle.spec_rules.specs.Share.{capacity}
use Rattle.spec_rules.specs.Ahead.{settled}
use Rattle.law_steps.specs.Closed.{takes}
use Rattle.law_ahead.specs.Served.{later, served}

-- the intervals until the end of the entry's period, or of its life where it has none
abbrev pub event_in : Entry → ℕ
event_in e = cond (is_piece e) e.left.0 e.life_left.0

-- after n intervals every period and every life still has one to go
abbrev pub Quiet : ℕ → Table → Type 0
Quiet n t = All (λ e. n < event_in e) (held_of t)

-- ---- a table n intervals on: E slots in each
abbrev pub E : Table → ℕ
E t = capacity t.frame (held_of t)

abbrev pub skipped : ℕ → Table → Table
skipped n t = with_entries t (served n (n * E t) t.entries)

-- and then what is over ends
abbrev pub ended : ℕ → Table → Table
ended n t = with_entries t (map settled (served n (n * E t) t.entries))

module _ (n : ℕ) (t : Table) where
  abbrev pub on_by : Entry → Entry
  on_by e = later n (takes (n * E t) t.entries e) e
