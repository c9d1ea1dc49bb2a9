-- Entries and tables: the held entries of a well-formed table stand together and fit; so do the same entries in other places, and
-- fewer of them; what a change of every place, or a new entry in a free place, makes of the held entries; and that an interval
-- leaves a table tidy. Assumes nothing.
use Rattle.std.specs.Prelude.{List}
use Rattle.spec_model.specs.declared.Table.{Table}
use Rattle.spec_model.specs.Tables.{with_entries}
use Rattle.spec_rules.specs.Share.{Grant}
use Rattle.spec_rules.specs.Ahead.{step_f}

-- ---- every place over an interval that gave bs and cs
abbrev pub stepped : (bs cs : List Grant) → Table → Table
stepped bs cs t = with_entries t (step_f bs cs t.entries)
