-- Looking ahead from one end of a period or of a life to the next. The order of step B stays up to the nearest end, so all intervals up to
-- there, the one that it comes with among them, are served as one. What is due by then is served first: a deadline is missed exactly where
-- more is due than there are slots. Otherwise looking ahead says, once what is over has ended, what it said before. Assumes nothing.
use Rattle.std.specs.Prelude.{cond, List, ℕ, ◌≤◌, leb}
use Rattle.spec_lists.specs.Lists.{sum_of}
use Rattle.spec_lists.specs.All.{All}
use Rattle.spec_model.specs.Entries.{is_piece}
use Rattle.spec_model.specs.declared.Entry.{Entry}
use Rattle.spec_model.specs.declared.Table.{Table}
use Rattle.spec_model.specs.Tables.{held_of}
use Rattle.law_ahead.specs.Leap.{event_in}

abbrev pub due_in : ℕ → List Entry → ℕ
due_in n ps = sum_of (λ (e : Entry). cond (is_piece e) (cond (leb e.left.0 n) e.owed.0 0) 0) ps

-- ---- a turn: nothing ends before n intervals are over
abbrev pub Until : ℕ → Table → Type 0
Until n t = All (λ e. n ≤ event_in e) (held_of t)
