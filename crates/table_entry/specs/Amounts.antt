-- What an entry takes of an interval, what it is owed, its jobs and what it may still get, as numbers that are 0 where an entry has none.
-- Assumes nothing.
use Rattle.std.specs.Prelude.{cond, ℕ}
use Rattle.spec_model.specs.Entries.{is_held, is_piece}
use Rattle.spec_model.specs.declared.Entry.{Entry}
use Rattle.spec_rules.specs.Share.{headroom, job_count}

-- what is owed to a piece; a kind 1 stream is owed nothing
abbrev pub owed_to : Entry → ℕ
owed_to e = cond (is_piece e) e.owed.0 0

-- its jobs in an interval; a free place has none
abbrev pub jobs_in : Entry → ℕ
jobs_in e = cond (is_held e) (job_count e) 0

-- what an entry may still get before its slots of step B
abbrev pub limit_of : Entry → ℕ
limit_of e = headroom e 0
