-- A plan has few records: a run ends with its job or where a job is released.
-- Assumes nothing.
use Rattle.std.specs.Prelude.{List, ℕ, ◌+◌, ltb}
use Rattle.spec_lists.specs.Lists.{one_if, sum_of}
use Rattle.spec_rules.specs.Slots.{Job}

-- what of a job is still to come when slot s comes: its end, and its release
abbrev pub to_come : ℕ → Job → ℕ
to_come s j = one_if (ltb 0 j.need) + one_if (ltb s j.release)

-- the jobs that are not finished, and those that are released after s
abbrev pub ahead : ℕ → List Job → ℕ
ahead s js = sum_of (to_come s) js
