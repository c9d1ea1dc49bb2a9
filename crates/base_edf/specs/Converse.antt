-- The converse of a step: where all that was given fits the capacity, nothing missed its deadline and what is left has room,
-- there was room before. So a run without a miss, until every source is gone, shows that there was room from the start.
-- Assumes nothing.
use Rattle.std.specs.Prelude.{◌≡◌, zero, suc, ◌≤◌}
use Rattle.base_edf.specs.Edf.{Source, source}

-- a source whose job runs has later jobs of some length; one whose deadline has come asks nothing and has no later jobs
abbrev pub Sound : Source → Type 0
Sound (source r zero n p j) = (r ≡ 0) × (j ≡ 0)
Sound (source r (suc l) n p j) = 1 ≤ p
