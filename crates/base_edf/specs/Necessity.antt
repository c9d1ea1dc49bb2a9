-- Necessity of room: where some plan, within the capacity at every time, gives every job what it asks in its window,
-- no window asks more than its capacity.
-- Assumes nothing.
use Rattle.std.specs.Prelude.{ℕ, ◌+◌, ◌*◌, ◌≤◌, ◌<◌}
use Rattle.spec_lists.specs.Lists.{span}
use Rattle.base_edf.specs.Edf.{Source, source}

-- y t is what the source gets in t: each job gets in its window at least what it asks
abbrev pub Fed : Source → (ℕ → ℕ) → Type 0
Fed (source r l n p j) y = (r ≤ span y 0 l) × ((k : ℕ) → k < j → n ≤ span y (l + k * p) (l + k * p + p))
