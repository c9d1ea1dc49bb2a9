-- What stays owed where slots are handed out by rank, what is due at an end and what is not. Assumes nothing.
use Rattle.std.specs.Prelude.{◌≡◌, cond, List, ℕ, ◌-◌, ◌≤◌, ◌<◌, eqb, length, get_or}
use Rattle.spec_lists.specs.All.{All}
use Rattle.spec_lists.specs.Lists.{sum_of}
use Rattle.base_lists.specs.Spare.{Spare}
use Rattle.spec_model.specs.Tables.{places}
use Rattle.table_queue.specs.Zips.{zip}
use Rattle.table_queue.specs.Queues.{no_rank, piece_of}

-- what stays owed at each place after c slots were handed out by rank
abbrev pub left_of : (c : ℕ) (ranks owed : List ℕ) → List ℕ
left_of c ranks owed = zip (λ k o. o - piece_of c ranks owed k o) ranks owed

-- what is due at the end `at`
abbrev pub due_of : (at : ℕ) (ends owed : List ℕ) → ℕ
due_of at ends owed = sum_of (λ v. v) (zip (λ e o. cond (eqb e at) o 0) ends owed)

-- and what is not
abbrev pub unpaid : (at : ℕ) (ends owed : List ℕ) → List ℕ
unpaid at ends owed = zip (λ e o. cond (eqb e at) 0 o) ends owed

-- ---- what the code asks
-- no two places that are owed something have one rank
abbrev pub Apart : (ranks owed : List ℕ) → Type 0
Apart ranks owed = (i j : ℕ) → 0 < get_or owed i 0 → 0 < get_or owed j 0 → get_or ranks i 0 ≡ get_or ranks j 0 → i ≡ j

-- what is owed at the places of a table, of which only the first are used; each has a key, its rank or its end
pub record Owing (keys owed : List ℕ) (used : ℕ) : Type 0 where
  pub keyed : length keys ≡ places
  pub room : length owed ≡ places
  pub short : used ≤ places
  pub spare : Spare 0 used owed

-- by such ranks it can be served: each is somebody's
pub record Ranked (ranks owed : List ℕ) (used : ℕ) : Type 0 where
  pub owing : Owing ranks owed used
  pub apart : Apart ranks owed
  pub small : All (λ r. r < no_rank) ranks

-- i is the place of the lowest rank among those that are owed something, and no place where nobody is
pub record First (ranks owed : List ℕ) (i : ℕ) : Type 0 where
  pub some : i < places → 0 < get_or owed i 0
  pub least : (j : ℕ) → 0 < get_or owed j 0 → (i < places) × (get_or ranks i 0 ≤ get_or ranks j 0)
