-- Loops over the places of a table that are used. Assumes nothing.
use Rattle.std.proofs.Common.{◌≡◌, ℕ, ◌≤◌, ◌<◌, length, subst, arith}
use Rattle.base_lists.specs.Spare.{Spare}
use Rattle.spec_model.specs.Entries.{free_entry}
use Rattle.spec_model.specs.declared.Table.{Table}
use Rattle.spec_model.specs.Tables.{places}
use Rattle.table_places.proofs.Known.{inside}
use Rattle.table_queue.specs.Queues.{Used}

-- ---- a loop up to place n, from where on all are free
module _ (t : Table) (all : length t.entries ≡ places) {n i : ℕ} (u : Used n t) where
  pub used_inside : i < n → i < length t.entries
  used_inside h = inside t all (omega (arith, u.0))

  -- where it ends the rest is spare
  pub used_rest : i ≤ n → n ≤ i → Spare free_entry i t.entries
  used_rest h k = (let e : n ≡ i = omega arith in subst (λ m. Spare free_entry m t.entries) e u.1)
