-- Columns of figures that show a table, place by place, at a time that counts intervals from where looking ahead began: what they say of
-- the table together. Assumes nothing.
use Rattle.std.specs.Prelude.{ℕ, ◌<◌, get_or}
use Rattle.spec_model.specs.Entries.{free_entry}
use Rattle.spec_model.specs.declared.Table.{Table}
use Rattle.spec_model.specs.Tables.{places}
use Rattle.table_queue.specs.Queues.{Used}
use Rattle.ahead_figures.specs.Columns.{Columns, Sized, figures_at}
use Rattle.law_figures.specs.Shown.{Shown}

pub record Shows (now used : ℕ) (t : Table) (c : Columns) : Type 0 where
  pub sized : Sized c
  pub spare : Used used t
  pub each : (i : ℕ) → i < places → Shown now (get_or t.entries i free_entry) (figures_at c i)
