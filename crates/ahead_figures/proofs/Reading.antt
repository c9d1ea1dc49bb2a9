-- The loop that reads a table's figures: after i turns they are those of the first i places, and of free ones behind them. Assumes nothing.
use mathlib.Core.Path.{◌≡◌, refl, sym, ap, ap₂, ◌∙◌}
use mathlib.Core.List.{List, map}
use Prim.Native.Nat.{ℕ, ◌+◌, ◌≤◌, ◌<◌}
use native.Mathlib.Omega.{arith}
use lib.ListN.{length, set, get_or, replicate}
use Rattle.std.proofs.lemmas.List.{map-set}
use Rattle.base_lists.specs.Spare.{Filling, filling_none, filling_more, filling_all}
use Rattle.spec_model.specs.Entries.{free_entry}
use Rattle.spec_model.specs.declared.Entry.{Entry}
use Rattle.spec_model.specs.declared.Table.{Table}
use Rattle.spec_model.specs.Tables.{places}
use Rattle.table_queue.specs.Queues.{Used}
use Rattle.ahead_figures.specs.Figures.{figures_of}
use Rattle.ahead_figures.specs.Arrays.{free_figures, free_is}
use Rattle.ahead_figures.specs.declared.Figures.{Figures}

pub record Reading (t : Table) (used i : ℕ) (fs : List Figures) : Type 0 where
  pub entries : List Entry
  pub filling : Filling free_entry t.entries used entries i
  pub read : fs ≡ map figures_of entries

module _ (t : Table) {used : ℕ} (n : length t.entries ≡ places) where
  pub reading_none : {fs : List Figures} → fs ≡ replicate places free_figures → Reading t used 0 fs
  reading_none e =
      record { entries = replicate places free_entry; filling = filling_none n; read = e ∙ rw free_is refl }

  module _ {i : ℕ} {fs : List Figures} (r : Reading t used i fs) (u : Used used t) where
    pub reading_more : {f : Figures} → i < used → f ≡ figures_of (get_or t.entries i free_entry) → Reading t used (i + 1) (set fs i f)
    reading_more h e =
        record {
          entries = set r.entries i (get_or t.entries i free_entry);
          filling = filling_more r.filling free_entry (omega (arith, u.0)) h refl;
          read = ap₂ (λ l f. set l i f) r.read e ∙ sym (map-set figures_of r.entries i (get_or t.entries i free_entry));
        }

    pub reading_all : used ≤ i → fs ≡ map figures_of t.entries
    reading_all h = r.read ∙ ap (map figures_of) (filling_all r.filling h u.1)
