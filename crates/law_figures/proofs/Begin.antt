-- Where looking ahead begins: the figures of a table show it; and a table with one more entry at a place. Assumes nothing.
use Rattle.std.specs.Prelude.{◌≡◌, refl, ℕ, ◌+◌, ◌≤◌, ◌<◌, max, set, get_or}
use Rattle.std.proofs.Common.{sym, subst, ◌∙◌, arith, length-set, get_or-set_same, get_or-set_other}
use Rattle.base_lists.specs.All.{all_at}
use Rattle.base_lists.specs.Spare.{spare_at_lem, spare_of}
use Rattle.spec_model.specs.Entries.{free_entry}
use Rattle.spec_model.specs.declared.Entry.{Entry}
use Rattle.spec_model.specs.declared.Table.{Table}
use Rattle.spec_model.specs.Frames.{room_in}
use Rattle.spec_model.specs.Tables.{places, put_in}
use Rattle.spec_rules.specs.WellFormed.{Tidy}
use Rattle.spec_rules.specs.Share.{load_of}
use Rattle.law_model.specs.Frames.{most_slots}
use Rattle.law_steps.proofs.Closed.{load_most}
use Rattle.table_queue.specs.Queues.{Used}
use Rattle.ahead_figures.specs.Columns.{Columns, figures_at, columns_of, columns_sized, columns_at}
use Rattle.law_figures.specs.Shown.{Shown}
use Rattle.law_figures.proofs.Shown.{shown_first}
use Rattle.law_figures.specs.Looking.{Begins}

-- ---- a table
pub begins : (t : Table) → Tidy t → {used : ℕ} → Used used t → {c : Columns} → c ≡ columns_of t.entries → Begins t (room_in t.frame) used c
begins t w {used} u q =
    subst (Begins t (room_in t.frame) used) (sym q) (record {
      tidy = w;
      frame = refl;
      shows = record { sized = columns_sized t.entries w.size; spare = u; each = each };
    })
  where
    each : (i : ℕ) → i < places → Shown 0 (get_or t.entries i free_entry) (figures_at (columns_of t.entries) i)
    each i h =
        rw (columns_at t.entries i (omega (arith, w.size)))
        (shown_first (get_or t.entries i free_entry) (all_at _ t.entries free_entry w.entries i (omega (arith, w.size))))

-- ---- one more entry
module _ (t : Table) (w : Tidy t) {place : ℕ} (e : Entry) (h : place < places) where
  -- its load is small
  pub load_small : Tidy (put_in t place e) → load_of e ≤ most_slots
  load_small v =
      subst (λ x. load_of x ≤ most_slots) (get_or-set_same t.entries place e free_entry (omega (arith, w.size)))
      (all_at (λ x. load_of x ≤ most_slots) (put_in t place e).entries free_entry (load_most (put_in t place e) v) place
      (omega (arith, v.size)))

  pub put_used : {used n : ℕ} → Used used t → n ≡ max used (place + 1) → Used n (put_in t place e)
  put_used {used} {n} u r = (
    omega (arith, u.0),
    spare_of free_entry n (set t.entries place e) free_entry (λ i k l.
        get_or-set_other t.entries place i e free_entry (λ z. omega arith)
        ∙ spare_at_lem free_entry used i t.entries free_entry u.1 (omega arith) (omega (arith, length-set t.entries place e))),
  )
