-- An even share by the figures of looking ahead: what it takes of an interval is what the table's places need, and where that is no more
-- than an interval has, looking ahead says yes. Assumes nothing.
use Rattle.std.specs.Prelude.{◌≡◌, refl, Bool, true, cond, ℕ, ◌-◌, ◌≤◌, ◌<◌, max, get_or}
use Rattle.std.proofs.Common.{sym, ap, ◌∙◌, arith, eq-eqb, ne_eqb}
use Rattle.std.proofs.Math.Logic.{⊎_elim}
use Rattle.spec_lists.specs.Lists.{sum_of}
use Rattle.base_lists.specs.Spare.{spare_at_lem}
use Rattle.base_numbers.specs.Upward.{upward}
use Rattle.spec_model.specs.Entries.{free_entry}
use Rattle.spec_model.specs.declared.Entry.{Entry}
use Rattle.spec_model.specs.declared.Table.{Table}
use Rattle.spec_model.specs.Tables.{places}
use Rattle.spec_rules.specs.WellFormed.{Held, Tidy}
use Rattle.spec_rules.specs.Share.{load_of}
use Rattle.law_model.specs.Loads.{load_of_free}
use Rattle.law_steps.specs.Held.{Fraction, Piece}
use Rattle.law_steps.proofs.Held.{held_kinds, held_is, piece_of_lem, fraction_not}
use Rattle.table_entry.specs.Amounts.{owed_to}
use Rattle.law_ahead.specs.Even.{evenly}
use Rattle.ahead_figures.specs.Columns.{Columns, figures_at}
use Rattle.ahead_figures.specs.Figures.{never, begin_of}
use Rattle.ahead_figures.specs.Totals.{total, total_entries, total_same}
use Rattle.ahead_even.specs.Need.{even_need, evenly_free, evenly_fraction, even_enough}
use Rattle.ahead_even.specs.Needs.{need_in, even_needs, shares, Shared, even_none, even_whole, even_transfer}
use Rattle.law_figures.specs.Shows.{Shows}
use Rattle.law_figures.proofs.Shows.{place, end_held, ends_ahead}
use Rattle.law_figures.specs.Looking.{Looking}

module _ {now used : ℕ} {t : Table} {c : Columns} (s : Shows now used t c) (w : Tidy t) where
  abbrev here : ℕ → Entry
  here i = get_or t.entries i free_entry

  -- ---- one place
  module _ (i : ℕ) (h : i < places) where
    -- what serves it in time
    abbrev Serves : Type 0
    Serves = max (upward (get_or c.owed i 0) (get_or c.ends i 0 - now)) (upward (get_or c.begins i 0) (get_or c.periods i 0)) ≡ evenly (here i)

    -- nothing, where nothing is owed and no period begins
    nothing : owed_to (here i) ≡ 0 → begin_of (here i) ≡ 0 → evenly (here i) ≡ 0 → Serves
    nothing o b z =
        rw ((s.each i h).owed ∙ o, (s.each i h).begin ∙ b) (even_none (get_or c.ends i 0 - now) (get_or c.periods i 0) ∙ sym z)

    free : here i ≡ free_entry → Serves
    free z = nothing (ap owed_to z) (ap begin_of z) (ap evenly z ∙ evenly_free)

    held : Held t.frame (here i) → Serves
    held k = ⊎_elim fraction piece (held_kinds k)
      where
        fraction : Fraction t.frame (here i) → Serves
        fraction f = nothing (rw (fraction_not (here i) f.kind)) (rw f.kind) (evenly_fraction (here i) f.kind)

        piece : Piece t.frame (here i) → Serves
        piece p = rw (owed, left) (⊎_elim whole transfer p.kind)
          where
            owed : get_or c.owed i 0 ≡ (here i).owed.0
            owed = (s.each i h).owed ∙ ap (λ b. cond b (here i).owed.0 0) (piece_of_lem (here i) p.kind)

            Then : Type 0
            Then =
                max (upward (here i).owed.0 (here i).left.0) (upward (get_or c.begins i 0) (get_or c.periods i 0)) ≡ evenly (here i)

            whole : (here i).kind ≡ 2 → Then
            whole q =
                rw (
                  (s.each i h).begin ∙ ap (λ b. cond b (here i).min.0 0) (eq-eqb (here i).kind 2 q),
                  (s.each i h).period (held_is k) ∙ ap (λ b. cond b (here i).period.0 0) (eq-eqb (here i).kind 2 q),
                )
                (even_whole (here i) q)

            transfer : (here i).kind ≡ 3 → Then
            transfer q =
                rw ((s.each i h).begin ∙ ap (λ b. cond b (here i).min.0 0) (ne_eqb (here i).kind 2 (λ z. omega arith)))
                (even_transfer (here i) q (get_or c.periods i 0))

            left : get_or c.ends i 0 - now ≡ (here i).left.0
            left =
                let e = end_held s w i h (held_is k) in
                omega (arith, e, ap (λ b. cond b (here i).left.0 (here i).life_left.0) (piece_of_lem (here i) p.kind))

    needs : need_in now (figures_at c i) ≡ even_need (here i)
    unfolding even_need
    needs = rw ((s.each i h).load, ⊎_elim free held (place s w i h))

  -- ---- all of them
  module _ (l : now < never) where
    shared_then : Shared (shares c.owed c.ends c.loads c.begins c.periods) used now
    shared_then =
        record {
          few = s.spare.0;
          owed = λ i h k. (s.each i k).owed ∙ ap owed_to (behind i h k);
          loads = λ i h k. (s.each i k).load ∙ ap load_of (behind i h k) ∙ load_of_free;
          begins = λ i h k. (s.each i k).begin ∙ ap begin_of (behind i h k);
          ahead = ends_ahead s w l;
        }
      where
        behind : (i : ℕ) → used ≤ i → i < places → here i ≡ free_entry
        behind i h k = spare_at_lem free_entry used i t.entries free_entry s.spare.1 h (omega (arith, w.size))

    even_shown : even_needs now c ≡ sum_of even_need t.entries
    even_shown =
        ap (λ n. total n (need_in now) c) (sym w.size)
        ∙ total_entries (need_in now) c even_need t.entries (λ i h. needs i (omega (arith, w.size)))

-- ---- between two ends
module _ {v : Bool} {room used now taken : ℕ} {c : Columns} (k : Looking v room used now taken c) where
  soon : now < never
  soon = omega (arith, k.soon)

  abbrev lent : Columns
  lent = shares c.owed c.ends c.loads c.begins c.periods

  pub shared : Shared lent used now
  shared = shared_then k.shows k.tidy soon

  pub looking_even : {n : ℕ} → n ≡ even_needs now lent → n ≤ room → true ≡ v
  looking_even e h =
      let needed = e ∙ total_same (need_in now) lent c places (λ i. refl) ∙ even_shown k.shows k.tidy soon in
      sym (even_enough k.table k.tidy (omega (arith, needed, k.frame))) ∙ k.same
