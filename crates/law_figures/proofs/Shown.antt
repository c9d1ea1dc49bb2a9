-- The figures of a place show its entry, at a time that counts intervals from where looking ahead began; and they show it still after the
-- intervals up to the nearest end, served as one. Assumes nothing.
use Rattle.std.specs.Prelude.{◌≡◌, refl, ◌⊎◌, Bool, true, ℕ, ◌+◌, ◌*◌, ◌-◌, ◌≤◌, ◌<◌}
use Rattle.std.proofs.Math.Path.{sym, ap}
use Rattle.std.proofs.Common.{subst, ◌∙◌, inl, inr, arith}
use Rattle.std.proofs.Math.Logic.{⊎_elim}
use Rattle.std.proofs.Math.Bool.{false, cond}
use Rattle.std.proofs.Math.Decide.{ℕ_discrete}
use Rattle.std.proofs.Math.Dec.{eqb}
use borrow.Author.Tests.{eq-eqb, ne_eqb}
use Rattle.base_lists.specs.Tests.{clash, cond_le}
use Rattle.spec_model.specs.Entries.{free_entry, is_held, is_kind, is_piece}
use Rattle.spec_model.specs.declared.Entry.{Entry}
use Rattle.spec_model.specs.declared.Frame.{Frame}
use Rattle.spec_rules.specs.Ahead.{renewed, settled}
use Rattle.spec_rules.specs.WellFormed.{Held}
use Rattle.spec_rules.specs.Share.{load_of}
use Rattle.law_model.specs.Loads.{load_of_free, load_of_standing}
use Rattle.law_steps.specs.Held.{Fraction, Piece}
use Rattle.law_steps.proofs.Held.{held_kinds, held_is, piece_of_lem, fraction_not}
use Rattle.law_steps.specs.Ranks.{rank, Ranked, rank_interval}
use Rattle.law_steps.proofs.Ranks.{held_ranked, held_rank, rank_free, rank_left, rank_most_lem}
use Rattle.law_ahead.specs.Served.{later}
use Rattle.law_ahead.proofs.Served.{standing_same}
use Rattle.law_ahead.specs.Leap.{event_in}
use Rattle.law_ahead.proofs.Leap.{later_on}
use Rattle.table_entry.specs.Amounts.{owed_to}
use Rattle.ahead_figures.specs.Figures.{longest, never, end_of, begin_of, period_of, figures_of}
use Rattle.ahead_figures.specs.Columns.{with_owed}
use Rattle.ahead_figures.specs.declared.Figures.{Figures}
use Rattle.ahead_pass.specs.Passed.{passed_end}
use Rattle.law_figures.specs.Shown.{end_at, Shown, stays}

-- ---- where looking ahead begins
not_held : {A : Type 0} → is_held free_entry ≡ true → A
not_held z = absurd (clash false z refl)

module _ {F : Frame} {e : Entry} (h : Held F e) where
  lives : (1 ≤ e.life_left.0) × (e.life_left.0 ≤ longest)
  lives =
      ⊎_elim (λ f. (f.alive, omega (arith, f.life_left, f.life_most))) (λ p. (p.alive, omega (arith, p.life_left, p.life_most)))
      (held_kinds h)

  short_period : period_of e ≤ longest
  short_period = ⊎_elim (λ f. rw f.kind (omega arith)) (λ p. omega (arith, p.period_most, cond_le (is_kind 2 e) e.period.0)) (held_kinds h)

  -- the end where looking ahead begins
  first_end_lem : end_of e ≡ end_at 0 e
  first_end_lem = rw (held_is h) (go (is_piece e))
    where
      go : (b : Bool) → cond b e.left.0 e.life_left.0 ≡ 0 + cond b e.left.0 e.life_left.0
      go true = omega arith
      go false = omega arith

pub shown_first : {F : Frame} (e : Entry) → (e ≡ free_entry) ⊎ Held F e → Shown 0 e (figures_of e)
shown_first e (inl z) = subst (λ x. Shown 0 x (figures_of x)) (sym z) (record {
  owed = refl;
  end = refl;
  load = refl;
  begin = refl;
  life = not_held;
  soon = not_held;
  period = not_held;
  short = omega arith;
  rank = λ k. absurd (clash false k refl);
  low = omega (arith, rank_free);
})
shown_first e (inr h) =
    record {
      owed = refl;
      end = first_end_lem h;
      load = refl;
      begin = refl;
      life = λ k. omega arith;
      soon = λ k. omega (arith, (lives h).1);
      period = λ k. refl;
      short = short_period h;
      rank = λ k. omega arith;
      low = omega (arith, held_rank h);
    }

-- ---- up to the nearest end: n intervals, b slots, and what stays owed
settled_free : (e : Entry) → e.life_left.0 ≡ 0 → settled e ≡ free_entry
unfolding settled
settled_free e z = rw (eq-eqb e.life_left.0 0 z)

settled_anew : (e : Entry) → 1 ≤ e.life_left.0 → e.kind ≡ 2 → e.left.0 ≡ 0 → settled e ≡ renewed e
unfolding settled
settled_anew e l k z = rw (ne_eqb e.life_left.0 0 (λ q. omega arith), k, z)

module _ (now n b : ℕ) (e : Entry) (f : Figures) (s : Shown now e f) (k : b ≤ e.owed.0) where
  abbrev at : ℕ
  at = now + n

  abbrev Next : Type 0
  Next = Shown at (settled (later n b e)) (passed_end at (with_owed (stays at b e f) f))

  -- ---- in a free place
  shown_free : at < never → e ≡ free_entry → Next
  unfolding settled
  shown_free l z = rw (other, same) (record {
    owed = omega (arith, ap owed_to z);
    end = here;
    load = s.load ∙ ap load_of z;
    begin = s.begin ∙ ap begin_of z;
    life = not_held;
    soon = not_held;
    period = not_held;
    short = s.short;
    rank = λ q. absurd (clash false q refl);
    low = omega (arith, s.low);
  })
    where
      here : f.end.0 ≡ never
      here = s.end ∙ ap (end_at now) z

      other : eqb f.end.0 at ≡ false
      other = ne_eqb f.end.0 at (λ q. omega (arith, q, here))

      same : settled (later n b e) ≡ free_entry
      same = ap (λ (x : Entry). settled (later n b x)) z ∙ ap settled (still (omega (arith, ap (λ (x : Entry). x.owed.0) z)))
        where
          still : b ≡ 0 → later n b free_entry ≡ free_entry
          still q = standing_same free_entry (omega arith) (omega arith) (omega arith) (omega arith)

  module _ {F : Frame} (h : Held F e) where
    ends : f.end.0 ≡ now + event_in e
    ends = s.end ∙ ap (λ c. cond c (now + event_in e) never) (held_is h)

    -- ---- nothing ends there
    shown_on : n < event_in e → Next
    unfolding settled
    shown_on l = rw (other, later_on n b e h l) (record {
      owed = owed (is_piece e);
      end = ends ∙ sym (ap (λ c. cond c (at + event_in (later n b e)) never) (held_is h) ∙ event (is_piece e) l);
      load = s.load ∙ sym (load_of_standing e _ _ _ _);
      begin = s.begin;
      life = λ q. s.life q ∙ sooner;
      soon = λ q. omega (arith, s.soon q, sooner);
      period = s.period;
      short = s.short;
      rank = λ q. s.rank q ∙ ranked q;
      low = omega (arith, s.low);
    })
      where
        other : eqb f.end.0 at ≡ false
        other = ne_eqb f.end.0 at (λ q. omega (arith, q, ends))

        owed : (p : Bool) → cond p e.owed.0 0 - b ≡ cond p (e.owed.0 - b) 0
        owed true = refl
        owed false = omega arith

        event : (p : Bool) → n < cond p e.left.0 e.life_left.0
            → at + cond p (e.left.0 - n) (e.life_left.0 - n) ≡ now + cond p e.left.0 e.life_left.0
        event true l = omega arith
        event false l = omega arith

        -- no life ends sooner than its period
        outlives : event_in e ≤ e.life_left.0
        outlives =
            ⊎_elim (λ x. omega (arith, ap (λ c. cond c e.left.0 e.life_left.0) (fraction_not e x.kind)))
            (λ p. omega (arith, ap (λ c. cond c e.left.0 e.life_left.0) (piece_of_lem e p.kind), p.lives)) (held_kinds h)

        sooner : now + e.life_left.0 ≡ at + (e.life_left.0 - n)
        sooner = omega (arith, outlives)

        ranked : is_piece e ≡ true → rank e + now * rank_interval ≡ rank (later n b e) + at * rank_interval
        ranked q = omega (arith, rank_left e (later n b e) refl refl, ap (λ c. cond c e.left.0 e.life_left.0) q)

    -- ---- it ends there
    module _ (l : n ≡ event_in e) where
      due : eqb f.end.0 at ≡ true
      due = eq-eqb f.end.0 at (omega (arith, ends))

      shown_gone : e.life_left.0 ≡ n → Next
      unfolding settled
      shown_gone z = rw (due, eq-eqb f.life.0 at (omega (arith, s.life (held_is h))), settled_free (later n b e) (omega arith)) (record {
        owed = refl;
        end = refl;
        load = sym load_of_free;
        begin = refl;
        life = not_held;
        soon = not_held;
        period = not_held;
        short = s.short;
        rank = λ q. absurd (clash false q refl);
        low = omega (arith, s.low);
      })

      shown_anew : (e.life_left.0 ≡ n → ⊥) → Next
      unfolding settled renewed
      shown_anew z = ⊎_elim fraction piece (held_kinds h)
        where
          fraction : Fraction F e → Next
          fraction x = absurd (z (omega (arith, ap (λ c. cond c e.left.0 e.life_left.0) (fraction_not e x.kind))))

          piece : Piece F e → Next
          piece p = rw (due, ne_eqb f.life.0 at lasting, settled_anew (later n b e) more whole over) (record {
            owed = s.begin ∙ rw (whole);
            end = sym (ap (λ c. cond c (at + event_in (renewed (later n b e))) never) (held_is h) ∙ rw (whole, follows));
            load = s.load ∙ sym (load_of_standing (later n b e) _ _ _ _ ∙ load_of_standing e _ _ _ _);
            begin = s.begin;
            life = λ q. s.life q ∙ omega (arith, more);
            soon = λ q. omega (arith, s.soon q, more);
            period = s.period;
            short = s.short;
            rank = λ q. ranked;
            low = omega (arith, ranked, rank_most_lem {e = renewed (later n b e)} low_rank p.period_most);
          })
            where
              soon : n ≡ e.left.0
              soon = l ∙ ap (λ c. cond c e.left.0 e.life_left.0) (piece_of_lem e p.kind)

              -- another period follows, so it is of kind 2
              more : 1 ≤ e.life_left.0 - n
              more = omega (arith, soon, p.lives, z)

              whole : e.kind ≡ 2
              whole = ⊎_elim (λ q. q) (λ q. absurd (z (omega (arith, p.lives, ap (λ m. m * e.period.0) (p.once q), soon)))) p.kind

              over : e.left.0 - n ≡ 0
              over = omega (arith, soon)

              follows : f.period.0 ≡ e.period.0
              follows = s.period (held_is h) ∙ ap (λ c. cond c e.period.0 0) (eq-eqb e.kind 2 whole)

              -- its rank goes on by a period
              ranked : f.rank + f.period.0 * rank_interval ≡ rank (renewed (later n b e)) + at * rank_interval
              ranked =
                  omega (
                    arith,
                    rank_left e (renewed (later n b e)) refl refl,
                    s.rank (piece_of_lem e p.kind),
                    ap (λ m. m * rank_interval) follows,
                    soon,
                  )

              low_rank : Ranked (renewed (later n b e))
              low_rank = record { kind = (held_ranked h).kind; name = (held_ranked h).name }

              lasting : f.life.0 ≡ at → ⊥
              lasting q = z (omega (arith, s.life (held_is h)))

  -- ---- whatever it is
  pub shown_next : {F : Frame} → (e ≡ free_entry) ⊎ Held F e → at < never → (is_held e ≡ true → n ≤ event_in e) → Next
  shown_next (inl z) l q = shown_free l z
  shown_next (inr h) l q =
      elim (ℕ_discrete n (event_in e)) [
        | yes a ↦ elim (ℕ_discrete e.life_left.0 n) [ yes c ↦ shown_gone h a c | no c ↦ shown_anew h a c ]
        | no a ↦ shown_on h (omega (arith, q (held_is h)))
      ]
