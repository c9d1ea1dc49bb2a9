-- What looking ahead, but for the header test, knows between two ends: the columns show a table of which it says what it said of the first, v, and which its load does
-- not overfill. Then what each step of a turn says of v. Assumes nothing.
use Rattle.std.specs.Prelude.{◌≡◌, refl, Bool, true, false, cond, ◌&&◌, ◌||◌, List, [], ◌∷◌, ℕ, zero, suc, ◌+◌, ◌*◌, ◌-◌, ◌≤◌, ◌<◌, eqb, length}
use Rattle.std.proofs.Common.{sym, ap, subst, ◌∙◌, ⊎_elim, zero-le, le_refl, le_trans, le_of_eq, arith, lt-ltb, le-ltb}
use Rattle.std.proofs.lemmas.Simd.{map-map}
use Rattle.spec_lists.specs.Lists.{sum_of, any_of}
use Rattle.base_lists.specs.All.{all_of}
use Rattle.base_lists.specs.Sums.{sum_le, sum_map}
use Rattle.spec_model.specs.Entries.{free_entry, is_kind}
use Rattle.spec_model.specs.declared.Entry.{Entry}
use Rattle.spec_model.specs.declared.Table.{Table}
use Rattle.spec_model.specs.Frames.{room_in}
use Rattle.spec_model.specs.Tables.{held_of}
use Rattle.spec_rules.specs.Share.{load, overfull, step_b, load_of}
use Rattle.spec_rules.specs.Ahead.{renewed, settled, misses}
use Rattle.spec_rules.specs.WellFormed.{Tidy}
use Rattle.law_model.specs.Loads.{load_of_free, load_of_standing}
use Rattle.law_steps.proofs.Places.{load_places}
use Rattle.law_steps.specs.Closed.{takes}
use Rattle.law_ahead.proofs.Loop.{ahead_over, ahead_misses}
use Rattle.law_ahead.specs.Served.{later}
use Rattle.law_ahead.specs.Leap.{E, ended}
use Rattle.law_ahead.specs.Ends.{due_in, Until}
use Rattle.law_ahead.proofs.Ends.{turn_tidy, turn_misses, turn_same}
use Rattle.ahead_serve.specs.Serving.{left_of, due_of, unpaid, Owing, Ranked}
use Rattle.ahead_serve.specs.Laws.{unpaid_less, length_unpaid, length_left, ranked_less}
use Rattle.ahead_figures.specs.Columns.{Columns, owing}
use Rattle.ahead_figures.specs.Figures.{longest, never}
use Rattle.ahead_next.specs.Ends.{first_end}
use Rattle.ahead_pass.specs.Passed.{Roomy, PassedEnds}
use Rattle.law_figures.specs.Shows.{Shows}
use Rattle.law_figures.proofs.Shows.{owed_spare, first_after, first_soon, first_until, none_left, some_left, load_shown, due_shown}
use Rattle.law_figures.proofs.Onward.{ranked, roomy, shows_next}
use Rattle.law_figures.specs.Looking.{ahead, Begins, Looking}

-- ---- the first interval
some_load : (es : List Entry) → 0 < load es → 1 ≤ length es
unfolding load
some_load [] h = absurd (omega arith)
some_load (e ∷ es) h = omega arith

module _ {t : Table} {room used taken : ℕ} {c : Columns} (b : Begins t room used c) (e : taken ≡ sum_of (λ v. v) c.loads) where
  loaded : taken ≡ load (held_of t)
  loaded = e ∙ load_shown b.shows b.tidy

  pub first_full : room < taken → false ≡ ahead t
  first_full h =
      sym (ahead_misses t b.tidy (some_load (held_of t) (omega (arith, loaded)))
      (ap (λ o. o || any_of (misses (step_b t.frame (held_of t))) (held_of t))
      (lt-ltb (room_in t.frame) (load (held_of t)) (omega (arith, loaded, b.frame)))))

  pub looking_first : taken ≤ room → Looking (ahead t) room used 0 taken c
  looking_first h =
      record {
        table = t;
        tidy = b.tidy;
        frame = b.frame;
        same = refl;
        shows = b.shows;
        soon = zero-le;
        load = loaded;
        enough = h;
      }

-- ---- a turn
-- what ended takes no more than before
settled_load : (e : Entry) → load_of (settled e) ≤ load_of e
unfolding settled renewed
settled_load e = go (eqb e.life_left.0 0) (is_kind 2 e && eqb e.left.0 0)
  where
    go : (a b : Bool) → load_of (cond a free_entry (cond b (renewed e) e)) ≤ load_of e
    go true b = rw load_of_free zero-le
    go false true = rw (load_of_standing e) (le_refl (load_of e))
    go false false = le_refl (load_of e)

ended_load : (n : ℕ) (t : Table) → load (ended n t).entries ≤ load t.entries
unfolding load
ended_load n t =
    omega (
      arith,
      ap (sum_of load_of) (map-map settled (λ e. later n (takes (n * E t) t.entries e) e) t.entries),
      sum_map load_of (λ e. settled (later n (takes (n * E t) t.entries e) e)) t.entries,
      sum_le (λ e. load_of (settled (later n (takes (n * E t) t.entries e) e))) load_of
          (all_of t.entries
          (λ e. le_trans (settled_load (later n (takes (n * E t) t.entries e) e)) (le_of_eq (load_of_standing e _ _ _ _)))),
    )

-- the laws of a turn, for any number of intervals
module _ (t : Table) (w : Tidy t) where
  tidy_then : (n : ℕ) → 1 ≤ n → Until n t → Tidy (ended n t)
  tidy_then zero h u = absurd (omega arith)
  tidy_then (suc m) h u = turn_tidy m t w u

  module _ (l : 1 ≤ length (held_of t)) (o : overfull t.frame (held_of t) ≡ false) where
    late_then : (n : ℕ) → 1 ≤ n → Until n t → n * E t < due_in n t.entries → ahead t ≡ false
    late_then zero h u d = absurd (omega arith)
    late_then (suc m) h u d = turn_misses m t w u l o d

    same_then : (n : ℕ) → 1 ≤ n → Until n t → due_in n t.entries ≤ n * E t → ahead (ended n t) ≡ ahead t
    same_then zero h u d = absurd (omega arith)
    same_then (suc m) h u d = turn_same m t w u l o d

-- what functions on the columns ask
module _ {v : Bool} {room used now taken : ℕ} {c : Columns} (k : Looking v room used now taken c) where
  pub for_pay : Owing c.ends c.owed used
  for_pay =
      let s = k.shows in
      record { keyed = s.sized.ends; room = s.sized.owed; short = s.spare.0; spare = owed_spare s k.tidy }

  module _ (at : ℕ) where
    pub for_serve : Ranked c.ranks (unpaid at c.ends c.owed) used
    for_serve =
        ranked_less (unpaid at c.ends c.owed) (length_unpaid at for_pay) (unpaid_less at c.ends c.owed)
        (ranked k.shows k.tidy k.soon)

    pub for_pass : (m : ℕ) → at ≤ longest → Roomy (owing (left_of m c.ranks (unpaid at c.ends c.owed)) c) used at
    for_pass m h = roomy k.shows k.tidy k.soon (length_left m for_serve.owing) at h

module _ {v : Bool} {room used now taken at : ℕ} {c : Columns} (k : Looking v room used now taken c) (f : at ≡ first_end c.ends) where
  abbrev t : Table
  t = k.table

  pub looking_done : at ≡ never → true ≡ v
  looking_done h = sym (ahead_over t.frame (held_of t) (none_left k.shows k.tidy (sym f ∙ h))) ∙ k.same

  module _ (g : at ≡ never → ⊥) where
    pub at_soon : (now < at) × (at ≤ longest)
    at_soon = (
      omega (arith, f, first_after k.shows k.tidy (omega (arith, k.soon))),
      ⊎_elim (λ h. omega (arith, f)) (λ h. absurd (g (f ∙ h))) (first_soon k.shows k.tidy),
    )

    abbrev n : ℕ
    n = at - now

    whole : now + n ≡ at
    whole = omega (arith, at_soon.0)

    some : 1 ≤ n
    some = omega (arith, at_soon.0)

    until : Until n t
    until = first_until k.shows k.tidy n (sym f ∙ sym whole)

    held : 1 ≤ length (held_of t)
    held = some_left k.shows k.tidy (λ z. g (f ∙ z))

    not_over : overfull t.frame (held_of t) ≡ false
    not_over = le-ltb (room_in t.frame) (load (held_of t)) (omega (arith, k.load, k.frame, k.enough))

    module _ {m due : ℕ} (p : m ≡ n * (room - taken)) (q : due ≡ due_of at c.ends c.owed) where
      slots_then : m ≡ n * E t
      slots_then = p ∙ ap (λ x. n * x) (omega (arith, k.frame, k.load))

      due_then : due ≡ due_in n t.entries
      due_then = q ∙ ap (λ x. due_of x c.ends c.owed) (sym whole) ∙ due_shown k.shows k.tidy n until

      pub looking_late : m < due → false ≡ v
      looking_late h = sym (late_then t k.tidy held not_over n some until (omega (arith, slots_then, due_then))) ∙ k.same

      pub looking_next : {taken' : ℕ} {c' : Columns} → due ≤ m
          → PassedEnds at (owing (left_of (m - due) c.ranks (unpaid at c.ends c.owed)) c) c' → taken' ≡ sum_of (λ x. x) c'.loads
          → Looking v room used at taken' c'
      looking_next {taken'} {c'} h a e =
          record {
            table = ended n t;
            tidy = tidy;
            frame = k.frame;
            same = same_then t k.tidy held not_over n some until (omega (arith, slots_then, due_then)) ∙ k.same;
            shows = shows;
            soon = at_soon.1;
            load = loaded_then;
            enough = omega (
              arith,
              loaded_then,
              load_places (ended n t) tidy,
              ended_load n t,
              load_places t k.tidy,
              k.load,
              k.enough,
            );
          }
        where
          tidy : Tidy (ended n t)
          tidy = tidy_then t k.tidy n some until

          shows : Shows at used (ended n t) c'
          shows =
              subst (λ x. Shows x used (ended n t) c') whole
              (shows_next k.shows k.tidy k.soon n m until (omega (arith, due_then)) (omega (arith, whole, at_soon.1)) slots_then
              (rw (whole, ← due_then) a))

          loaded_then : taken' ≡ load (held_of (ended n t))
          loaded_then = e ∙ load_shown shows tidy
