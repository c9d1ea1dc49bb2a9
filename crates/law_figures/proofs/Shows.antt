-- Columns of figures that show a table, place by place, at a time that counts intervals from where looking ahead began: what they say of
-- the table together. Assumes nothing.
use Rattle.std.specs.Prelude.{◌≡◌, ◌⊎◌, Bool, true, cond, List, map, ℕ, ◌+◌, ◌≤◌, ◌<◌, leb, eqb, drop, get_or}
use Rattle.std.proofs.Math.Path.{refl, sym, ap}
use Rattle.std.proofs.Common.{subst, ◌∙◌, inl, inr, ⊎_elim, arith, ext_get_or, eqb-true, leb-true, eq-eqb, le-leb}
use Rattle.std.proofs.Math.Bool.{false}
use Rattle.std.proofs.Math.Decide.{dec_le}
use Rattle.std.proofs.Math.ListN.{length}
use Rattle.std.proofs.lemmas.List.{length-map}
use Rattle.spec_lists.specs.Lists.{sum_of, one_if}
use Rattle.spec_lists.specs.All.{All}
use Rattle.base_lists.specs.Tests.{clash, same_test, cond_zero}
use Rattle.base_lists.specs.All.{all_at, at_all, all_keep, all_kept}
use Rattle.base_lists.specs.Sums.{sum_map, sum_zero, count_none}
use Rattle.base_lists.specs.Spare.{Spare, spare_map}
use Rattle.base_lists.specs.Loops.{map_at, length_count}
use Rattle.spec_model.specs.Entries.{free_entry, is_held, is_piece}
use Rattle.spec_model.specs.declared.Entry.{Entry}
use Rattle.spec_model.specs.declared.Table.{Table}
use Rattle.spec_model.specs.declared.Frame.{Frame}
use Rattle.spec_model.specs.Tables.{places, held_of}
use Rattle.spec_rules.specs.Share.{load, load_of}
use Rattle.spec_rules.specs.WellFormed.{Held, Tidy}
use Rattle.law_model.specs.Loads.{load_of_free}
use Rattle.law_steps.specs.Held.{Fraction, Piece}
use Rattle.law_steps.proofs.Held.{held_kinds, held_is, piece_of_lem, fraction_not}
use Rattle.law_steps.proofs.Places.{load_places}
use Rattle.law_ahead.specs.Leap.{event_in}
use Rattle.law_ahead.specs.Ends.{due_in, Until}
use Rattle.table_entry.specs.Amounts.{owed_to}
use Rattle.table_queue.specs.Zips.{zip, zip_as}
use Rattle.ahead_serve.specs.Serving.{due_of}
use Rattle.ahead_figures.specs.Columns.{Columns}
use Rattle.ahead_figures.specs.Figures.{longest, never}
use Rattle.ahead_next.specs.Ends.{first_end}
use Rattle.ahead_next.specs.EndLaws.{first_all, first_least, first_above, first_within}
use Rattle.law_figures.specs.Shown.{end_at}
use Rattle.law_figures.specs.Shows.{Shows}

-- ---- one place
-- a held entry's next end is to come, and not after its life
event_ahead : {F : Frame} {e : Entry} → Held F e → (1 ≤ event_in e) × (event_in e ≤ e.life_left.0)
event_ahead {F} {e} h = ⊎_elim fraction piece (held_kinds h)
  where
    by : (b : Bool) → is_piece e ≡ b → event_in e ≡ cond b e.left.0 e.life_left.0
    by b q = ap (λ x. cond x e.left.0 e.life_left.0) q

    fraction : Fraction F e → (1 ≤ event_in e) × (event_in e ≤ e.life_left.0)
    fraction f = (let s = by false (fraction_not e f.kind) in (omega (arith, f.alive), omega arith))

    piece : Piece F e → (1 ≤ event_in e) × (event_in e ≤ e.life_left.0)
    piece p = (let s = by true (piece_of_lem e p.kind) in (omega (arith, p.ahead), omega (arith, p.lives)))

-- what is due no sooner than n is due by n exactly where it is due at n
pub now_or_later : (now n l : ℕ) → n ≤ l → eqb (now + l) (now + n) ≡ leb l n
now_or_later now n l h =
    same_test (eqb (now + l) (now + n)) (leb l n) (λ k. le-leb l n (omega (arith, eqb-true (now + l) (now + n) k)))
    (λ k. eq-eqb (now + l) (now + n) (omega (arith, leb-true l n k)))

module _ {now used : ℕ} {t : Table} {c : Columns} (s : Shows now used t c) (w : Tidy t) where
  abbrev at_place : ℕ → Entry
  at_place i = get_or t.entries i free_entry

  pub place : (i : ℕ) → i < places → (at_place i ≡ free_entry) ⊎ Held t.frame (at_place i)
  place i h = all_at _ t.entries free_entry w.entries i (omega (arith, w.size))

  -- ---- columns that go by the entry alone: the same at every free place
  column : (X : List ℕ) (g : Entry → ℕ) → length X ≡ places → ((i : ℕ) → i < places → get_or X i 0 ≡ g (at_place i)) → X ≡ map g t.entries
  column X g n h =
      ext_get_or 0 X (map g t.entries) (n ∙ sym (length-map t.entries g ∙ w.size)) (λ i l.
      let k : i < places = omega (arith, n) in h i k ∙ sym (map_at g t.entries i free_entry 0 (omega (arith, w.size))))

  ends_shown : c.ends ≡ map (end_at now) t.entries
  ends_shown = column c.ends (end_at now) s.sized.ends (λ i h. (s.each i h).end)

  owed_shown : c.owed ≡ map owed_to t.entries
  owed_shown = column c.owed owed_to s.sized.owed (λ i h. (s.each i h).owed)

  loads_shown : c.loads ≡ map load_of t.entries
  loads_shown = column c.loads load_of s.sized.loads (λ i h. (s.each i h).load)

  free_behind : (g : Entry → ℕ) → All (λ x. x ≡ g free_entry) (drop used (map g t.entries))
  free_behind g = spare_map free_entry g used t.entries s.spare.1

  pub ends_spare : Spare never used c.ends
  ends_spare = rw ends_shown (free_behind (end_at now))

  pub owed_spare : Spare 0 used c.owed
  owed_spare = rw owed_shown (free_behind owed_to)

  loads_spare : Spare 0 used c.loads
  loads_spare = rw loads_shown (subst (λ v. Spare v used (map load_of t.entries)) load_of_free (free_behind load_of))

  -- what functions on the columns ask
  pub for_load : (used ≤ places) × ((length c.loads ≡ places) × Spare 0 used c.loads)
  for_load = (s.spare.0, (s.sized.loads, loads_spare))

  pub for_end : (used ≤ places) × ((length c.ends ≡ places) × Spare never used c.ends)
  for_end = (s.spare.0, (s.sized.ends, ends_spare))

  -- ---- ends
  -- where each is
  end_free : (i : ℕ) → i < places → at_place i ≡ free_entry → get_or c.ends i 0 ≡ never
  end_free i h z = (s.each i h).end ∙ ap (end_at now) z

  pub end_held : (i : ℕ) → i < places → is_held (at_place i) ≡ true → get_or c.ends i 0 ≡ now + event_in (at_place i)
  end_held i h k = (s.each i h).end ∙ ap (λ b. cond b (now + event_in (at_place i)) never) k

  -- of a held entry it is to come, and soon
  end_bounds : (i : ℕ) → i < places → Held t.frame (at_place i) → (now < get_or c.ends i 0) × (get_or c.ends i 0 ≤ longest)
  end_bounds i h k =
      let e = end_held i h (held_is k) in
      let b = event_ahead k in
      (omega (arith, e, b.0), omega (arith, e, b.1, (s.each i h).soon (held_is k)))

  by_places : (Q : ℕ → Type 0) → Q never → ((i : ℕ) → i < places → Held t.frame (at_place i) → Q (get_or c.ends i 0)) → All Q c.ends
  by_places Q z f =
      at_all Q c.ends 0 (λ i k. let h : i < places = omega (arith, s.sized.ends) in
      ⊎_elim (λ q. subst Q (sym (end_free i h q)) z) (f i h) (place i h))

  pub ends_ahead : now < never → (i : ℕ) → i < places → now ≤ get_or c.ends i 0
  ends_ahead l i h = ⊎_elim (λ z. omega (arith, end_free i h z)) (λ k. omega (arith, (end_bounds i h k).0)) (place i h)

  pub first_after : now < never → now < first_end c.ends
  first_after l = first_above l (by_places (λ e. now < e) l (λ i h k. (end_bounds i h k).0))

  pub first_soon : (first_end c.ends ≤ longest) ⊎ (first_end c.ends ≡ never)
  first_soon = first_within longest (by_places (λ e. (e ≤ longest) ⊎ (e ≡ never)) (inr refl) (λ i h k. inl (end_bounds i h k).1))

  -- nobody's is nearer
  pub first_until : (n : ℕ) → first_end c.ends ≡ now + n → Until n t
  first_until n q = all_keep {P = λ e. is_held e ≡ true → n ≤ event_in e} is_held (λ e h k. k h) (at_all _ t.entries free_entry one)
    where
      one : (i : ℕ) → i < length t.entries → is_held (at_place i) ≡ true → n ≤ event_in (at_place i)
      one i l h =
          let k : i < places = omega (arith, w.size) in
          omega (arith, all_at _ c.ends 0 (first_least c.ends) i (omega (arith, s.sized.ends)), end_held i k h)

  -- where there is none, nothing is held
  pub none_left : first_end c.ends ≡ never → length (held_of t) ≡ 0
  none_left q = length_count is_held t.entries ∙ sum_zero (λ e. one_if (is_held e)) (at_all _ t.entries free_entry one)
    where
      one : (i : ℕ) → i < length t.entries → one_if (is_held (at_place i)) ≡ 0
      one i l =
          let k : i < places = omega (arith, w.size) in
          ⊎_elim (λ z. ap (λ e. one_if (is_held e)) z)
          (λ h. absurd (omega (arith, all_at _ c.ends 0 (first_least c.ends) i (omega (arith, s.sized.ends)), (end_bounds i k h).1)))
          (place i k)

  pub some_left : (first_end c.ends ≡ never → ⊥) → 1 ≤ length (held_of t)
  unfolding first_end
  some_left n = elim (dec_le 1 (length (held_of t))) [ yes h ↦ h | no h ↦ absurd (n (none (omega arith))) ]
    where
      none : length (held_of t) ≡ 0 → first_end c.ends ≡ never
      none z = sym (first_all 0 c.ends (by_places (λ e. e ≡ never) refl (λ i h k. absurd (clash (is_held (at_place i)) (held_is k) (free i h)))))
        where
          free : (i : ℕ) → i < places → is_held (at_place i) ≡ false
          free i h =
              all_at (λ e. is_held e ≡ false) t.entries free_entry
              (count_none is_held t.entries (sym (length_count is_held t.entries) ∙ z)) i (omega (arith, w.size))

  -- ---- sums
  -- over two arrays, as a sum over the places
  pub sum_as : (f : ℕ → ℕ → ℕ) (g : Entry → ℕ) (X Y : List ℕ) → length X ≡ places → length Y ≡ places
      → ((i : ℕ) → i < places → f (get_or X i 0) (get_or Y i 0) ≡ g (at_place i)) → sum_of (λ v. v) (zip f X Y) ≡ sum_of g t.entries
  sum_as f g X Y p q h =
      ap (sum_of (λ v. v))
      (zip_as f g X Y t.entries 0 0 free_entry (p ∙ sym w.size) (q ∙ sym w.size) (λ i l. h i (omega (arith, w.size))))
      ∙ sum_map (λ v. v) g t.entries

  -- the load of an interval
  pub load_shown : sum_of (λ v. v) c.loads ≡ load (held_of t)
  unfolding load
  load_shown = ap (sum_of (λ v. v)) loads_shown ∙ sum_map (λ v. v) load_of t.entries ∙ load_places t w

  -- what is due at the end that comes first
  pub due_shown : (n : ℕ) → Until n t → due_of (now + n) c.ends c.owed ≡ due_in n t.entries
  due_shown n u = sum_as _ _ c.ends c.owed s.sized.ends s.sized.owed one
    where
      until : (i : ℕ) → i < places → is_held (at_place i) ≡ true → n ≤ event_in (at_place i)
      until i h = all_at _ t.entries free_entry (all_kept _ is_held t.entries u) i (omega (arith, w.size))

      one : (i : ℕ) → i < places → (let e = at_place i in
          cond (eqb (get_or c.ends i 0) (now + n)) (get_or c.owed i 0) 0 ≡ cond (is_piece e) (cond (leb e.left.0 n) e.owed.0 0) 0)
      one i h = rw (s.each i h).owed (elim (place i h) [ inl z ↦ free z | inr k ↦ held k ])
        where
          e : Entry
          e = at_place i

          free : e ≡ free_entry → cond (eqb (get_or c.ends i 0) (now + n)) (owed_to e) 0
              ≡ cond (is_piece e) (cond (leb e.left.0 n) e.owed.0 0) 0
          free z = rw z (cond_zero (eqb (get_or c.ends i 0) (now + n)))

          held : Held t.frame e
              → cond (eqb (get_or c.ends i 0) (now + n)) (owed_to e) 0 ≡ cond (is_piece e) (cond (leb e.left.0 n) e.owed.0 0) 0
          held k = rw (end_held i h (held_is k)) (by (is_piece e) (until i h (held_is k)))
            where
              by : (b : Bool) → n ≤ cond b e.left.0 e.life_left.0
                  → cond (eqb (now + cond b e.left.0 e.life_left.0) (now + n)) (cond b e.owed.0 0) 0
                  ≡ cond b (cond (leb e.left.0 n) e.owed.0 0) 0
              by true l = ap (λ b. cond b e.owed.0 0) (now_or_later now n e.left.0 l)
              by false l = cond_zero (eqb (now + e.life_left.0) (now + n))
