-- Intervals in which nothing ends, served as one: until the nearest end of a life or of a period nobody leaves and nobody's period begins
-- anew, so the intervals up to there are served with the slots of all of them; and looking ahead says after them what it said before.
-- Assumes nothing.
use Rattle.std.specs.Prelude.{◌≡◌, refl, Bool, true, false, cond, ◌&&◌, List, [], ◌∷◌, map, ℕ, zero, suc, ◌*◌, ◌-◌, ◌≤◌, ◌<◌, eqb, ltb, length}
use Rattle.std.proofs.Math.Path.{sym, ap}
use Rattle.std.proofs.Common.{ap₂, subst, ◌∙◌, ⊎_elim, map-id, arith, eq-eqb, ne_eqb}
use Rattle.std.proofs.lemmas.Simd.{map-map}
use Rattle.std.proofs.lemmas.List.{length-map}
use Rattle.spec_lists.specs.Lists.{cons_if, keep, any_of}
use Rattle.spec_lists.specs.All.{All}
use Rattle.base_lists.specs.Tests.{clash}
use Rattle.base_lists.specs.All.{all_map, all_zip, all_of, all_of_map, map_ext, none_any}
use Rattle.base_lists.specs.Sums.{sum_map, sum_ext}
use Rattle.spec_model.specs.Entries.{free_entry, is_held, is_kind, is_piece}
use Rattle.spec_model.specs.declared.Entry.{Entry}
use Rattle.spec_model.specs.declared.Table.{Table}
use Rattle.spec_model.specs.declared.Frame.{Frame}
use Rattle.spec_model.specs.Frames.{room_in}
use Rattle.spec_model.specs.Tables.{held_of, with_entries}
use Rattle.spec_rules.specs.Share.{slots_for, load, overfull, step_b, load_of}
use Rattle.spec_rules.specs.Ahead.{passed, renewed, settled, step_f, misses}
use Rattle.spec_rules.specs.WellFormed.{Held, Tidy}
use Rattle.law_model.specs.Loads.{load_of_standing}
use Rattle.law_steps.proofs.Grants.{slots_none}
use Rattle.law_steps.specs.Held.{Fraction, Piece}
use Rattle.law_steps.proofs.Held.{held_kinds, piece_of_lem, not_fraction, fraction_not}
use Rattle.law_steps.specs.Settled.{after}
use Rattle.law_steps.proofs.Settled.{after_free}
use Rattle.law_steps.specs.StepB.{step_b_of}
use Rattle.law_steps.proofs.Places.{tidy_held}
use Rattle.law_steps.specs.Closed.{takes}
use Rattle.law_steps.proofs.Closed.{takes_owed, takes_most, takes_held, at_places}
use Rattle.law_ahead.specs.KeepsUp.{keeps_up_ahead}
use Rattle.law_ahead.specs.Loop.{looked_past}
use Rattle.law_ahead.proofs.Loop.{past_tidy, ahead_turn}
use Rattle.law_ahead.specs.Served.{later, served, Lasts}
use Rattle.law_ahead.proofs.Served.{standing_same, served_more}
use Rattle.law_ahead.specs.Leap.{event_in, Quiet, E, skipped, ended, on_by}

-- ---- one entry
-- the interval before what ends with it
passed_later : {F : Frame} (e : Entry) (b : ℕ) → b ≤ e.owed.0 → Held F e → passed b 0 e ≡ later 1 b e
unfolding passed
passed_later {F} e b k h = ⊎_elim fraction piece (held_kinds h)
  where
    fraction : Fraction F e → passed b 0 e ≡ later 1 b e
    fraction f =
        standing_same e refl (none _ (omega (arith, f.owed))) (none _ (omega (arith, f.owed, f.given)))
        (none _ (omega (arith, f.left)))
      where
        none : (x : ℕ) {y : ℕ} → y ≡ 0 → cond (is_kind 1 e) 0 x ≡ y
        none x z = rw (eq-eqb e.kind 1 f.kind) (sym z)

    piece : Piece F e → passed b 0 e ≡ later 1 b e
    piece p = standing_same e refl (same refl) (same (omega arith)) (same refl)
      where
        same : {x y : ℕ} → x ≡ y → cond (is_kind 1 e) 0 x ≡ y
        same {x} z = ap (λ v. cond v 0 x) (not_fraction e p.kind) ∙ z

-- where neither a life nor a period is over nothing ends
settled_on : (e : Entry) → 1 ≤ e.life_left.0 → (is_piece e ≡ true → 1 ≤ e.left.0) → settled e ≡ e
unfolding settled
settled_on e l k = rw (ne_eqb e.life_left.0 0 (λ z. omega arith)) (go (is_kind 2 e) refl)
  where
    go : (b : Bool) → is_kind 2 e ≡ b → cond (b && eqb e.left.0 0) (renewed e) e ≡ e
    go true h = rw (ne_eqb e.left.0 0 (λ z. omega (arith, k (rw h)))) refl
    go false h = refl

pub later_on : {F : Frame} (n b : ℕ) (e : Entry) → Held F e → n < event_in e → settled (later n b e) ≡ later n b e
later_on {F} n b e h q = ⊎_elim fraction piece (held_kinds h)
  where
    fraction : Fraction F e → settled (later n b e) ≡ later n b e
    fraction f =
        let other = fraction_not e f.kind in
        settled_on (later n b e) (omega (arith, ap (λ x. cond x e.left.0 e.life_left.0) other))
        (λ z. absurd (clash (is_piece e) z other))

    piece : Piece F e → settled (later n b e) ≡ later n b e
    piece p =
        let soon = ap (λ x. cond x e.left.0 e.life_left.0) (piece_of_lem e p.kind) in
        settled_on (later n b e) (omega (arith, soon, p.lives)) (λ z. omega (arith, soon))

pub later_free : (n c : ℕ) (ps : List Entry) → later n (takes c ps free_entry) free_entry ≡ free_entry
later_free n c ps =
    let z = takes_owed c ps free_entry in
    standing_same free_entry (omega arith) (omega arith) (omega arith) (omega arith)

-- the places stay held or free
keep_map : {A : Type 0} (p : A → Bool) (f : A → A) (xs : List A) → ((x : A) → p (f x) ≡ p x) → keep p (map f xs) ≡ map f (keep p xs)
keep_map p f [] h = refl
keep_map p f (x ∷ xs) h = ap₂ (λ b l. cons_if b (f x) l) (h x) (keep_map p f xs h) ∙ go (p x)
  where
    go : (b : Bool) → cons_if b (f x) (map f (keep p xs)) ≡ map f (cons_if b x (keep p xs))
    go true = refl
    go false = refl

module _ (n : ℕ) (t : Table) where
  pub skipped_held : held_of (skipped n t) ≡ map (on_by n t) (held_of t)
  skipped_held = keep_map is_held (on_by n t) t.entries (λ e. refl)

  pub skipped_length : length (held_of (skipped n t)) ≡ length (held_of t)
  skipped_length = ap length skipped_held ∙ length-map (held_of t) (on_by n t)

  pub skipped_load : load (held_of (skipped n t)) ≡ load (held_of t)
  unfolding load
  skipped_load = ap load skipped_held ∙ sum_map load_of (on_by n t) (held_of t)
      ∙ sum_ext (λ e. load_of ((on_by n t) e)) load_of (all_of (held_of t) (λ e. load_of_standing e _ _ _ _))

  pub skipped_capacity : E (skipped n t) ≡ E t
  skipped_capacity = ap (λ v. room_in t.frame - v) skipped_load

skipped_none : (t : Table) → skipped 0 t ≡ t
skipped_none t = ap (with_entries t)
    (map_ext (on_by 0 t) (λ e. e) (all_of t.entries one) ∙ map-id t.entries)
  where
    one : (e : Entry) → on_by 0 t e ≡ e
    one e =
        let z : takes (0 * E t) t.entries e ≡ 0 = omega (arith, takes_most (0 * E t) t.entries e) in
        standing_same e (omega arith) (omega arith) (omega arith) (omega arith)

-- ---- one interval, and then the others
module _ (t : Table) (w : Tidy t) where
  pub past_ended : looked_past t ≡ ended 1 t
  unfolding step_f settled
  past_ended = ap (with_entries t)
      (map_ext (λ e. after (step_b_of F es e) (slots_for e.name []) e) (λ e. settled (on_by 1 t e))
      (at_places t w (λ e. after (step_b_of F es e) (slots_for e.name []) e ≡ settled (on_by 1 t e))
      (after_free _ _ ∙ sym (ap settled (later_free 1 (1 * E t) t.entries)))
      (all_zip one (tidy_held w) (takes_held t w)))
      ∙ sym (map-map settled (on_by 1 t) t.entries))
    where
      F : Frame
      F = t.frame

      es : List Entry
      es = held_of t

      one : (e : Entry) → Held F e → step_b_of F es e ≡ takes (E t) t.entries e
          → after (step_b_of F es e) (slots_for e.name []) e ≡ settled (on_by 1 t e)
      one e h k =
          ap₂ (λ b c. after b c e) (k ∙ ap (λ c. takes c t.entries e) (omega arith)) (slots_none e.name)
          ∙ ap settled (passed_later e (takes (1 * E t) t.entries e) (takes_owed (1 * E t) t.entries e) h)

module _ (t : Table) (w : Tidy t) (q : Quiet 1 t) where
  past_skipped : looked_past t ≡ skipped 1 t
  unfolding settled
  past_skipped = past_ended t w ∙ ap (with_entries t)
      (map-map settled (on_by 1 t) t.entries
      ∙ map_ext (λ e. settled (on_by 1 t e)) (on_by 1 t)
      (at_places t w (λ e. settled (on_by 1 t e) ≡ on_by 1 t e)
      (ap settled (later_free 1 (1 * E t) t.entries) ∙ sym (later_free 1 (1 * E t) t.entries))
      (all_zip (λ e h k. later_on 1 (takes (1 * E t) t.entries e) e h k) (tidy_held w) q)))

  lasts : All (Lasts 1) t.entries
  lasts = at_places t w (Lasts 1) (λ z. absurd (clash false z refl)) (all_map one q)
    where
      one : (e : Entry) → 1 < event_in e → Lasts 1 e
      one e h p = omega (arith, ap (λ b. cond b e.left.0 e.life_left.0) p)

  skipped_more : (n : ℕ) → skipped (suc n) t ≡ skipped n (looked_past t)
  skipped_more n = sym (ap (skipped n) past_skipped ∙ ap (with_entries t) more)
    where
      more : served n (n * E (skipped 1 t)) (skipped 1 t).entries ≡ served (suc n) (suc n * E t) t.entries
      more =
          ap (λ c. served n (n * c) (skipped 1 t).entries) (skipped_capacity 1 t)
          ∙ served_more t w 1 (1 * E t) lasts n (n * E t)
          ∙ ap₂ (λ a b. served a b t.entries) (omega arith) (omega arith)

  no_miss : any_of (misses (step_b t.frame (held_of t))) (held_of t) ≡ false
  no_miss = none_any (misses (step_b t.frame (held_of t))) (all_map (λ e h. go e (is_piece e) _ h) q)
    where
      go : (e : Entry) (p r : Bool) → 1 < cond p e.left.0 e.life_left.0 → (p && (eqb e.left.0 1 && r)) ≡ false
      go e true r h = ap (λ b. b && r) (ne_eqb e.left.0 1 (λ z. omega arith))
      go e false r h = refl

past_quiet : (n : ℕ) (t : Table) → Tidy t → Quiet (suc n) t → Quiet 1 t → Quiet n (looked_past t)
past_quiet n t w q r =
    subst (λ es. All (λ e. n < event_in e) es) (sym (ap held_of (past_skipped t w r) ∙ skipped_held 1 t))
    (all_of_map (on_by 1 t) (all_map (λ e h. go (is_piece e) e.left.0 e.life_left.0 h) q))
  where
    go : (p : Bool) (x y : ℕ) → suc n < cond p x y → n < cond p (x - 1) (y - 1)
    go true x y h = omega arith
    go false x y h = omega arith

-- what each of the intervals keeps, the leap keeps
leap_keeps : (P : Table → Type 0) → ((t : Table) → Tidy t → Quiet 1 t → P t → P (looked_past t))
    → (n : ℕ) (t : Table) → Tidy t → Quiet n t → P t → P (skipped n t)
leap_keeps P f zero t w q p = subst P (sym (skipped_none t)) p
leap_keeps P f (suc n) t w q p =
    let one : Quiet 1 t = all_map (λ e h. omega arith) q in
    subst P (sym (skipped_more t w one n)) (leap_keeps P f n (looked_past t) (past_tidy t w) (past_quiet n t w q one) (f t w one p))

-- ---- a leap
module _ (n : ℕ) (t : Table) (w : Tidy t) (q : Quiet n t) where
  pub leap_tidy : Tidy (skipped n t)
  leap_tidy = leap_keeps Tidy (λ u v r p. past_tidy u v) n t w q w

  pub leap_ahead : 1 ≤ length (held_of t) → overfull t.frame (held_of t) ≡ false
      → keeps_up_ahead t.frame (held_of (skipped n t)) ≡ keeps_up_ahead t.frame (held_of t)
  leap_ahead l o = (leap_keeps P step n t w q (l, o, refl)).2
    where
      P : Table → Type 0
      P u = (1 ≤ length (held_of u)) × (overfull u.frame (held_of u) ≡ false)
          × (keeps_up_ahead u.frame (held_of u) ≡ keeps_up_ahead t.frame (held_of t))

      step : (u : Table) → Tidy u → Quiet 1 u → P u → P (looked_past u)
      step u v r p = (
        omega (arith, p.0, skipped_length 1 u, ap (λ x. length (held_of x)) (past_skipped u v r)),
        ap (λ x. ltb (room_in u.frame) (load (held_of x))) (past_skipped u v r)
            ∙ ap (ltb (room_in u.frame)) (skipped_load 1 u) ∙ p.1,
        ahead_turn u v p.0 p.1 (no_miss u v r) ∙ p.2,
      )
