-- What steps B and C give each held entry, in a form that needs no order of the entries and reads a table's places one by one; and how
-- large the numbers of a table can get on the way. Assumes nothing.
use Rattle.std.specs.Prelude.{◌≡◌, ◌⊎◌, Bool, true, cond, List, [], ◌∷◌}
use Rattle.std.proofs.Common.{sym, ap, subst, ◌∙◌, inl, inr, le_trans, mul_comm, mul-le-mul_left, arith}
use Rattle.std.proofs.Math.Logic.{⊎_elim}
use Rattle.std.proofs.Math.Bool.{false}
use Prim.Native.Nat.{ℕ, ◌+◌, ◌*◌, ◌-◌, ◌≤◌, min, max, zero-le}
use Rattle.spec_lists.specs.Lists.{sum_of}
use Rattle.spec_lists.specs.All.{All}
use Rattle.base_lists.specs.Tests.{clash, cond_zero}
use Rattle.base_lists.specs.All.{head, tail, all_map, all_zip, all_both, all_kept}
use Rattle.base_lists.specs.Sums.{sum_ext}
use Rattle.base_lists.specs.Picked.{Picked, each_picked, picked_all, picked_alone}
use Rattle.spec_model.specs.Entries.{free_entry, is_held, is_named, is_piece}
use Rattle.spec_model.specs.declared.Entry.{Entry}
use Rattle.spec_model.specs.declared.Table.{Table}
use Rattle.spec_model.specs.Names.{same}
use Rattle.spec_model.specs.declared.Frame.{Frame}
use Rattle.spec_model.specs.Frames.{slots_in, part_of}
use Rattle.spec_model.specs.declared.Name.{Name}
use Rattle.spec_rules.specs.Share.{slots_for, capacity, take_turns, step_b, remains, headroom, job_count, share_of, weight, extra, load_of, share_among, takes_part, step_c}
use Rattle.spec_rules.specs.WellFormed.{Held, Once, Tidy}
use Rattle.law_model.specs.Names.{same_refl}
use Rattle.law_model.specs.Frames.{most_slots, frame_most}
use Rattle.law_model.specs.Loads.{load_of_none, load_of_free, load_of_most}
use Rattle.law_steps.specs.Held.{Fraction, Piece}
use Rattle.law_steps.proofs.Held.{held_kinds, held_is, piece_of_lem, fraction_not}
use Rattle.law_steps.proofs.Grants.{slots_none, slots_there}
use Rattle.law_steps.specs.StepB.{step_b_of, owed_before}
use Rattle.law_steps.proofs.StepB.{all_order}
use Rattle.law_steps.specs.Extras.{step_c_of}
use Rattle.law_steps.proofs.Extras.{weight_sum, among_of}
use Rattle.law_steps.proofs.Settled.{headroom_fraction, headroom_whole, headroom_transfer}
use Rattle.law_steps.proofs.Places.{tidy_held, held_sum, piece_places}
use Rattle.law_steps.specs.Closed.{takes, F, es, share_in}

pub takes_owed : (c : ℕ) (ps : List Entry) (e : Entry) → takes c ps e ≤ e.owed.0
unfolding takes
takes_owed c ps e = omega arith

pub takes_most : (c : ℕ) (ps : List Entry) (e : Entry) → takes c ps e ≤ c
unfolding takes
takes_most c ps e = omega arith

-- ---- who has no turn in step B gets nothing of it
turns_none : (n : Name) (r : ℕ) (es : List Entry) → All (λ e. same e.name n ≡ false) es → slots_for n (take_turns r es) ≡ 0
unfolding take_turns
turns_none n r [] h = slots_none n
turns_none n r (e ∷ es) h =
    let t : ℕ = min e.owed.0 r in
    slots_there e.name t n (take_turns (r - t) es) (head h) ∙ turns_none n (r - t) es (tail h)

-- no other entry has its name, and it is no piece itself
step_b_none : (F : Frame) (es : List Entry) → Once es → All (λ e. is_piece e ≡ false → step_b_of F es e ≡ 0) es
unfolding step_b
step_b_none F es w = all_map (λ e k q. turns_none e.name (capacity F es) _ (all_order (others e q k))) (each_picked es)
  where
    others : (e : Entry) → is_piece e ≡ false → (fs : List Entry) × Picked e es fs
        → All (λ f. is_piece f ≡ true → same f.name e.name ≡ false) es
    others e q k =
        picked_all k.1 (λ p. absurd (clash (is_piece e) p q))
        (all_map (λ f n p. n) (picked_alone (is_named e.name) k.1 (w e.name) (same_refl e.name)))

module _ (t : Table) (w : Tidy t) where
  -- what holds of a free place and of each held entry holds at each place
  pub at_places : (P : Entry → Type 0) → P free_entry → All P (es t w) → All P t.entries
  at_places P z h = all_zip one w.entries (all_kept P is_held t.entries h)
    where
      one : (e : Entry) → (e ≡ free_entry) ⊎ Held (F t w) e → (is_held e ≡ true → P e) → P e
      one e (inl q) k = subst P (sym q) z
      one e (inr q) k = k (held_is q)

  -- ---- the closed forms
  pub takes_held : All (λ e. step_b_of (F t w) (es t w) e ≡ takes (capacity (F t w) (es t w)) t.entries e) (es t w)
  unfolding takes
  takes_held =
      all_zip (λ e h k. ⊎_elim (λ f. fraction e f h.0) (λ p. h.1 (piece_of_lem e p.kind)) (held_kinds k))
      (all_both (step_b_none (F t w) (es t w) w.once) (piece_places t w)) (tidy_held w)
    where
      fraction : (e : Entry) → Fraction (F t w) e → (is_piece e ≡ false → step_b_of (F t w) (es t w) e ≡ 0)
          → step_b_of (F t w) (es t w) e ≡ min e.owed.0 (capacity (F t w) (es t w) - owed_before e t.entries)
      fraction e f h = omega (arith, h (fraction_not e f.kind))

  -- W, place by place
  pub weight_places : (takes_part : Entry → Bool)
      → weight takes_part (step_b (F t w) (es t w)) (es t w) ≡ sum_of (λ e. job_count e * (share_in t w) takes_part e) t.entries
  weight_places takes_part =
      weight_sum takes_part (step_b (F t w) (es t w)) (es t w)
      ∙ sum_ext (λ e. job_count e * share_of takes_part (step_b (F t w) (es t w)) e) (λ e. job_count e * (share_in t w) takes_part e)
      (all_map (λ e h. ap (λ b. job_count e * cond (takes_part e) (headroom e b) 0) h) takes_held)
      ∙ sym (held_sum (λ e. job_count e * (share_in t w) takes_part e) (ap (λ v. 1 * v) (cond_zero (takes_part free_entry))) w.entries)

  pub among_held : (takes_part : Entry → Bool) → All (λ e. slots_for e.name (share_among takes_part (remains (F t w) (es t w)) (step_b (F t w) (es t w)) (es t w))
      ≡ extra (remains (F t w) (es t w)) (weight takes_part (step_b (F t w) (es t w)) (es t w)) ((share_in t w) takes_part e)) (es t w)
  among_held takes_part =
      all_zip (λ e h k. h ∙ ap (λ b. extra (remains (F t w) (es t w)) (weight takes_part (step_b (F t w) (es t w)) (es t w)) (cond (takes_part e) (headroom e b) 0)) k)
      (among_of takes_part (F t w) (es t w) w.once) takes_held

  pub extra_held : All (λ e. step_c_of (F t w) (es t w) e
      ≡ extra (remains (F t w) (es t w)) (weight (takes_part (F t w) (es t w)) (step_b (F t w) (es t w)) (es t w)) ((share_in t w) (takes_part (F t w) (es t w)) e)) (es t w)
  unfolding step_c
  extra_held = among_held (takes_part (F t w) (es t w))

  -- ---- how large numbers get
  pub slots_most : slots_in (F t w) ≤ most_slots
  slots_most = frame_most w.setting

  -- m times what each of its jobs may have is at most the interval
  parts_most : (e : Entry) → Fraction (F t w) e → (x : ℕ) → x ≤ e.max.0 → e.parts * x ≤ most_slots
  parts_most e f x h =
      let k : x ≤ part_of (F t w) e.parts = omega (arith, f.most) in
      omega (arith, slots_most, f.whole, mul_comm e.parts (part_of (F t w) e.parts), mul-le-mul_left e.parts k)

  -- a fact of each place, by kind
  pub by_kind : (P : Entry → Type 0) → P free_entry → ((e : Entry) → Fraction (F t w) e → P e) → ((e : Entry) → Piece (F t w) e → e.kind ≡ 2 → P e)
      → ((e : Entry) → Piece (F t w) e → e.kind ≡ 3 → P e) → All P t.entries
  by_kind P z f u v =
      at_places P z (all_map (λ e h. ⊎_elim (f e) (λ p. ⊎_elim (u e p) (v e p) p.kind) (held_kinds h)) (tidy_held w))

  pub load_most : All (λ e. load_of e ≤ most_slots) t.entries
  load_most =
      by_kind (λ e. load_of e ≤ most_slots) (rw load_of_free zero-le)
      (λ e f. le_trans (load_of_most e) (parts_most e f e.min.0 f.least))
      (λ e p k. rw (load_of_none e (rw k)) zero-le)
      (λ e p k. rw (load_of_none e (rw k)) zero-le)

  -- what an entry has been given in its period, with what it takes and an extra within its headroom, stays within its amounts
  pub had_most : (c : ℕ) (x : Entry → ℕ) → ((e : Entry) → x e ≤ headroom e (takes c t.entries e))
      → All (λ e. e.given.0 + takes c t.entries e + x e ≤ max e.min.0 e.max.0) t.entries
  had_most c x h = by_kind P none fraction whole transfer
    where
      P : Entry → Type 0
      P e = e.given.0 + takes c t.entries e + x e ≤ max e.min.0 e.max.0

      owed : (e : Entry) → takes c t.entries e ≤ e.owed.0
      owed e = takes_owed c t.entries e

      none : P free_entry
      none = omega (arith, owed free_entry, h free_entry)

      fraction : (e : Entry) → Fraction (F t w) e → P e
      fraction e f = omega (arith, owed e, h e, headroom_fraction e (takes c t.entries e) f.kind)

      whole : (e : Entry) → Piece (F t w) e → e.kind ≡ 2 → P e
      whole e p k = omega (arith, owed e, h e, headroom_whole e (takes c t.entries e) k, p.owed, p.least k, p.given_whole k)

      transfer : (e : Entry) → Piece (F t w) e → e.kind ≡ 3 → P e
      transfer e p k = omega (arith, owed e, h e, headroom_transfer e (takes c t.entries e) k, p.owed, p.given_transfer k)
