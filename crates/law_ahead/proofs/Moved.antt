-- The held entries over an interval: those that stay are held, no name stands twice among them, a sum over them is the sum over
-- the entries before, each as the interval left it, and the longest life is one shorter. Assumes nothing.
use Rattle.std.specs.Prelude.{◌≡◌, refl, ◌⊎◌, List, [], map, ℕ, suc, ◌-◌, ◌≤◌}
use Rattle.std.proofs.Math.Path.{sym, ap}
use Rattle.std.proofs.Common.{◌∙◌, zero-le, le_of_eq}
use Rattle.std.proofs.Math.Logic.{inl, inr, ⊎_elim}
use Rattle.std.proofs.Math.Bool.{true, false, cond}
use native.Mathlib.Omega.{arith}
use Rattle.spec_lists.specs.Lists.{one_if, sum_of, most_of}
use Rattle.spec_lists.specs.All.{All}
use Rattle.base_lists.specs.Tests.{clash}
use Rattle.base_lists.specs.All.{all_map, all_zip, all_both, all_of, all_keep, all_of_map}
use Rattle.base_lists.specs.Sums.{sum_ext, sum_le, sum_keep, sum_map}
use Rattle.base_lists.specs.Most.{most_keep, most_less, most_map}
use Rattle.spec_model.specs.Entries.{free_entry, is_held, is_named}
use Rattle.spec_model.specs.declared.Entry.{Entry}
use Rattle.spec_model.specs.declared.Frame.{Frame}
use Rattle.spec_model.specs.declared.Name.{Name}
use Rattle.spec_rules.specs.Share.{Grant, slots_for, step_b, step_c}
use Rattle.spec_rules.specs.Ahead.{step_f}
use Rattle.spec_rules.specs.WellFormed.{Held, Once}
use Rattle.law_steps.proofs.Grants.{slots_none}
use Rattle.law_steps.proofs.Held.{held_is}
use Rattle.law_steps.specs.Settled.{Stays}
use Rattle.law_steps.proofs.Settled.{settled_held, after_life}
use Rattle.law_steps.proofs.StepB.{step_b_within}
use Rattle.law_steps.proofs.Extras.{step_c_within, step_c_last}
use Rattle.law_ahead.specs.Moved.{Together, step_of, moved, MayGive, life_of}

-- ---- step B, with the extras of step C, and with none, as looking ahead has it
module _ (F : Frame) (es : List Entry) (w : Once es) where
  pub no_extras : MayGive (step_b F es) [] es
  no_extras =
      all_map (λ e h. record { owed = h; extra = omega (arith, slots_none e.name); last = λ q. inl (slots_none e.name) })
      (step_b_within F es w)

  pub own_extras : MayGive (step_b F es) (step_c F es) es
  own_extras =
      all_zip (λ e h k. record { owed = h; extra = k.0; last = k.1 }) (step_b_within F es w)
      (all_both (step_c_within F es w) (step_c_last F es w))

-- ---- after the interval
module _ (F : Frame) (bs cs : List Grant) (es : List Entry) (w : Together F es) (x : MayGive bs cs es) where
  steps_stay : All (λ e. Stays F e (step_of bs cs e)) es
  steps_stay = all_zip (λ e h g. settled_held F (slots_for e.name bs) (slots_for e.name cs) e h g) w.held x

  -- a sum to which a free place adds nothing
  pub moved_sum : (f : Entry → ℕ) → f free_entry ≡ 0 → sum_of f (moved bs cs es) ≡ sum_of (λ e. f (step_of bs cs e)) es
  unfolding step_f
  moved_sum f z =
      sum_keep f is_held (map (step_of bs cs) es)
      ∙ sum_map (λ y. cond (is_held y) (f y) 0) (step_of bs cs) es
      ∙ sum_ext (λ e. cond (is_held (step_of bs cs e)) (f (step_of bs cs e)) 0) (λ e. f (step_of bs cs e))
      (all_map (λ e s. kept (step_of bs cs e) (⊎_elim inl (λ q. inr (held_is q.1)) s)) steps_stay)
    where
      kept : (y : Entry) → (y ≡ free_entry) ⊎ (is_held y ≡ true) → cond (is_held y) (f y) 0 ≡ f y
      kept y (inl q) = ap (λ v. cond (is_held v) (f v) 0) q ∙ sym (ap f q ∙ z)
      kept y (inr q) = ap (λ b. cond b (f y) 0) q

  pub moved_together : Together F (moved bs cs es)
  unfolding step_f
  moved_together =
      record {
        held = all_keep {P = λ y. (y ≡ free_entry) ⊎ Held F y} is_held real
            (all_of_map (step_of bs cs) (all_map (λ e s. ⊎_elim inl (λ q. inr q.1) s) steps_stay));
        once = λ s. omega (
          arith,
          w.once s,
          sum_keep (λ (e : Entry). one_if (is_named s e)) is_held (map (step_of bs cs) es),
          sum_map (λ (y : Entry). cond (is_held y) (one_if (is_named s y)) 0) (step_of bs cs) es,
          sum_le (λ e. cond (is_held (step_of bs cs e)) (one_if (is_named s (step_of bs cs e))) 0) (λ (e : Entry). one_if (is_named s e))
              (all_map (λ e h. fewer s e (step_of bs cs e) h) steps_stay),
        );
      }
    where
      real : (y : Entry) → is_held y ≡ true → (y ≡ free_entry) ⊎ Held F y → Held F y
      real y q (inl z) = absurd (clash (is_held y) q (ap is_held z))
      real y q (inr h) = h

      fewer : (s : Name) (e y : Entry) → Stays F e y → cond (is_held y) (one_if (is_named s y)) 0 ≤ one_if (is_named s e)
      fewer s e y (inl q) = rw q zero-le
      fewer s e y (inr q) = rw (held_is q.1, q.0) (le_of_eq refl)

  pub moved_life : (n : ℕ) → All (λ e. e.life_left.0 ≤ suc n) es → All (λ e. e.life_left.0 ≤ n) (moved bs cs es)
  unfolding step_f
  moved_life n l =
      all_keep is_held (λ y q k. k)
      (all_of_map (step_of bs cs) (all_map (λ e k. omega (arith, after_life (slots_for e.name bs) (slots_for e.name cs) e)) l))

  -- the longest life is one shorter: only a life that is over leaves
  pub moved_most : most_of life_of (moved bs cs es) ≡ most_of life_of es - 1
  unfolding step_f
  moved_most =
      most_keep life_of is_held (all_of_map (step_of bs cs) (all_map (λ e s. over e (step_of bs cs e) s) steps_stay))
      ∙ most_map life_of (step_of bs cs) es
      ∙ most_less life_of (λ e. life_of (step_of bs cs e)) (all_of es (λ e. after_life (slots_for e.name bs) (slots_for e.name cs) e))
    where
      over : (e y : Entry) → Stays F e y → is_held y ≡ false → life_of y ≡ 0
      over e y (inl q) z = ap life_of q
      over e y (inr q) z = absurd (clash (is_held y) (held_is q.1) z)
