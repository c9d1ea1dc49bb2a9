-- Where the entries fit, the plans to come are an assignment that serves them: every interval gives each stream its minimum, or what
-- step B takes, and misses no deadline; and after it the entries fit again. So looking ahead is exact. Assumes nothing.
use Rattle.std.specs.Prelude.{◌≡◌, refl, ◌⊎◌, true, cond, List, [], ◌∷◌, ℕ, zero, suc, ◌+◌, ◌*◌, ◌≤◌, ◌<◌, get_or}
use Rattle.std.proofs.Common.{sym, ap, subst, ◌∙◌, inl, inr, zero-mul, one-mul, arith, eq-eqb}
use Rattle.std.proofs.Math.Path.{fun_ext}
use Rattle.std.proofs.Math.Option.{none, some}
use Rattle.spec_lists.specs.Lists.{one_if, most_of, span}
use Rattle.spec_lists.specs.All.{All, stop}
use Rattle.base_lists.specs.All.{head, all_map, all_zip, all_both, all_unmap, all_kept}
use Rattle.base_edf.specs.Time.{span_ext}
use Rattle.base_edf.specs.Edf.{rem, left, next}
use Rattle.base_edf.specs.Necessity.{Fed}
use Rattle.base_edf.proofs.Necessity.{fed_gone, fed_step}
use Rattle.spec_model.specs.Frames.{slots_in, header_in, room_in, part_of}
use Rattle.spec_model.specs.Entries.{is_held, asks}
use Rattle.spec_model.specs.declared.Frame.{Frame}
use Rattle.spec_model.specs.declared.Name.{Name}
use Rattle.spec_model.specs.declared.Entry.{Entry}
use Rattle.spec_rules.specs.Share.{slots_for, job_count, step_b, step_c}
use Rattle.spec_rules.specs.Slots.{Slot, job_length, job_need, jobs, slots_from, step_d}
use Rattle.spec_rules.specs.Ahead.{step_f, fits_ahead}
use Rattle.spec_rules.specs.WellFormed.{Held}
use Rattle.law_steps.specs.Held.{Fraction, Piece}
use Rattle.law_steps.proofs.Held.{held_kinds, held_is, piece_of_lem, piece_other, not_fraction}
use Rattle.law_steps.specs.Settled.{Granted, FractionFate, ended, ages, Stays}
use Rattle.law_steps.proofs.Settled.{fraction_fate, settled_held}
use Rattle.law_steps.specs.Sources.{source_of}
use Rattle.law_steps.proofs.Sources.{free_source, fraction_source, source_next, held_sound}
use Rattle.law_steps.specs.StepB.{step_b_of}
use Rattle.law_steps.specs.Extras.{step_c_of}
use Rattle.law_ahead.specs.Moved.{Together, step_of, moved}
use Rattle.law_ahead.proofs.Moved.{own_extras, moved_together, moved_life}
use Rattle.law_ahead.specs.Timely.{piece_of}
use Rattle.law_ahead.proofs.Timely.{timely_meets}
use Rattle.law_ahead.proofs.KeepsUp.{lives_most}
use Rattle.law_ahead.specs.Fits.{Fits}
use Rattle.law_ahead.proofs.Fits.{fits_on, ahead_fits, fits_ahead_lem}
use Rattle.law_slots.specs.Choice.{wins}
use Rattle.law_slots.proofs.Idle.{idle_free}
use Rattle.law_interval.specs.Gets.{of_name, name_at}
use Rattle.law_interval.proofs.Gets.{entry_gets}
use Rattle.spec_demand.specs.Assignment.{Assignment, is_to, assigned, LeavesHeader}
use Rattle.law_exact.specs.Entries.{ServesEntry}
use Rattle.law_exact.specs.Needed.{slots_to, Fair}
use Rattle.law_exact.proofs.Needed.{entry_fair, fair_entry, fair_fits}
use Rattle.law_exact.specs.Plans.{entries_after, holder_of, plans_ahead}

-- what the plan of the interval at hand assigns is what its slots give
plan_assigns : (F : Frame) (es : List Entry) (s : Name) (x y : ℕ) → assigned (plans_ahead F es) s 0 x y ≡ span (name_at F es s) x y
unfolding assigned plans_ahead entries_after
plan_assigns F es s x y = span_ext _ _ x y (λ z. one (get_or (step_d F es) z none))
  where
    one : (c : Slot) → one_if (is_to s (holder_of c)) ≡ wins (of_name s) c
    one none = refl
    one (some k) = refl

-- the plans after that are those of the entries after it
plans_later : (F : Frame) (es : List Entry) (s : Name) (k x y : ℕ)
    → assigned (plans_ahead F es) s (suc k) x y ≡ assigned (plans_ahead F (moved (step_b F es) (step_c F es) es)) s k x y
unfolding assigned plans_ahead entries_after
plans_later F es s k x y = refl

module _ (F : Frame) (es : List Entry) (b : header_in F < slots_in F) (w : Together F es) (f : Fits F es) where
  abbrev on : List Entry
  on = moved (step_b F es) (step_c F es) es

  abbrev fate : Entry → Entry
  fate = step_of (step_b F es) (step_c F es)

  -- what the interval at hand gives an entry
  gets_now : All (λ e. (i : ℕ) → i < job_count e
      → assigned (plans_ahead F es) e.name 0 (i * job_length F e) (suc i * job_length F e) ≡ job_need (step_b F es) (step_c F es) e) es
  gets_now =
      all_map (λ e g i q. plan_assigns F es e.name (i * job_length F e) (suc i * job_length F e) ∙ g i q)
      (entry_gets F es b w f)

  -- One entry, where the plans after the interval serve what becomes of it.
  fair_now : (e : Entry) → Held F e → Granted (step_b_of F es e) (step_c_of F es e) e
      → ((i : ℕ) → i < job_count e
      → assigned (plans_ahead F es) e.name 0 (i * job_length F e) (suc i * job_length F e) ≡ job_need (step_b F es) (step_c F es) e)
      → (left (source_of e) ≤ 1 → rem (source_of e) ≤ piece_of F es e)
      → (is_held (fate e) ≡ true → Fair F (plans_ahead F on) (fate e)) → Fair F (plans_ahead F es) e
  fair_now e h x g m r = elim (held_kinds h) [ inl k ↦ fraction k | inr p ↦ piece p ]
    where
      plans : Assignment
      plans = plans_ahead F es

      -- A fraction stream has its minimum in each period of the interval at hand, and then it only ages.
      fraction : Fraction F e → Fair F plans e
      fraction k = record { fractions = λ z. each; piece = λ n. absurd (n k.kind) }
        where
          T : ℕ
          T = part_of F e.parts

          now : (i : ℕ) → i < e.parts → assigned plans e.name 0 (i * T) (suc i * T) ≡ asks e + slots_for e.name (step_c F es)
          now = rw (eq-eqb e.kind 1 k.kind) at g

          each : (n j : ℕ) → n < e.life_left.0 → j < e.parts → asks e ≤ assigned plans e.name n (j * T) (suc j * T)
          each zero j i q = omega (arith, now j q)
          each (suc n) j i q = go (fraction_fate (step_b_of F es e) (step_c_of F es e) k)
            where
              go : FractionFate (step_b_of F es e) (step_c_of F es e) e → asks e ≤ assigned plans e.name (suc n) (j * T) (suc j * T)
              go (ended l q) = absurd (omega arith)
              go (ages l z) =
                  let later = rw z at r in
                  rw (plans_later F es e.name n (j * T) (suc j * T)) ((later (held_is h)).fractions k.kind n j (omega arith) q)

      -- A piece has at least what step B gives it, and is owed the rest after the interval.
      piece : Piece F e → Fair F plans e
      piece p =
          record {
            fractions = λ z. absurd (piece_other p z);
            piece = λ n. fed_step (source_of e) (slots_to F plans e) (step_b_of F es e) (held_sound h) enough
                (λ q. omega (arith, m q, ap (λ v. cond v (step_b_of F es e) 0) (piece_of_lem e p.kind))) (rw step at rest);
          }
        where
          enough : step_b_of F es e ≤ slots_to F plans e 0
          enough =
              let q = rw (not_fraction e p.kind) at g in
              let z : 0 * slots_in F ≡ 0 = zero-mul (slots_in F) in
              let o : 1 * slots_in F ≡ slots_in F = one-mul (slots_in F) in
              let y = rw (z, o) at (q 0 (omega arith)) in
              omega arith

          step : source_of (fate e) ≡ next (source_of e) (step_b_of F es e)
          step =
              source_next F (step_b_of F es e) (step_c_of F es e) e h
              ∙ ap (λ v. next (source_of e) (cond v (step_b_of F es e) 0)) (piece_of_lem e p.kind)

          rest : Fed (source_of (fate e)) (λ t. slots_to F plans e (suc t))
          rest = go (settled_held F (step_b_of F es e) (step_c_of F es e) e h x)
            where
              go : Stays F e (fate e) → Fed (source_of (fate e)) (λ t. slots_to F plans e (suc t))
              go (inl z) = rw (z, free_source) (fed_gone _)
              go (inr z) = there (held_kinds z.1)
                where
                  there : Fraction F (fate e) ⊎ Piece F (fate e) → Fed (source_of (fate e)) (λ t. slots_to F plans e (suc t))
                  there (inl k) = rw (fraction_source (fate e) k.kind) (fed_gone _)
                  there (inr k) =
                      subst (λ s. Fed (source_of (fate e)) (λ t. assigned plans s (suc t) 0 (slots_in F))) z.0
                      (subst (Fed (source_of (fate e))) (fun_ext (λ t. sym (plans_later F es (fate e).name t 0 (slots_in F))))
                      ((r (held_is z.1)).piece (piece_other k)))

-- The intervals of n lives: the interval at hand, and the plans after it for what becomes of the entries.
fair_plans : (n : ℕ) (F : Frame) (es : List Entry) → header_in F < slots_in F → Together F es → Fits F es → All (λ e. e.life_left.0 ≤ n) es
    → All (Fair F (plans_ahead F es)) es
unfolding step_f
fair_plans zero F [] b w f l = stop
fair_plans zero F (e ∷ es) b w f l = absurd (omega (arith, (head w.held).alive, head l))
fair_plans (suc n) F es b w f l =
    let bs = step_b F es in
    let cs = step_c F es in
    let x = own_extras F es w.once in
    let on = moved bs cs es in
    let later = fair_plans n F on b (moved_together F bs cs es w x) (fits_on F cs es w x f) (moved_life F bs cs es w x n l) in
    all_zip (λ e p q. fair_now F es b w f e p.0 p.1 q.0 q.1 q.2) (all_both w.held x)
    (all_three (gets_now F es b w f) (timely_meets F cs es w x f.timely)
    (all_unmap (λ y. is_held y ≡ true → Fair F (plans_ahead F on) y) (step_of bs cs) es
    (all_kept (Fair F (plans_ahead F on)) is_held (step_f bs cs es) later)))
  where
    all_three : {P Q R : Entry → Type 0} {xs : List Entry} → All P xs → All Q xs → All R xs → All (λ y. P y × Q y × R y) xs
    all_three h k r = all_zip (λ y p q. (p, q.0, q.1)) h (all_both k r)

-- nobody has a slot of a header
pub plans_leave : (F : Frame) (es : List Entry) → LeavesHeader F (plans_ahead F es)
unfolding plans_ahead step_d
plans_leave F es k x l =
    let fs = entries_after F k es in
    ap holder_of (idle_free (header_in F) x (slots_from (room_in F) (header_in F) (jobs F fs)) l)

-- ---- looking ahead is exact
-- it says yes: the plans to come serve every entry
pub ahead_serves : (F : Frame) (es : List Entry) → header_in F < slots_in F → Together F es → fits_ahead F es ≡ true
    → All (ServesEntry F (plans_ahead F es)) es
ahead_serves F es b w h =
    all_zip (λ e d s. fair_entry d s) w.held
    (fair_plans (most_of (λ (e : Entry). e.life_left.0) es) F es b w (ahead_fits F es w h) (lives_most es))

-- some assignment that leaves the headers free serves every entry: it says yes
pub serves_ahead : (F : Frame) → header_in F < slots_in F → (a : Assignment) (es : List Entry) → Together F es → LeavesHeader F a
    → All (ServesEntry F a) es → fits_ahead F es ≡ true
serves_ahead F b a es w free h = fits_ahead_lem F es w (fair_fits F b a free es w (all_zip (λ e d s. entry_fair d s) w.held h))
