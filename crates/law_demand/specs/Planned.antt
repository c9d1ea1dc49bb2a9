-- What the plan of a well-formed table gives: the records give a request, slot by slot, what step D gives it, and no slot twice; so every
-- held entry gets of the plan what steps B and C hand out. Assumes nothing.
use Rattle.std.specs.Prelude.{◌≡◌, true, cond, ◌&&◌, List, ℕ, suc, ◌+◌, ◌*◌, ◌≤◌, ◌<◌}
use Rattle.std.proofs.Common.{sym, ◌∙◌, zero-mul, one-mul, eq-eqb}
use Rattle.std.proofs.Math.Path.{ap}
use native.Mathlib.Omega.{arith}
use Rattle.spec_lists.specs.Lists.{one_if, span}
use Rattle.base_lists.specs.Tests.{and_true}
use Rattle.spec_lists.specs.All.{All}
use Rattle.base_lists.specs.All.{all_map, all_zip, all_both}
use Rattle.base_lists.specs.Sums.{sum_same}
use Rattle.base_edf.specs.Time.{span_ext}
use Rattle.base_edf.specs.Edf.{rem, left}
use Rattle.spec_model.specs.Frames.{slots_in, header_in, room_in}
use Rattle.spec_model.specs.Tables.{held_of}
use Rattle.spec_model.specs.declared.Frame.{Frame}
use Rattle.spec_model.specs.declared.Name.{Name}
use Rattle.spec_model.specs.declared.Entry.{Entry}
use Rattle.spec_model.specs.declared.Table.{Table}
use Rattle.spec_rules.specs.Share.{job_count, step_b, step_c}
use Rattle.spec_rules.specs.Slots.{Run, job_length, job_need, jobs, slots_from, step_d, step_e, gives}
use Rattle.spec_rules.specs.Calls.{plan_of}
use Rattle.spec_rules.specs.WellFormed.{Held, WellFormed}
use Rattle.law_steps.specs.Held.{Piece}
use Rattle.law_steps.proofs.Held.{piece_of_lem, not_fraction, other_piece}
use Rattle.law_steps.specs.Settled.{Granted}
use Rattle.law_steps.specs.Sources.{source_of}
use Rattle.law_steps.proofs.Sources.{source_rem, source_left}
use Rattle.law_steps.specs.StepB.{step_b_of}
use Rattle.law_steps.specs.Extras.{step_c_of}
use Rattle.law_ahead.proofs.Moved.{own_extras}
use Rattle.law_ahead.specs.Timely.{piece_of}
use Rattle.law_ahead.proofs.Timely.{timely_meets}
use Rattle.law_ahead.proofs.Tables.{formed_together, formed_fits, formed_header}
use Rattle.law_slots.specs.Choice.{wins}
use Rattle.law_slots.proofs.Idle.{idle_free}
use Rattle.law_slots.proofs.Runs.{runs_cover, runs_once}
use Rattle.law_interval.specs.Gets.{of_name, name_at}
use Rattle.law_interval.proofs.Gets.{entry_gets}
use Rattle.spec_demand.specs.Demand.{times_given, given_to, slots_of}
use Rattle.law_demand.specs.Grown.{Gets}

-- ---- the records of a plan
module _ (F : Frame) (es : List Entry) where
  plan_slots : (s : Name) (a b : ℕ) → slots_of s a b (step_e F es) ≡ span (name_at F es s) a b
  unfolding slots_of given_to step_e
  plan_slots s a b = span_ext _ _ a b (λ x. runs_cover (of_name s) x (step_d F es))

  pub plan_once : (x : ℕ) → times_given x (step_e F es) ≤ 1
  unfolding times_given step_e
  plan_once x =
      omega (
        arith,
        runs_once (λ k. true) x (step_d F es),
        sum_same (λ (r : Run). one_if (gives r x)) (λ (r : Run). one_if (gives r x && true)) (step_e F es)
            (λ r. ap one_if (sym (and_true (gives r x)))),
      )

  -- no slot of the header
  pub plan_header : (x : ℕ) → x < header_in F → times_given x (step_e F es) ≡ 0
  unfolding times_given step_e step_d
  plan_header x l =
      sum_same (λ (r : Run). one_if (gives r x)) (λ (r : Run). one_if (gives r x && true)) (step_e F es)
      (λ r. ap one_if (sym (and_true (gives r x))))
      ∙ runs_cover (λ k. true) x (step_d F es)
      ∙ ap (wins (λ k. true)) (idle_free (header_in F) x (slots_from (room_in F) (header_in F) (jobs F es)) l)

-- ---- what each held entry gets
module _ (t : Table) (w : WellFormed t) where
  abbrev F : Frame
  F = t.frame

  abbrev es : List Entry
  es = held_of t

  -- in each of its periods what its jobs need
  plan_parts : All (λ e. (i : ℕ) → i < job_count e
      → slots_of e.name (i * job_length F e) (suc i * job_length F e) (plan_of t) ≡ job_need (step_b F es) (step_c F es) e) es
  unfolding plan_of
  plan_parts =
      all_map (λ e g i q. plan_slots F es e.name (i * job_length F e) (suc i * job_length F e) ∙ g i q)
      (entry_gets F es (formed_header w) (formed_together w) (formed_fits w))

  pub plan_gets : All (λ e. Gets F (step_b_of F es e) (step_c_of F es e) (plan_of t) e) es
  plan_gets =
      let x = own_extras F es w.tidy.once in
      all_zip (λ e p q. one e p.0 p.1 q.0 q.1) (all_both (formed_together w).held x)
      (all_both plan_parts (timely_meets F (step_c F es) es (formed_together w) x (formed_fits w).timely))
    where
      one : (e : Entry) → Held F e → Granted (step_b_of F es e) (step_c_of F es e) e
          → ((i : ℕ) → i < job_count e
          → slots_of e.name (i * job_length F e) (suc i * job_length F e) (plan_of t) ≡ job_need (step_b F es) (step_c F es) e)
          → (left (source_of e) ≤ 1 → rem (source_of e) ≤ piece_of F es e) → Gets F (step_b_of F es e) (step_c_of F es e) (plan_of t) e
      one e h x g m =
          record {
            fraction = λ k. rw (eq-eqb e.kind 1 k) at g;
            piece = λ n. whole (other_piece h n);
            granted = x;
            meets = λ n l. (let p = other_piece h n in
                omega (arith, m (omega (arith, source_left p)), source_rem p, ap (λ b. cond b (step_b_of F es e) 0) (piece_of_lem e p.kind)));
          }
        where
          -- the one period of a piece is the interval
          whole : Piece F e → slots_of e.name 0 (slots_in F) (plan_of t) ≡ step_b_of F es e + step_c_of F es e
          whole p =
              let g' = rw (not_fraction e p.kind) at g in
              let z : 0 * slots_in F ≡ 0 = zero-mul (slots_in F) in
              let o : 1 * slots_in F ≡ slots_in F = one-mul (slots_in F) in
              rw (z, o) at (g' 0 (omega arith))
