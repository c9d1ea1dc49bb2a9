-- The plan of a well-formed table: its records are exactly the longest runs of step D's slots, in rising order; there are at most
-- 1,024 of them; and each names a request in range and one of its jobs, and lies within the interval. Assumes nothing.
use Rattle.std.specs.Prelude.{◌≡◌, ◌⊎◌, ℕ, zero, suc, ◌*◌, ◌≤◌, ltb, length, replicate}
use Rattle.std.proofs.Common.{ap, ◌∙◌, inl, inr, zero-le, zero-add, mul-le-mul_right, arith, length-append, eq-eqb, le-ltb}
use mathlib.Core.List.{List}
use Rattle.std.proofs.Math.Option.{none}
use Rattle.std.proofs.lemmas.List.{length-replicate}
use Rattle.spec_lists.specs.Lists.{sum_of}
use Rattle.base_lists.specs.Tests.{one_if_most, one_if_false}
use Rattle.spec_lists.specs.All.{All}
use Rattle.base_lists.specs.All.{all_map, all_zip}
use Rattle.base_lists.specs.Sums.{sum_most, length_keep}
use Rattle.spec_model.specs.Frames.{slots_in, header_in, room_in}
use Rattle.spec_model.specs.Entries.{is_held}
use Rattle.spec_model.specs.declared.Frame.{Frame}
use Rattle.spec_model.specs.declared.Name.{Name}
use Rattle.spec_model.specs.declared.Entry.{Entry}
use Rattle.spec_model.specs.declared.Table.{Table}
use Rattle.spec_rules.specs.Share.{job_count, step_b, step_c}
use Rattle.spec_rules.specs.Slots.{Slot, name_of, jobs_from, job_length, job_need, jobs_of, jobs, slots_from, runs_from, step_d, step_e}
use Rattle.spec_model.specs.Tables.{held_of}
use Rattle.spec_rules.specs.Calls.{plan_of}
use Rattle.spec_rules.specs.WellFormed.{WellFormed}
use Rattle.law_model.specs.Frames.{frame_most, room_header, header_less}
use Rattle.law_steps.specs.Held.{Fraction, Piece}
use Rattle.law_steps.proofs.Held.{held_kinds, not_fraction}
use Rattle.law_ahead.specs.Moved.{Together}
use Rattle.law_ahead.proofs.Tables.{formed_together}
use Rattle.law_slots.proofs.Meets.{slots_length, slots_owned}
use Rattle.law_slots.proofs.Idle.{owned_after}
use Rattle.law_slots.proofs.Events.{runs_idle}
use Rattle.law_slots.specs.Cuts.{name_in}
use Rattle.law_slots.proofs.Runs.{runs_are, all_runs, runs_rise, runs_end, runs_named}
use Rattle.law_slots.specs.Count.{to_come}
use Rattle.law_slots.proofs.Count.{few_runs_lem, come_later}
use Rattle.law_interval.proofs.Jobs.{jobs_sum, jobs_all, jobs_keys}
use Rattle.law_interval.specs.Plan.{Named, FewCome, RightPlan}

-- ---- few records
-- a job counts twice at most
from_come : (n : ℕ) (s : Name) (T need j : ℕ) → sum_of (to_come 0) (jobs_from n s T need j) ≤ n * 2
unfolding jobs_from
from_come zero s T need j = zero-le
from_come (suc n) s T need j =
    omega (arith, one_if_most (ltb 0 need), one_if_most (ltb 0 (j * T)), from_come n s T need (suc j))

-- and the first, which is released at 0, once: 31 for sixteen jobs
all_come : FewCome
unfolding jobs_from
all_come zero s T need h = zero-le
all_come (suc n) s T need h =
    omega (arith, one_if_most (ltb 0 need), one_if_false (le-ltb 0 (0 * T) (omega arith)), from_come n s T need 1)

-- the records are those of the slots after the header
pub plan_runs : (F : Frame) (es : List Entry) → step_e F es ≡ runs_from (header_in F) (slots_from (room_in F) (header_in F) (jobs F es))
unfolding step_e step_d
plan_runs F es =
    let cs = slots_from (room_in F) (header_in F) (jobs F es) in
    runs_idle (header_in F) 0 cs ∙ ap (λ s. runs_from s cs) (zero-add (header_in F))

module _ {F : Frame} {es : List Entry} (w : Together F es) where
  -- no entry has more than sixteen jobs
  few_jobs : All (λ e. job_count e ≤ 16) es
  few_jobs = all_map (λ e h. one e (held_kinds h)) w.held
    where
      one : (e : Entry) → Fraction F e ⊎ Piece F e → job_count e ≤ 16
      one e (inl f) = rw (eq-eqb e.kind 1 f.kind) f.parts_most
      one e (inr p) = rw (not_fraction e p.kind) (omega arith)

  plan_few : length (step_e F es) ≤ length es * 31
  plan_few =
      omega (
        arith,
        ap length (plan_runs F es),
        few_runs_lem (room_in F) (header_in F) (jobs F es) (jobs_keys w),
        come_later (header_in F) (jobs F es),
        jobs_sum w (to_come 0),
        sum_most (λ e. sum_of (to_come 0) (jobs_of F (step_b F es) (step_c F es) e)) 31
            (all_map (λ e h. all_come (job_count e) e.name (job_length F e) (job_need (step_b F es) (step_c F es) e) h) few_jobs),
      )

  -- ---- the names in the records
  jobs_named : All (λ j. Named (name_of j)) (jobs F es)
  jobs_named =
      jobs_all w (all_zip (λ e h m k q. (h.name, omega arith)) w.held few_jobs)

  plan_named : All (λ r. Named (name_in r)) (step_e F es)
  unfolding step_e step_d
  plan_named =
      runs_named Named (step_d F es)
      (owned_after Named (header_in F) (slots_from (room_in F) (header_in F) (jobs F es))
      (slots_owned Named (room_in F) (header_in F) (jobs F es) jobs_named))

-- ---- the plan of a table
all_slots : (F : Frame) (es : List Entry) → header_in F ≤ slots_in F → length (step_d F es) ≡ slots_in F
unfolding step_d
all_slots F es h =
    let idle : Slot = none in
    length-append (replicate (header_in F) none) (slots_from (room_in F) (header_in F) (jobs F es))
    ∙ omega (
      arith,
      length-replicate (header_in F) idle,
      slots_length (room_in F) (header_in F) (jobs F es),
      room_header F h,
    )

pub plan_right : (t : Table) → WellFormed t → RightPlan t
unfolding plan_of step_e
plan_right t w =
    let F = t.frame in
    let es = held_of t in
    record {
      records = runs_are (step_d F es);
      runs = all_runs (step_d F es);
      rise = runs_rise (step_d F es);
      few = omega (
        arith,
        plan_few (formed_together w),
        mul-le-mul_right 31 (length_keep is_held t.entries),
        ap (λ n. n * 31) w.tidy.size,
      );
      in_range = all_zip (λ r n e. record { name = n.0; job = n.1; slots = omega (arith, all_slots F es (omega (arith, header_less w.tidy.setting))) })
          (plan_named (formed_together w)) (runs_end (step_d F es));
      short = frame_most w.tidy.setting;
    }
