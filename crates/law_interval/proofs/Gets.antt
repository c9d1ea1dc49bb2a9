-- One interval: in step D's slots every request has, in each of its periods, what its jobs need: min + extra for kind 1, the step B and C
-- slots for a piece. Assumes nothing.
use Rattle.std.specs.Prelude.{◌≡◌, ◌⊎◌, false, List, ◌++◌, replicate}
use Rattle.std.proofs.Common.{sym, ◌∙◌, inl, inr, le_refl, zero-add, mul_comm, mul-le-mul_right, arith}
use Rattle.std.proofs.Math.Path.{ap, subst}
use Rattle.std.proofs.Math.Bool.{cond}
use Rattle.std.proofs.Math.Option.{none}
use Prim.Native.Nat.{ℕ, suc, ◌+◌, ◌*◌, ◌≤◌, ◌<◌, zero-le}
use Rattle.std.proofs.Math.Decide.{dec_le}
use Rattle.spec_lists.specs.Lists.{sum_of, span}
use Rattle.spec_lists.specs.All.{All}
use Rattle.base_lists.specs.All.{all_map, all_zip, all_both}
use Rattle.base_lists.specs.Sums.{sum_ext, sum_zero}
use Rattle.base_lists.specs.Picked.{each_picked, picked_only, picked_alone}
use Rattle.base_edf.specs.Time.{span_ext, span_sum}
use Rattle.spec_model.specs.Frames.{slots_in, header_in, room_in}
use Rattle.spec_model.specs.Names.{same}
use Rattle.spec_model.specs.Entries.{is_named}
use Rattle.spec_model.specs.declared.Frame.{Frame}
use Rattle.spec_model.specs.declared.Name.{Name}
use Rattle.spec_model.specs.declared.Entry.{Entry}
use Rattle.spec_rules.specs.Share.{job_count, step_b, step_c}
use Rattle.spec_rules.specs.Slots.{Job, name_of, job_at, job_length, job_need, jobs_of, jobs, slots_from, step_d}
use Rattle.spec_rules.specs.WellFormed.{Once}
use Rattle.law_model.specs.Frames.{room_header}
use Rattle.law_model.specs.Names.{same_refl}
use Rattle.law_ahead.specs.Moved.{Together}
use Rattle.law_ahead.proofs.Timely.{loads_now}
use Rattle.law_ahead.specs.Fits.{Fits}
use Rattle.law_slots.specs.Meets.{has, Met}
use Rattle.law_slots.proofs.Meets.{slots_meet, met_inside, met_apart, slot_shares}
use Rattle.law_slots.proofs.Idle.{met_after, shared_after}
use Rattle.law_interval.proofs.Jobs.{fills, jobs_sum, jobs_each, jobs_keys, jobs_room, jobs_windows, from_all, from_only}
use Rattle.law_interval.specs.Gets.{of_name, name_at}

-- a sum to which one request alone adds
only_named : (es : List Entry) → Once es
    → All (λ e. (f : Entry → ℕ) → ((y : Entry) → is_named e.name y ≡ false → f y ≡ 0) → sum_of f es ≡ f e) es
only_named es w =
    all_map (λ e p f h. picked_only f p.1
    (all_map (λ y q. h y q) (picked_alone (is_named e.name) p.1 (w e.name) (same_refl e.name))))
    (each_picked es)

module _ (F : Frame) (es : List Entry) (b : header_in F < slots_in F) (w : Together F es) (f : Fits F es) where
  abbrev need : Entry → ℕ
  need e = job_need (step_b F es) (step_c F es) e

  abbrev own : Entry → List Job
  own e = jobs_of F (step_b F es) (step_c F es) e

  -- every job has its need in its window, and nothing elsewhere
  jobs_met : All (Met 0 (slots_in F) (step_d F es)) (jobs F es)
  unfolding step_d
  jobs_met =
      all_map (λ j m. subst (λ n. Met 0 n (replicate h none ++ slots_from (room_in F) h js) j) whole
      (met_after h 0 (room_in F) (slots_from (room_in F) h js) j (rw (zero-add h) m)))
      (slots_meet (room_in F) h js (jobs_keys w)
      (jobs_room w some (omega arith) (omega (arith, f.timely.load 0, loads_now F es w)) f.test)
      (all_map (λ j q. (q.0, omega (arith, whole))) (jobs_windows w some)))
    where
      h : ℕ
      h = header_in F

      js : List Job
      js = jobs F es

      some : 1 ≤ slots_in F
      some = omega arith

      whole : h + room_in F ≡ slots_in F
      whole = omega (arith, room_header F (omega arith))

  -- a slot is a request's as often as its jobs, together, have it
  entry_own : All (λ e. (x : ℕ) → name_at F es e.name x ≡ sum_of (λ j. has (step_d F es) j x) (own e)) es
  unfolding step_d
  entry_own =
      all_map (λ e only x. shared_after (header_in F) (slots_from (room_in F) (header_in F) (jobs F es)) (jobs F es)
      (slot_shares (room_in F) (header_in F) (jobs F es) (jobs_keys w)) (of_name e.name) x
      ∙ jobs_sum w (mine e.name x)
      ∙ only (λ y. sum_of (mine e.name x) (own y))
      (λ y q. sum_zero (mine e.name x)
      (from_all y.name (job_length F y) (need y) (job_count y) 0 (λ k p r. ap (λ c. cond c (has (step_d F es) (job_of y k) x) 0) q)))
      ∙ sum_ext (mine e.name x) (λ j. has (step_d F es) j x)
      (from_all e.name (job_length F e) (need e) (job_count e) 0
      (λ k p r. ap (λ c. cond c (has (step_d F es) (job_of e k) x) 0) (same_refl e.name))))
      (only_named es w.once)
    where
      mine : Name → ℕ → Job → ℕ
      mine s x j = cond (of_name s (name_of j)) (has (step_d F es) j x) 0

      job_of : Entry → ℕ → Job
      job_of e k = job_at e.name (job_length F e) (need e) k

  -- Period i of an entry. Of its jobs, job i lies in that window and has its need there, and every other one lies apart.
  pub entry_gets : All (λ e. (i : ℕ) → i < job_count e
      → span (name_at F es e.name) (i * job_length F e) (suc i * job_length F e) ≡ need e) es
  entry_gets =
      all_zip (λ e f r i q. one e f r.0 r.1 i q) (fills w) (all_both entry_own (jobs_each w (Met 0 (slots_in F) (step_d F es)) jobs_met))
    where
      one : (e : Entry) → job_length F e * job_count e ≡ slots_in F
          → ((x : ℕ) → name_at F es e.name x ≡ sum_of (λ j. has (step_d F es) j x) (own e))
          → ((k : ℕ) → k < job_count e → Met 0 (slots_in F) (step_d F es) (job_at e.name (job_length F e) (need e) k))
          → (i : ℕ) → i < job_count e → span (name_at F es e.name) (i * job_length F e) (suc i * job_length F e) ≡ need e
      one e f same m i q =
          span_ext (name_at F es e.name) (λ x. sum_of (λ j. has (step_d F es) j x) (own e)) (i * T) (suc i * T) same
          ∙ sym (span_sum (λ j x. has (step_d F es) j x) (own e) (i * T) (suc i * T))
          ∙ from_only e.name T (need e) (λ j. span (has (step_d F es) j) (i * T) (suc i * T)) (job_count e) 0 i zero-le (omega arith)
          (λ k p r n. met_apart (m k (omega arith)) (i * T) (suc i * T) (away k n))
          ∙ met_inside (m i q) (i * T) (suc i * T) (le_refl _) (le_refl _) (mul-le-mul_right T (omega arith))
          (omega (arith, f, mul_comm T (job_count e), mul-le-mul_right T q))
        where
          T : ℕ
          T = job_length F e

          away : (k : ℕ) → (k ≡ i → ⊥) → (suc i * T ≤ k * T) ⊎ (suc k * T ≤ i * T)
          away k n =
              elim (dec_le (suc i) k) [
                | yes z ↦ inl (mul-le-mul_right T z)
                | no z ↦ inr (mul-le-mul_right T (elim (dec_le (suc k) i) [ yes y ↦ y | no y ↦ absurd (n (omega arith)) ]))
              ]
