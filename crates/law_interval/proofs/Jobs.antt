-- The jobs of an interval, by entry: sums and facts of all jobs are those of each entry's; no name stands twice; and where what steps
-- A to C hand out fits the interval, its slots have room for all of them. Assumes nothing.
use Rattle.std.specs.Prelude.{◌≡◌, ◌⊎◌, Bool, ◌&&◌, List, eqb}
use Rattle.std.proofs.Math.Path.{refl, ap, ap₂}
use Rattle.std.proofs.Common.{sym, ◌∙◌, inl, inr, le_refl, le_of_eq, zero-mul, zero-add, mul_comm, le-div_iff_mul-le, eq-eqb, ne_eqb}
use Rattle.std.proofs.Math.Logic.{⊎_elim}
use Rattle.std.proofs.Math.Bool.{true, false, cond, not}
use Prim.Native.Nat.{ℕ, zero, suc, ◌+◌, ◌*◌, ◌-◌, ◌/◌, ◌≤◌, ◌<◌, zero-le}
use Rattle.std.proofs.Math.Nat.{suc-mul, sub-zero, mul-le-mul_right, div-eq_of_lt}
use Rattle.std.proofs.Math.Decide.{ℕ_discrete, dec_le}
use native.Mathlib.Omega.{arith}
use Rattle.spec_lists.specs.Lists.{one_if, keep, sum_of, sort}
use Rattle.base_lists.specs.Tests.{one_if_false, one_if_most}
use Rattle.spec_lists.specs.All.{All, stop, and}
use Rattle.base_lists.specs.All.{head, tail, all_map, all_zip, all_both, all_of}
use Rattle.base_lists.specs.All.{all_keep, all_kept, all_sort, all_sorted, all_append, all_left, all_right, all_concat, all_unconcat}
use Rattle.base_lists.specs.Sums.{sum_ext, sum_le, sum_add, sum_keep, sum_sort, sum_append, sum_concat, sum_zero}
use Rattle.base_edf.specs.Time.{due, due_in_lem, due_out, due_le, span_ones}
use Rattle.base_edf.specs.Edf.{Source, source, later, dem}
use Rattle.base_edf.proofs.Periodic.{periodic_room}
use Rattle.spec_model.specs.Frames.{slots_in, header_in, room_in, part_of}
use Rattle.spec_model.specs.Names.{same}
use Rattle.spec_model.specs.Entries.{is_named, is_kind, is_piece, asks}
use Rattle.spec_model.specs.declared.Frame.{Frame}
use Rattle.spec_model.specs.declared.Name.{Name}
use Rattle.spec_model.specs.declared.Entry.{Entry}
use Rattle.spec_rules.specs.Header.{due_of, due_by, header_test}
use Rattle.spec_rules.specs.Share.{load, order, job_count, need_with, step_b, step_c}
use Rattle.spec_rules.specs.Slots.{Job, JobName, name_of, job_at, jobs_from, job_length, job_need, jobs_of, lower_named, tie_order, jobs, same_name}
use Rattle.spec_rules.specs.WellFormed.{Held}
use Rattle.law_model.specs.Frames.{room_most, room_header}
use Rattle.law_steps.specs.Held.{Fraction, Piece}
use Rattle.law_steps.proofs.Held.{held_kinds, piece_of_lem, not_fraction, fraction_not}
use Rattle.law_steps.proofs.StepB.{order_all, all_order, order_sum}
use Rattle.law_steps.proofs.Header.{held_whole, test_between, test_less}
use Rattle.law_steps.proofs.Extras.{needs_fit, step_c_passes}
use Rattle.law_ahead.specs.Moved.{Together}
use Rattle.law_slots.specs.Choice.{Keys}
use Rattle.law_slots.specs.Service.{job_source, JobRoom}
use Rattle.law_slots.proofs.Service.{asking_dem}

-- ---- jobs of one request
module _ (s : Name) (T need : ℕ) where
  pub from_all : {P : Job → Type 0} (n j : ℕ) → ((k : ℕ) → j ≤ k → k < j + n → P (job_at s T need k)) → All P (jobs_from n s T need j)
  unfolding jobs_from
  from_all zero j h = stop
  from_all (suc n) j h = and (h j (le_refl j) (omega arith)) (from_all n (suc j) (λ k l q. h k (omega arith) (omega arith)))

  pub from_each : (P : Job → Type 0) (n j : ℕ) → All P (jobs_from n s T need j) → (k : ℕ) → j ≤ k → k < j + n → P (job_at s T need k)
  unfolding jobs_from
  from_each P zero j h k l q = absurd (omega arith)
  from_each P (suc n) j h k l q =
      elim (ℕ_discrete j k) [
        | yes e ↦ rw (← e) (head h)
        | no e ↦ from_each P n (suc j) (tail h) k (omega arith) (omega arith)
      ]

  -- a sum to which one job alone adds
  pub from_only : (f : Job → ℕ) (n j i : ℕ) → j ≤ i → i < j + n
      → ((k : ℕ) → j ≤ k → k < j + n → (k ≡ i → ⊥) → f (job_at s T need k) ≡ 0)
      → sum_of f (jobs_from n s T need j) ≡ f (job_at s T need i)
  unfolding jobs_from
  from_only f zero j i l q h = absurd (omega arith)
  from_only f (suc n) j i l q h =
      elim (ℕ_discrete j i) [
        | yes e ↦ omega (
          arith,
          ap (λ k. f (job_at s T need k)) e,
          sum_zero f (from_all {P = λ x. f x ≡ 0} n (suc j) (λ k a b. h k (omega arith) (omega arith) (λ z. omega arith))),
        )
        | no e ↦ omega (
          arith,
          h j (le_refl j) (omega arith) e,
          from_only f n (suc j) i (omega arith) (omega arith) (λ k a b z. h k (omega arith) (omega arith) z),
        )
      ]

  -- no number stands twice
  from_once : (n j x : ℕ) → sum_of (λ (i : Job). one_if (eqb i.number x)) (jobs_from n s T need j) ≤ 1
  unfolding jobs_from
  from_once zero j x = zero-le
  from_once (suc n) j x =
      elim (ℕ_discrete j x) [
        | yes e ↦ omega (
          arith,
          one_if_most (eqb j x),
          sum_zero (λ (i : Job). one_if (eqb i.number x))
              (from_all {P = λ i. one_if (eqb i.number x) ≡ 0} n (suc j) (λ k a b. one_if_false (ne_eqb k x (λ z. omega arith)))),
        )
        | no e ↦ omega (arith, one_if_false (ne_eqb j x e), from_once n (suc j) x)
      ]

  -- a name stands at most once, and only where it names the request
  from_keys : (n : ℕ) (k : JobName) → sum_of (λ i. one_if (same_name (name_of i) k)) (jobs_from n s T need 0) ≤ one_if (same s k.name)
  from_keys n k = omega (arith, number_only, go (same s k.name))
    where
      number_only : sum_of (λ i. one_if (same_name (name_of i) k)) (jobs_from n s T need 0)
          ≡ sum_of (λ (i : Job). one_if (same s k.name && eqb i.number k.number)) (jobs_from n s T need 0)
      number_only = sum_ext _ _ (from_all n 0 (λ i a b. refl))

      go : (b : Bool) → sum_of (λ (i : Job). one_if (b && eqb i.number k.number)) (jobs_from n s T need 0) ≤ one_if b
      go true = from_once n 0 k.number
      go false = le_of_eq (sum_zero (λ (i : Job). 0) (all_of (jobs_from n s T need 0) (λ i. refl)))

-- ---- what jobs ask of a window of slots h, h+1, ..
-- two conditions that hold together
due_same : (a b c d v : ℕ) → (a ≤ b → c ≤ d) → (c ≤ d → a ≤ b) → due a b v ≡ due c d v
due_same a b c d v f g =
    elim (dec_le a b) [
      | yes q ↦ due_in_lem a b v q ∙ sym (due_in_lem c d v (f q))
      | no q ↦ elim (dec_le c d) [
        | yes z ↦ absurd (q (g z))
        | no z ↦ due_out a b v (omega arith) ∙ sym (due_out c d v (omega arith))
      ]
    ]

module _ (h d : ℕ) where
  -- from h on: its need, if it is due by h + d
  ask_now : (j : Job) → j.release ≤ j.due → dem (job_source h j) 0 d ≡ due j.due (d + h) j.need
  ask_now j q =
      asking_dem (j.release - h) (j.due - h) j.need 0 d (omega arith)
      ∙ due_same (j.due - h) d j.due (d + h) j.need (λ z. omega arith) (λ z. omega arith)

  -- from a later slot on: what it asks of that window with no header
  ask_later : (x : ℕ) (j : Job) → j.release ≤ j.due
      → dem (job_source h j) (suc x) d ≡ due (suc (x + h)) j.release (due j.due (d + h) j.need)
  ask_later x j q =
      asking_dem (j.release - h) (j.due - h) j.need (suc x) d (omega arith)
      ∙ due_same (suc x) (j.release - h) (suc (x + h)) j.release (due (j.due - h) d j.need) (λ z. omega arith) (λ z. omega arith)
      ∙ ap (due (suc (x + h)) j.release)
      (due_same (j.due - h) d j.due (d + h) j.need (λ z. omega arith) (λ z. omega arith))

-- the jobs of one request
module _ (s : Name) (T need : ℕ) where
  -- all of them, from h on: each at most its need
  from_most : (h d n j : ℕ) → sum_of (λ i. dem (job_source h i) 0 d) (jobs_from n s T need j) ≤ n * need
  unfolding jobs_from
  from_most h d zero j = zero-le
  from_most h d (suc n) j =
      omega (
        arith,
        ask_now h d (job_at s T need j) (omega (arith, suc-mul j T)),
        due_le (suc j * T) (d + h) need,
        from_most h d n (suc j),
        suc-mul n need,
      )

  -- and at most those that are due by then
  from_due : (h d n j : ℕ) → 1 ≤ T → sum_of (λ i. dem (job_source h i) 0 d) (jobs_from n s T need j) ≤ ((d + h) / T - j) * need
  unfolding jobs_from
  from_due h d zero j l = zero-le
  from_due h d (suc n) j l =
      let first : dem (job_source h (job_at s T need j)) 0 d ≡ due (suc j * T) (d + h) need =
      ask_now h d (job_at s T need j) (omega (arith, suc-mul j T)) in
      let rest : sum_of (λ i. dem (job_source h i) 0 d) (jobs_from n s T need (suc j)) ≤ ((d + h) / T - suc j) * need =
      from_due h d n (suc j) l in
      elim (dec_le (suc j * T) (d + h)) [
        | yes q ↦
            let p : suc j ≤ (d + h) / T = (le-div_iff_mul-le l).1 q in
            let e : (d + h) / T - j ≡ suc ((d + h) / T - suc j) = omega arith in
            omega (arith, due_in_lem (suc j * T) (d + h) need q, ap (λ v. v * need) e, suc-mul ((d + h) / T - suc j) need)
        | no q ↦
            let e : (d + h) / T - suc j ≤ (d + h) / T - j = omega arith in
            omega (arith, due_out (suc j * T) (d + h) need (omega arith), mul-le-mul_right need e)
      ]

  from_by : (h d n : ℕ) → 1 ≤ T → sum_of (λ i. dem (job_source h i) 0 d) (jobs_from n s T need 0) ≤ (d + h) / T * need
  from_by h d n l = rw (sub-zero ((d + h) / T)) at (from_due h d n 0 l)

  -- from a later slot on: what a periodic source asks
  from_later : (h x d n j : ℕ)
      → sum_of (λ i. dem (job_source h i) (suc x) d) (jobs_from n s T need j) ≡ later (j * T) need T n (suc (x + h)) (d + h)
  unfolding jobs_from
  from_later h x d zero j = refl
  from_later h x d (suc n) j =
      let e : suc j * T ≡ j * T + T = suc-mul j T in
      ap₂ ◌+◌
      (ask_later h d x (job_at s T need j) (omega arith) ∙ ap (λ v. due (suc (x + h)) (j * T) (due v (d + h) need)) e)
      (from_later h x d n (suc j) ∙ ap (λ v. later v need T n (suc (x + h)) (d + h)) e)

  from_periodic : (h x d n : ℕ) → 1 ≤ n
      → sum_of (λ i. dem (job_source h i) (suc x) d) (jobs_from n s T need 0) ≡ dem (source need T need T (n - 1)) (suc (x + h)) (d + h)
  from_periodic h x d zero l = absurd (omega arith)
  from_periodic h x d (suc n) l =
      let z : 0 * T ≡ 0 = zero-mul T in
      let a : 0 + T ≡ T = zero-add T in
      let p : n ≡ suc n - 1 = omega arith in
      from_later h x d (suc n) 0
      ∙ ap (λ v. later v need T (suc n) (suc (x + h)) (d + h)) z
      ∙ ap (λ v. 0 + later v need T n (suc (x + h)) (d + h)) a
      ∙ zero-add (later T need T n (suc (x + h)) (d + h))
      ∙ ap (λ v. later T need T v (suc (x + h)) (d + h)) p

-- ---- all entries
-- every entry is of kind 1 or a piece
pub kinds_apart : {F : Frame} {es : List Entry} → All (Held F) es → All (λ e. is_piece e ≡ not (is_kind 1 e)) es
kinds_apart h =
    all_map (λ e w. ⊎_elim (λ f. fraction_not e f.kind ∙ sym (ap not (eq-eqb e.kind 1 f.kind)))
    (λ p. piece_of_lem e p.kind ∙ sym (ap not (not_fraction e p.kind))) (held_kinds w)) h

module _ {F : Frame} {es : List Entry} (w : All (Held F) es) where
  pub tie_sum : (f : Entry → ℕ) → sum_of f (tie_order es) ≡ sum_of f es
  unfolding tie_order
  tie_sum f =
      omega (
        arith,
        sum_append f (sort lower_named (keep (is_kind 1) es)) (order es),
        sum_sort f lower_named (keep (is_kind 1) es),
        sum_keep f (is_kind 1) es,
        order_sum f es,
        sum_add (λ e. cond (is_kind 1 e) (f e) 0) (λ e. cond (is_piece e) (f e) 0) es,
        sum_ext (λ e. cond (is_kind 1 e) (f e) 0 + cond (is_piece e) (f e) 0) f
            (all_map (λ e q. ap (λ b. cond (is_kind 1 e) (f e) 0 + cond b (f e) 0) q ∙ one (is_kind 1 e) (f e)) (kinds_apart w)),
      )
    where
      one : (b : Bool) (v : ℕ) → cond b v 0 + cond (not b) v 0 ≡ v
      one true v = omega arith
      one false v = omega arith

  pub all_tie : {P : Entry → Type 0} → All P es → All P (tie_order es)
  unfolding tie_order
  all_tie h = all_append (all_sort lower_named (all_keep (is_kind 1) (λ e q p. p) h)) (all_order (all_map (λ e p q. p) h))

  tie_all : (P : Entry → Type 0) → All P (tie_order es) → All P es
  unfolding tie_order
  tie_all P h =
      all_zip (λ e q r. pick e (is_kind 1 e) refl q r.0 r.1) (kinds_apart w)
      (all_both
      (all_kept P (is_kind 1) es (all_sorted P lower_named (keep (is_kind 1) es) (all_left P (sort lower_named (keep (is_kind 1) es)) (order es) h)))
      (order_all P es (all_right P (sort lower_named (keep (is_kind 1) es)) (order es) h)))
    where
      pick : (e : Entry) (b : Bool) → is_kind 1 e ≡ b → is_piece e ≡ not b → (is_kind 1 e ≡ true → P e) → (is_piece e ≡ true → P e) → P e
      pick e true z q x y = x z
      pick e false z q x y = y q

-- ---- all jobs of the interval
module _ {F : Frame} {es : List Entry} (w : Together F es) where
  -- what an entry's jobs are, as steps B and C have it
  abbrev own : Entry → List Job
  own e = jobs_of F (step_b F es) (step_c F es) e

  abbrev need : Entry → ℕ
  need e = job_need (step_b F es) (step_c F es) e

  pub jobs_sum : (f : Job → ℕ) → sum_of f (jobs F es) ≡ sum_of (λ e. sum_of f (own e)) es
  unfolding jobs
  jobs_sum f = sum_concat f own (tie_order es) ∙ tie_sum w.held (λ e. sum_of f (own e))

  pub jobs_all : {P : Job → Type 0} → All (λ e. (k : ℕ) → k < job_count e → P (job_at e.name (job_length F e) (need e) k)) es
      → All P (jobs F es)
  unfolding jobs
  jobs_all h =
      all_concat own
      (all_tie w.held
      (all_map (λ e q. from_all e.name (job_length F e) (need e) (job_count e) 0 (λ k a b. q k (omega arith))) h))

  pub jobs_each : (P : Job → Type 0) → All P (jobs F es)
      → All (λ e. (k : ℕ) → k < job_count e → P (job_at e.name (job_length F e) (need e) k)) es
  unfolding jobs
  jobs_each P h =
      all_map (λ e q k l. from_each e.name (job_length F e) (need e) P (job_count e) 0 q k zero-le (omega arith))
      (tie_all w.held (λ e. All P (own e)) (all_unconcat P own (tie_order es) h))

  -- no name twice: an entry's jobs have different numbers, and no request stands twice
  pub jobs_keys : Keys (jobs F es)
  jobs_keys k =
      omega (
        arith,
        jobs_sum (λ (j : Job). one_if (same_name (name_of j) k)),
        sum_le (λ e. sum_of (λ (j : Job). one_if (same_name (name_of j) k)) (own e)) (λ (e : Entry). one_if (is_named k.name e))
            (all_of es (λ e. from_keys e.name (job_length F e) (need e) (job_count e) k)),
        w.once k.name,
      )

  -- ---- room
  -- m jobs of length T fill the interval
  pub fills : All (λ e. job_length F e * job_count e ≡ slots_in F) es
  fills = all_map (λ e h. one e (held_kinds h)) w.held
    where
      one : (e : Entry) → Fraction F e ⊎ Piece F e → job_length F e * job_count e ≡ slots_in F
      one e (inl f) = rw (eq-eqb e.kind 1 f.kind) f.whole
      one e (inr p) = rw (not_fraction e p.kind) (omega arith)

  module _ (b : 1 ≤ slots_in F) where
    -- an entry has a job, and its jobs are not empty
    sizes : All (λ e. (1 ≤ job_length F e) × (1 ≤ job_count e)) es
    sizes =
        all_map (λ e f. (
          one (job_length F e) (job_count e) f,
          one (job_count e) (job_length F e) (mul_comm (job_count e) (job_length F e) ∙ f),
        )) fills
      where
        one : (x y : ℕ) → x * y ≡ slots_in F → 1 ≤ x
        one zero y f = absurd (omega (arith, zero-mul y))
        one (suc x) y f = omega arith

    -- Here alone room comes from. What the jobs ask of slots h to t: by t < B only kind 1 jobs are due, for which the header test leaves
    -- room; by the end all are, and they fit what may be given. A window that starts later asks what it asks with no header, where there
    -- is room since all needs fit the interval.
    pub jobs_room : header_in F ≤ slots_in F → load es ≤ room_in F → header_test F asks es ≡ true → JobRoom (header_in F) (jobs F es)
    unfolding due_by
    jobs_room hb l m zero d =
        let h = header_in F in
        elim (dec_le (slots_in F) (d + h)) [
          | yes z ↦ omega (
            arith,
            jobs_sum (λ j. dem (job_source h j) 0 d),
            sum_le (λ e. sum_of (λ j. dem (job_source h j) 0 d) (own e)) (λ e. job_count e * need e)
                (all_of es (λ e. from_most e.name (job_length F e) (need e) h d (job_count e) 0)),
            needs_fit F es w.once (kinds_apart w.held) l,
            room_header F hb,
            span_ones 0 d,
          )
          | no z ↦
              let most : sum_of (λ e. sum_of (λ j. dem (job_source h j) 0 d) (own e)) es ≤ sum_of (due_of F need (d + h)) es =
              sum_le (λ e. sum_of (λ j. dem (job_source h j) 0 d) (own e)) (due_of F need (d + h))
              (all_zip (λ e k s. one e (held_kinds k) s.0 (omega arith)) w.held sizes) in
              ⊎_elim (λ n. omega (arith, jobs_sum (λ j. dem (job_source h j) 0 d)))
              (λ n. omega (arith, jobs_sum (λ j. dem (job_source h j) 0 d), span_ones 0 d))
              (test_between F need es b (held_whole w.held) passes (d + h) (omega arith))
        ]
      where
        passes : header_test F need es ≡ true
        passes =
            test_less F (need_with (step_c F es)) need es (all_of es (λ e k. rw (eq-eqb e.kind 1 k) (le_refl _)))
            (step_c_passes F es w.once m)

        one : (e : Entry) → Fraction F e ⊎ Piece F e → 1 ≤ job_length F e → d + header_in F < slots_in F
            → sum_of (λ j. dem (job_source (header_in F) j) 0 d) (own e) ≤ due_of F need (d + header_in F) e
        one e (inl f) s z =
            let m = from_by e.name (job_length F e) (need e) (header_in F) d (job_count e) s in
            rw (eq-eqb e.kind 1 f.kind) (rw (eq-eqb e.kind 1 f.kind) at m)
        one e (inr p) s z =
            let long : job_length F e ≡ slots_in F = ap (λ b. cond b (part_of F e.parts) (slots_in F)) (not_fraction e p.kind) in
            let none : (d + header_in F) / job_length F e ≡ 0 = ap (λ v. (d + header_in F) / v) long ∙ div-eq_of_lt z in
            omega (arith, from_by e.name (job_length F e) (need e) (header_in F) d (job_count e) s, ap (λ v. v * need e) none)
    jobs_room hb l m (suc x) d =
        let h = header_in F in
        omega (
          arith,
          jobs_sum (λ j. dem (job_source h j) (suc x) d),
          sum_ext (λ e. sum_of (λ j. dem (job_source h j) (suc x) d) (own e)) (λ e. dem (periodic e) (suc (x + h)) (d + h))
              (all_map (λ e s. from_periodic e.name (job_length F e) (need e) h x d (job_count e) s.1) sizes),
          periodic_room need (job_length F) job_count (λ e. job_count e - 1) (slots_in F) es b fills all_needs (suc (x + h)) (d + h),
          span_ones (suc (x + h)) (d + h),
          span_ones (suc x) d,
        )
      where
        periodic : Entry → Source
        periodic e = source (need e) (job_length F e) (need e) (job_length F e) (job_count e - 1)

        all_needs : sum_of (λ e. job_count e * need e) es ≤ slots_in F
        all_needs = omega (arith, needs_fit F es w.once (kinds_apart w.held) l, room_most F)

  -- every job is released before it is due, and due by the end of the interval
  pub jobs_windows : 1 ≤ slots_in F → All (λ j. (j.release < j.due) × (j.due ≤ slots_in F)) (jobs F es)
  jobs_windows b =
      jobs_all (all_map (λ e f k q. (
        omega (arith, suc-mul k (job_length F e), long (job_length F e) (job_count e) f),
        omega (arith, f, mul_comm (job_length F e) (job_count e), mul-le-mul_right (job_length F e) q),
      )) fills)
    where
      long : (T m : ℕ) → T * m ≡ slots_in F → 1 ≤ T
      long zero m h = absurd (omega (arith, zero-mul m))
      long (suc T) m h = omega arith
