-- Laws of rows: a fact of all jobs by their lengths; a change of one need changes one job; rows of 16 jobs have few records;
-- and rows have the plan of any jobs that they are but for some that need nothing. Assumes nothing.
use Rattle.std.specs.Prelude.{◌≡◌, refl, List, [], ◌∷◌, ◌++◌, ℕ, zero, suc, ◌+◌, ◌*◌, ◌-◌, ◌≤◌, ◌<◌, ltb, length, get_or, set, drop, replicate}
use Rattle.std.proofs.Common.{sym, ap, subst, ◌∙◌, zero-le, le_refl, arith, length-set, le-ltb}
use Rattle.spec_lists.specs.Lists.{keep, sum_of}
use Rattle.base_lists.specs.Tests.{one_if_most, one_if_false}
use Rattle.spec_lists.specs.All.{All, stop, and}
use Rattle.base_lists.specs.All.{head, tail, all_at, all_append}
use Rattle.base_lists.specs.Sums.{sum_append, sum_keep_le}
use Rattle.spec_rules.specs.Slots.{Job, job_at, jobs_from, slots_from, runs_from}
use Rattle.law_slots.specs.Count.{to_come, ahead}
use Rattle.law_slots.proofs.Count.{few_runs_lem, come_later}
use Rattle.spec_model.specs.Names.{nobody}
use Rattle.spec_model.specs.Tables.{places}
use Rattle.spec_model.specs.declared.Name.{Name}
use Rattle.beacon_plan.specs.Rows.{few_runs, row_from, row_jobs, row_plan, Rows, unfinished}
use Rattle.beacon_plan.specs.Skipped.{Skipped, over, skip, same, skipped_done, skipped_slots, Changed, here, there, changed_append}
use Rattle.beacon_plan.specs.Skipped.{changed_after}

-- rows of sixteen jobs
abbrev pub Wide : List (List ℕ) → Type 0
Wide nss = All (λ (ns : List ℕ). length ns ≡ 16) nss

-- a fact of every job, whatever it needs, by the lengths
pub row_all : {P : Job → Type 0} (s : Name) (T j : ℕ) (ns : List ℕ) → ((n i : ℕ) → j ≤ i → P (job_at s T n i)) → All P (row_from s T j ns)
unfolding row_from
row_all s T j [] h = stop
row_all s T j (n ∷ ns) h = and (h n j (le_refl j)) (row_all s T (suc j) ns (λ m i l. h m i (omega arith)))

pub rows_all : {P : Job → Type 0} (ss : List Name) (Ts : List ℕ) (nss : List (List ℕ)) → All (λ T. (s : Name) (n j : ℕ) → P (job_at s T n j)) Ts
    → All P (row_jobs ss Ts nss)
unfolding row_jobs
rows_all [] Ts nss h = stop
rows_all (s ∷ ss) [] nss h = stop
rows_all (s ∷ ss) (T ∷ Ts) [] h = stop
rows_all (s ∷ ss) (T ∷ Ts) (ns ∷ nss) h = all_append (row_all s T 0 ns (λ n j l. head h s n j)) (rows_all ss Ts nss (tail h))

-- ---- one need
-- what job j of row i needs
abbrev pub need_at : List (List ℕ) → ℕ → ℕ → ℕ
need_at nss i j = get_or (get_or nss i []) j 0

-- and if it needs v instead
abbrev pub with_need : List (List ℕ) → ℕ → ℕ → ℕ → List (List ℕ)
with_need nss i j v = set nss i (set (get_or nss i []) j v)

-- a job that needs something is one of its row
pub in_row : (ns : List ℕ) (j : ℕ) → 1 ≤ get_or ns j 0 → j < length ns
in_row [] j h = absurd (omega arith)
in_row (n ∷ ns) zero h = omega arith
in_row (n ∷ ns) (suc j) h = omega (arith, in_row ns j h)

all_set : {A : Type 0} {P : A → Type 0} {xs : List A} (i : ℕ) (y : A) → P y → All P xs → All P (set xs i y)
all_set i y p stop = stop
all_set zero y p (and q h) = and p h
all_set (suc i) y p (and q h) = and q (all_set i y p h)

pub wide_with : (nss : List (List ℕ)) (i j v : ℕ) → i < length nss → Wide nss → Wide (with_need nss i j v)
wide_with nss i j v h w =
    all_set i (set (get_or nss i []) j v) (length-set (get_or nss i []) j v ∙ all_at (λ (ns : List ℕ). length ns ≡ 16) nss [] w i h) w

-- job j of row i
abbrev pub job_in : List Name → (lengths : List ℕ) (needs : List (List ℕ)) → ℕ → ℕ → Job
job_in ss Ts nss i j = job_at (get_or ss i nobody) (get_or Ts i 0) (need_at nss i j) j

row_changed : (s : Name) (T k : ℕ) (ns : List ℕ) (j m v : ℕ) → j < length ns → m ≡ k + j
    → Changed (job_at s T (get_or ns j 0) m) (job_at s T v m) (row_from s T k ns) (row_from s T k (set ns j v))
unfolding row_from
row_changed s T k [] j m v h e = absurd (omega arith)
row_changed s T k (n ∷ ns) zero m v h e =
    let q : k ≡ m = omega arith in
    subst (λ x. Changed (job_at s T n m) (job_at s T v m) (job_at s T n x ∷ row_from s T (suc k) ns) (job_at s T v x ∷ row_from s T (suc k) ns))
    (sym q) here
row_changed s T k (n ∷ ns) (suc j) m v h e = there (row_changed s T (suc k) ns j m v (omega arith) (omega arith))

pub rows_changed : (ss : List Name) (Ts : List ℕ) (nss : List (List ℕ)) (i j v : ℕ) → i < length ss → i < length Ts → i < length nss
    → j < length (get_or nss i [])
    → Changed (job_in ss Ts nss i j) (job_at (get_or ss i nobody) (get_or Ts i 0) v j) (row_jobs ss Ts nss) (row_jobs ss Ts (with_need nss i j v))
unfolding row_jobs
rows_changed [] Ts nss i j v a b c h = absurd (omega arith)
rows_changed (s ∷ ss) [] nss i j v a b c h = absurd (omega arith)
rows_changed (s ∷ ss) (T ∷ Ts) [] i j v a b c h = absurd (omega arith)
rows_changed (s ∷ ss) (T ∷ Ts) (ns ∷ nss) zero j v a b c h =
    changed_append (row_jobs ss Ts nss) (row_changed s T 0 ns j j v h (omega arith))
rows_changed (s ∷ ss) (T ∷ Ts) (ns ∷ nss) (suc i) j v a b c h =
    changed_after (row_from s T 0 ns) (rows_changed ss Ts nss i j v (omega arith) (omega arith) (omega arith) h)

-- ---- few records
-- a job has its end and its release to come
row_come : (s : Name) (T j : ℕ) (ns : List ℕ) → sum_of (to_come 0) (row_from s T j ns) ≤ length ns * 2
unfolding row_from
row_come s T j [] = zero-le
row_come s T j (n ∷ ns) = omega (arith, one_if_most (ltb 0 n), one_if_most (ltb 0 (j * T)), row_come s T (suc j) ns)

-- the first is released at 0
first_come : (s : Name) (T : ℕ) (ns : List ℕ) → length ns ≡ 16 → sum_of (to_come 0) (row_from s T 0 ns) ≤ 31
unfolding row_from
first_come s T [] h = zero-le
first_come s T (n ∷ ns) h =
    omega (arith, one_if_most (ltb 0 n), one_if_false (le-ltb 0 (0 * T) (omega arith)), row_come s T 1 ns)

pub rows_come : (ss : List Name) (Ts : List ℕ) (nss : List (List ℕ)) → Wide nss → ahead 0 (row_jobs ss Ts nss) ≤ 31 * length nss
unfolding row_jobs
rows_come [] Ts nss w = zero-le
rows_come (s ∷ ss) [] nss w = zero-le
rows_come (s ∷ ss) (T ∷ Ts) [] w = zero-le
rows_come (s ∷ ss) (T ∷ Ts) (ns ∷ nss) w =
    omega (
      arith,
      sum_append (to_come 0) (row_from s T 0 ns) (row_jobs ss Ts nss),
      first_come s T ns (head w),
      rows_come ss Ts nss (tail w),
    )

pub plan_few : {b : ℕ} (h : ℕ) {ss : List Name} {Ts : List ℕ} {nss : List (List ℕ)} → Rows b ss Ts nss → length nss ≤ places → Wide nss
    → length (row_plan b h ss Ts nss) ≤ few_runs
unfolding row_plan
plan_few {b} h {ss} {Ts} {nss} r l w =
    let js : List Job = row_jobs ss Ts nss in
    omega (
      arith,
      ap (λ cs. length (runs_from h cs)) (skipped_slots (b - h) h (skipped_done js)),
      few_runs_lem (b - h) h (keep unfinished js) r.names,
      come_later h (keep unfinished js),
      sum_keep_le (to_come 0) unfinished js,
      rows_come ss Ts nss w,
    )

-- ---- rows that need nothing
needs_none : {nss : List (List ℕ)} → All (λ ns. ns ≡ replicate 16 0) nss → (i j : ℕ) → need_at nss i j ≤ 0
needs_none stop i j = zero-le
needs_none (and e q) zero j = omega (arith, ap (λ ns. get_or ns j 0) e, get_d_zeros 16 j)
  where
    get_d_zeros : (n j : ℕ) → get_or (replicate n 0) j 0 ≤ 0
    get_d_zeros zero j = zero-le
    get_d_zeros (suc n) zero = zero-le
    get_d_zeros (suc n) (suc j) = get_d_zeros n j
needs_none (and e q) (suc i) j = needs_none q i j

-- where the rows from one on need nothing, a row that needs something stands before it, so its change changes none of them
pub spare_set : (rows : ℕ) (nss : List (List ℕ)) (i j : ℕ) (ns : List ℕ) → 1 ≤ need_at nss i j
    → All (λ ms. ms ≡ replicate 16 0) (drop rows nss) → All (λ ms. ms ≡ replicate 16 0) (drop rows (set nss i ns))
spare_set zero nss i j ns h q = absurd (omega (arith, needs_none q i j))
spare_set (suc r) [] i j ns h q = stop
spare_set (suc r) (ms ∷ nss) zero j ns h q = q
spare_set (suc r) (ms ∷ nss) (suc i) j ns h q = spare_set r nss i j ns h q

-- a row that needs something is one of them
pub in_rows : (nss : List (List ℕ)) (i j : ℕ) → 1 ≤ need_at nss i j → i < length nss
in_rows [] i j h = absurd (omega arith)
in_rows (ns ∷ nss) zero j h = omega arith
in_rows (ns ∷ nss) (suc i) j h = omega (arith, in_rows nss i j h)

-- ---- other jobs
-- a row of n equal needs, and m zeros after them, is n jobs; a row of zeros is none
pub row_skipped : (n m : ℕ) (s : Name) (T need j : ℕ) → Skipped (row_from s T j (replicate n need ++ replicate m 0)) (jobs_from n s T need j)
unfolding row_from jobs_from
row_skipped zero zero s T need j = over
row_skipped zero (suc m) s T need j = skip refl (row_skipped zero m s T need (suc j))
row_skipped (suc n) m s T need j = same (row_skipped n m s T need (suc j))

pub plan_skipped : (b h : ℕ) (ss : List Name) (Ts : List ℕ) (nss : List (List ℕ)) {js : List Job} → Skipped (row_jobs ss Ts nss) js
    → row_plan b h ss Ts nss ≡ runs_from h (slots_from (b - h) h js)
unfolding row_plan
plan_skipped b h ss Ts nss w = ap (runs_from h) (skipped_slots (b - h) h w)
