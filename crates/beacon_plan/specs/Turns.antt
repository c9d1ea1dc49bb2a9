-- How many turns the plan takes: each ends a job, comes to a release, or comes to the end, so of 32 rows there are at most 993, however
-- many slots an interval has. Assumes nothing.
use Rattle.std.specs.Prelude.{◌≡◌, List, [], ◌∷◌, ◌++◌, ℕ, suc, ◌+◌, ◌*◌, ◌-◌, ◌/◌, ◌≤◌, ◌<◌, min, ltb, length}
use Rattle.std.proofs.Common.{sym, ap, subst, zero-le, le_refl, lt_of_mul-lt-mul_right, arith, lt-ltb, le-ltb}
use Rattle.std.proofs.Math.Decide.{dec_le, ℕ_discrete}
use Rattle.spec_lists.specs.Lists.{one_if, sum_of}
use Rattle.base_lists.specs.Tests.{one_if_true, one_if_false, one_if_most}
use Rattle.spec_lists.specs.All.{All}
use Rattle.base_lists.specs.All.{head, tail, all_of}
use Rattle.base_lists.specs.Sums.{sum_le, sum_append}
use Rattle.spec_rules.specs.Slots.{Job, job_at}
use Rattle.law_slots.specs.Events.{less_by}
use Rattle.law_slots.specs.Count.{to_come, ahead}
use Rattle.spec_model.specs.Tables.{places}
use Rattle.spec_model.specs.declared.Name.{Name}
use Rattle.beacon_plan.specs.Rows.{few_runs, row_from, row_jobs, Length}
use Rattle.beacon_plan.specs.Skipped.{Changed, here, there}
use Rattle.beacon_plan.specs.RowLaws.{Wide, rows_come}
use Rattle.beacon_plan.specs.Next.{after, after_more, next_of, next_more, next_most}

-- what is to come at t: the ends of jobs, releases, and the end of the interval
unfoldable pub turns : (b t : ℕ) → List Job → ℕ
turns b t js = ahead t js + one_if (ltb t b)

-- ---- later there is no more to come
later_come : (t u : ℕ) → t ≤ u → (j : Job) → to_come u j ≤ to_come t j
later_come t u h j =
    elim (dec_le (suc u) j.release) [
      | yes q ↦ omega (arith, one_if_most (ltb u j.release), one_if_true (lt-ltb t j.release (omega arith)))
      | no q ↦ omega (arith, one_if_false (le-ltb u j.release (omega arith)))
    ]

later_ahead : (t u : ℕ) (js : List Job) → t ≤ u → ahead u js ≤ ahead t js
later_ahead t u js h = sum_le (to_come u) (to_come t) (all_of js (later_come t u h))

-- ---- a release has come
-- that of job m, which is one of the row's
row_come : (t : ℕ) (s : Name) (T m j : ℕ) (ns : List ℕ) → t < m * T → j ≤ m → m < j + length ns
    → ahead (m * T) (row_from s T j ns) < ahead t (row_from s T j ns)
unfolding row_from
row_come t s T m j [] h k l = absurd (omega arith)
row_come t s T m j (n ∷ ns) h k l =
    elim (ℕ_discrete j m) [
      | yes e ↦ omega (
        arith,
        later_ahead t (m * T) (row_from s T (suc j) ns) (omega arith),
        ap (λ i. one_if (ltb (m * T) (i * T))) e,
        ap (λ i. one_if (ltb t (i * T))) e,
        one_if_false (le-ltb (m * T) (m * T) (le_refl (m * T))),
        one_if_true (lt-ltb t (m * T) h),
      )
      | no e ↦ omega (
        arith,
        row_come t s T m (suc j) ns h (omega arith) (omega arith),
        later_come t (m * T) (omega arith) (job_at s T n j),
      )
    ]

-- By the rows: the next release is one of this row's jobs, or that of the rows after it.
pub next_turn : (b t : ℕ) (ss : List Name) (Ts : List ℕ) (nss : List (List ℕ)) → length ss ≡ length Ts → length nss ≡ length Ts → t < b
    → All (Length b) Ts → Wide nss → turns b (next_of b t Ts) (row_jobs ss Ts nss) < turns b t (row_jobs ss Ts nss)
unfolding turns row_jobs next_of
next_turn b t [] [] nss u v h q w = omega (arith, one_if_false (le-ltb b b (le_refl b)), one_if_true (lt-ltb t b h))
next_turn b t (s ∷ ss) [] nss u v h q w = absurd (omega arith)
next_turn b t [] (T ∷ Ts) nss u v h q w = absurd (omega arith)
next_turn b t (s ∷ ss) (T ∷ Ts) [] u v h q w = absurd (omega arith)
next_turn b t (s ∷ ss) (T ∷ Ts) (ns ∷ nss) u v h q w =
    let js : List Job = row_jobs ss Ts nss in
    let row : List Job = row_from s T 0 ns in
    let m : ℕ = after T t in
    let e : ℕ = next_of b t Ts in
    let rest : turns b e js < turns b t js = next_turn b t ss Ts nss (omega arith) (omega arith) h (tail q) (tail w) in
    let sum : (x : ℕ) → ahead x (row ++ js) ≡ ahead x row + ahead x js = λ x. sum_append (to_come x) row js in
    elim (dec_le e m) [
      | yes z ↦
          let f : min m e ≡ e = omega arith in
          subst (λ x. turns b x (row ++ js) < turns b t (row ++ js)) (sym f)
          (omega (arith, sum e, sum t, later_ahead t e row (omega (arith, next_more b t h (tail q)))))
      | no z ↦
          let f : min m e ≡ m = omega arith in
          let a : t < m = after_more T t (head q).some in
          let c : t / T + 1 < 16 = lt_of_mul-lt-mul_right T (omega (arith, next_most b t Ts, (head q).few)) in
          let own : ahead m row < ahead t row = row_come t s T (t / T + 1) 0 ns a zero-le (omega (arith, head w)) in
          subst (λ x. turns b x (row ++ js) < turns b t (row ++ js)) (sym f)
          (omega (arith, own, sum m, sum t, later_ahead t m js (omega arith), one_if_most (ltb m b), one_if_true (lt-ltb t b h)))
    ]

-- ---- a job has run
changed_sum : {x y : Job} {js ks : List Job} → Changed x y js ks → (f : Job → ℕ) → sum_of f ks + f x ≡ sum_of f js + f y
changed_sum here f = omega arith
changed_sum (there w) f = omega (arith, changed_sum w f)

-- to its end, or to the next release
pub job_turn : (b t n m : ℕ) {x : Job} {js ks : List Job} → Changed x (less_by n x) js ks → 1 ≤ x.need → t < b
    → n ≡ min x.need (m - t) → t < m → turns b m js < turns b t js → turns b (t + n) ks < turns b t js
unfolding turns
job_turn b t n m {x} {js} {ks} w h k e l q =
    elim (dec_le x.need n) [
      | yes z ↦ omega (
        arith,
        changed_sum w (to_come t),
        later_ahead t (t + n) ks (omega arith),
        one_if_true (lt-ltb 0 x.need h),
        one_if_false (le-ltb 0 (x.need - n) (omega arith)),
        one_if_most (ltb (t + n) b),
        one_if_true (lt-ltb t b k),
      )
      | no z ↦
          let f : m ≡ t + n = omega arith in
          subst (λ y. ahead y ks + one_if (ltb y b) < ahead t js + one_if (ltb t b)) f
          (omega (arith, q, changed_sum w (to_come m), one_if_true (lt-ltb 0 x.need h), one_if_most (ltb 0 (x.need - n))))
    ]

-- ---- few at the start
pub turns_few : (b : ℕ) (ss : List Name) (Ts : List ℕ) (nss : List (List ℕ)) → length nss ≤ places → Wide nss
    → turns b 0 (row_jobs ss Ts nss) ≤ few_runs + 1
unfolding turns
turns_few b ss Ts nss l w = omega (arith, rows_come ss Ts nss w, one_if_most (ltb 0 b))
