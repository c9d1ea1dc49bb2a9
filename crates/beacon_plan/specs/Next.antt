-- The next release: no job is released between t and it; it is ahead, and at most the end of the interval. Assumes nothing.
use Rattle.std.specs.Prelude.{◌≡◌, refl, ◌⊎◌, List, [], ◌∷◌, ℕ, ◌+◌, ◌*◌, ◌/◌, ◌≤◌, ◌<◌, min, length, get_or, drop}
use Rattle.std.proofs.Common.{ap, ◌∙◌, inl, inr, le_trans, add-mul, one-mul, mul-le-mul_right, div-mul-le_self, add-one, arith, drop-cons}
use Rattle.std.proofs.Math.Nat.{lt-div-mul-add, div-eq_of_lt, div-eq_of_lt-le}
use Rattle.std.proofs.Math.Decide.{dec_le}
use Rattle.spec_lists.specs.All.{All, stop, and}
use Rattle.base_lists.specs.All.{all_map}
use Rattle.spec_model.specs.declared.Name.{Name}
use Rattle.spec_rules.specs.Slots.{job_at}
use Rattle.law_slots.specs.Events.{Quiet}
use Rattle.beacon_plan.specs.Rows.{row_jobs, Length}
use Rattle.beacon_plan.specs.RowLaws.{rows_all}

-- the first release after t of a stream whose jobs are T slots long
abbrev pub after : (T t : ℕ) → ℕ
after T t = (t / T + 1) * T

-- the first release after t of any row, or the end
unfoldable pub next_of : (b t : ℕ) (lengths : List ℕ) → ℕ
next_of b t [] = b
next_of b t (T ∷ Ts) = min (after T t) (next_of b t Ts)

after_is : (T t : ℕ) → after T t ≡ t / T * T + T
after_is T t = add-mul (t / T) 1 T ∙ rw (one-mul T)

pub after_more : (T t : ℕ) → 1 ≤ T → t < after T t
after_more T t h = rw (after_is T t) (lt-div-mul-add h)

pub after_most : (T t : ℕ) → after T t ≤ t + T
after_most T t = omega (arith, after_is T t, div-mul-le_self t T)

pub next_more : (b t : ℕ) {Ts : List ℕ} → t < b → All (Length b) Ts → t < next_of b t Ts
unfolding next_of
next_more b t h stop = h
next_more b t h (and {x = T} p r) = omega (arith, after_more T t p.some, next_more b t h r)

pub next_most : (b t : ℕ) (Ts : List ℕ) → next_of b t Ts ≤ b
unfolding next_of
next_most b t [] = omega arith
next_most b t (T ∷ Ts) = omega (arith, next_most b t Ts)

-- it is ahead, and not past the end
pub next_ahead : (b t : ℕ) {Ts : List ℕ} {m : ℕ} → t < b → All (Length b) Ts → m ≡ next_of b t Ts → (t < m) × (m ≤ b)
next_ahead b t {Ts} h q e = omega (arith, e, next_more b t h q, next_most b t Ts)

-- ---- no job is released on the way
-- a multiple of T comes by t, or not before the first after t
apart : (T t j : ℕ) → (j * T ≤ t) ⊎ (after T t ≤ j * T)
apart T t j =
    elim (dec_le j (t / T)) [
      | yes q ↦ inl (le_trans (mul-le-mul_right T q) (div-mul-le_self t T))
      | no q ↦ let l : t / T + 1 ≤ j = omega arith in inr (mul-le-mul_right T l)
    ]

next_all : (b t : ℕ) (Ts : List ℕ) → All (λ T. next_of b t Ts ≤ after T t) Ts
unfolding next_of
next_all b t [] = stop
next_all b t (T ∷ Ts) = and {x = T} (omega arith) (all_map (λ U h. omega arith) (next_all b t Ts))

pub next_quiet : (b t n : ℕ) (ss : List Name) (Ts : List ℕ) (nss : List (List ℕ)) → t + n ≤ next_of b t Ts → All (Quiet n t) (row_jobs ss Ts nss)
next_quiet b t n ss Ts nss h = rows_all ss Ts nss (all_map one (next_all b t Ts))
  where
    one : (T : ℕ) → next_of b t Ts ≤ after T t → (s : Name) (m j : ℕ) → Quiet n t (job_at s T m j)
    one T l s m j = go (apart T t j)
      where
        go : (j * T ≤ t) ⊎ (after T t ≤ j * T) → Quiet n t (job_at s T m j)
        go (inl q) = inl q
        go (inr q) = inr (omega arith)

-- until it comes it is the next release
pub next_same : (b t s : ℕ) (Ts : List ℕ) → t ≤ s → s < next_of b t Ts → next_of b t Ts ≡ next_of b s Ts
unfolding next_of
next_same b t s [] h k = refl
next_same b t s (T ∷ Ts) h k =
    let d : s / T ≡ t / T = div-eq_of_lt-le T (le_trans (div-mul-le_self t T) h) (omega arith) in
    let r : s < next_of b t Ts = omega arith in
    rw (d, next_same b t s Ts h r)

-- ---- one row at a time
pub next_step : (b t i n : ℕ) (Ts : List ℕ) → i < length Ts
    → min n (next_of b t (drop i Ts)) ≡ min (min n (after (get_or Ts i 0) t)) (next_of b t (drop (i + 1) Ts))
unfolding next_of
next_step b t i n Ts h = rw (add-one i, drop-cons Ts i 0 h) (omega arith)

-- rows as long as the interval have no release before the end
next_spare : (b t : ℕ) {Ts : List ℕ} → t < b → All (λ T. T ≡ b) Ts → next_of b t Ts ≡ b
unfolding next_of
next_spare b t h stop = refl
next_spare b t h (and {x = T} e q) =
    let l : b ≤ after b t = rw (div-eq_of_lt h) (omega arith) in
    omega (arith, ap (λ U. after U t) e, next_spare b t h q)

pub next_end : (b t i n : ℕ) (Ts : List ℕ) → t < b → All (λ T. T ≡ b) (drop i Ts) → n ≤ b → min n (next_of b t (drop i Ts)) ≡ n
next_end b t i n Ts h q k = omega (arith, next_spare b t h q)
