-- What is due by the sums, one number of parts after the other, and how large it gets. Assumes nothing.
use Rattle.std.specs.Prelude.{◌≡◌, List, ℕ, suc, ◌+◌, ◌*◌, ◌/◌, ◌≤◌, ◌<◌}
use Rattle.std.proofs.Common.{mul-le-mul, div-le_self, add-one, below_more}
use native.Mathlib.Omega.{arith}
use Rattle.std.proofs.Math.ListN.{get_or}
use Rattle.base_lists.specs.All.{all_at}
use Rattle.base_edf.specs.Time.{span_join, span_none, span_one}
use Rattle.header_test.specs.Due.{parts_room, most_needs, Summed, jobs_by, due_to, most_jobs}

pub sum_small : {sums : List ℕ} → Summed sums → (i : ℕ) → i < parts_room → get_or sums i 0 ≤ most_needs
sum_small {sums} s i l = all_at (λ v. v ≤ most_needs) sums 0 s.most i (omega (arith, s.size))

pub product_few : (k i : ℕ) → k ≤ 16 → i < parts_room → k * i ≤ most_jobs
product_few k i h l = (let small : i ≤ 16 = omega arith in mul-le-mul h small)

-- the jobs are few
pub jobs_few : (k m i : ℕ) → k ≤ 16 → i < parts_room → jobs_by k m i ≤ most_jobs
jobs_few k m i h l = omega (arith, div-le_self (k * i) m, product_few k i h l)

module _ (sums : List ℕ) (k m : ℕ) where
  pub due_none : due_to sums k m 2 ≡ 0
  unfolding due_to
  due_none = span_none (λ i. jobs_by k m i * get_or sums i 0) 2 2 (omega arith)

  pub due_more : (i : ℕ) → 2 ≤ i → due_to sums k m (i + 1) ≡ due_to sums k m i + jobs_by k m i * get_or sums i 0
  unfolding due_to
  due_more i h =
      rw (add-one i)
      (omega (
        arith,
        span_join (λ j. jobs_by k m j * get_or sums j 0) 2 i (suc i) h (omega arith),
        span_one (λ j. jobs_by k m j * get_or sums j 0) i,
      ))

  -- the jobs of streams of i parts need no more than this
  pub need_small : Summed sums → (i : ℕ) → k ≤ 16 → i < parts_room → jobs_by k m i * get_or sums i 0 ≤ most_jobs * most_needs
  need_small s i h l = mul-le-mul (jobs_few k m i h l) (sum_small s i l)

-- ---- turns of a loop
-- what holds from a up to i, and at i, holds up to i + 1
pub from_more : (P : ℕ → Type 0) (a i : ℕ) → ((k : ℕ) → a ≤ k → k < i → P k) → P i → (k : ℕ) → a ≤ k → k < i + 1 → P k
from_more P a i all here k h l = below_more (λ j. a ≤ j → P j) i (λ j q r. all j r q) (λ r. here) k l h

-- a period's end is at most 16 times the interval
pub end_small : (k m B : ℕ) → k ≤ 16 → k * (B / m) ≤ 16 * B
end_small k m B h = mul-le-mul h (div-le_self B m)
