-- Services that are greedy by earliest deadline: one that has nothing to do; the slot that goes to a job due first;
-- and those that, in the order of their deadlines, each take what they can of what is left.
-- Assumes nothing.
use Rattle.std.specs.Prelude.{◌≡◌, List, ℕ, ◌+◌, ◌-◌, ◌≤◌, ◌<◌, min}
use Rattle.std.proofs.Math.Decide.{dec_le}
use Rattle.std.proofs.Common.{arith}
use Rattle.spec_lists.specs.Lists.{sum_of}
use Rattle.spec_lists.specs.All.{All, stop, and}
use Rattle.base_lists.specs.All.{all_map}
use Rattle.base_lists.specs.Sums.{sum_zero}
use Rattle.base_lists.specs.Picked.{Picked, picked_all, picked_sum, picked_only}
use Rattle.base_edf.specs.Time.{due_in_lem, due_out, due_zero}
use Rattle.base_edf.specs.Edf.{Source, rem, left, Greedy, owed, given}
use Rattle.base_edf.specs.Greedy.{Rising, flat, rise, Takes, none, take}

module _ {A : Type 0} (at : A → Source) {xs : List A} {g : A → ℕ} where
  -- nothing is owed, and nothing given
  pub idle_greedy : {c : ℕ} → All (λ x. rem (at x) ≡ 0) xs → All (λ x. g x ≡ 0) xs → Greedy at xs g c
  idle_greedy r h =
      record {
        within = all_map (λ x e. omega arith) h;
        first = λ d. omega (
          arith,
          sum_zero (given at g d) (all_map (λ x e. due_zero (left (at x)) d (g x) e) h),
          sum_zero (owed at d) (all_map (λ x e. due_zero (left (at x)) d (rem (at x)) e) r),
        );
      }

  -- One slot, to k, which has something owed and of all such the nearest deadline.
  -- If k is due within d, the slot is given and there was one to give; if not, nothing is owed by d: all of it is due later.
  pub slot_greedy : {k : A} {ys : List A} → Picked k xs ys → 1 ≤ rem (at k) → All (λ x. 1 ≤ rem (at x) → left (at k) ≤ left (at x)) ys
      → g k ≡ 1 → All (λ x. g x ≡ 0) ys → Greedy at xs g 1
  slot_greedy {k} {ys} pick o near one others =
      record { within = picked_all pick (omega arith) (all_map (λ x e. omega arith) others); first = by }
    where
      -- before k is due, nothing is due that is owed
      late : (d : ℕ) → d < left (at k) → (x : A) → (1 ≤ rem (at x) → left (at k) ≤ left (at x)) → owed at d x ≡ 0
      late d q x h =
          elim (dec_le 1 (rem (at x))) [
            | yes w ↦ due_out (left (at x)) d (rem (at x)) (omega (arith, h w))
            | no w ↦ due_zero (left (at x)) d (rem (at x)) (omega arith)
          ]

      -- by d is given what is owed by d, or the slot
      by : (d : ℕ) → sum_of (given at g d) xs ≡ min 1 (sum_of (owed at d) xs)
      by d =
          let u : sum_of (given at g d) xs ≡ given at g d k =
          picked_only (given at g d) pick (all_map (λ x e. due_zero (left (at x)) d (g x) e) others) in
          let v : sum_of (owed at d) xs ≡ owed at d k + sum_of (owed at d) ys = picked_sum (owed at d) pick in
          elim (dec_le (left (at k)) d) [
            | yes q ↦ omega (arith, due_in_lem (left (at k)) d (g k) q, due_in_lem (left (at k)) d (rem (at k)) q)
            | no q ↦ omega (
              arith,
              due_out (left (at k)) d (g k) (omega arith),
              due_out (left (at k)) d (rem (at k)) (omega arith),
              sum_zero (owed at d) (all_map (late d (omega arith)) near),
            )
          ]

module _ {A : Type 0} (at : A → Source) {g : A → ℕ} where
  -- nobody takes more than it is owed
  takes_within : {c : ℕ} {xs : List A} → Takes at g c xs → All (λ x. g x ≤ rem (at x)) xs
  takes_within none = stop
  takes_within (take {x = x} e t) = and {x = x} (omega arith) (takes_within t)

  -- Those due within d take all that they are owed, or all there is.
  -- If the first is due within d, it takes its part and the others share what is left; if not, none of them is due within d.
  takes_first : (d : ℕ) {c : ℕ} {xs : List A} → Rising at xs → Takes at g c xs
      → sum_of (given at g d) xs ≡ min c (sum_of (owed at d) xs)
  takes_first d flat none = omega arith
  takes_first d {c = c} (rise {x = x} h r) (take e t) =
      elim (dec_le (left (at x)) d) [
        | yes q ↦ omega (arith, due_in_lem (left (at x)) d (g x) q, due_in_lem (left (at x)) d (rem (at x)) q, takes_first d {c = c - g x} r t)
        | no q ↦ omega (
          arith,
          takes_first d {c = c - g x} r t,
          due_out (left (at x)) d (g x) (omega arith),
          due_out (left (at x)) d (rem (at x)) (omega arith),
          sum_zero (owed at d) (all_map (λ y l. due_out (left (at y)) d (rem (at y)) (omega arith)) h),
        )
      ]

  -- in the order of the deadlines, each takes what it can of what is left: that is greedy
  pub order_greedy : {c : ℕ} {xs : List A} → Rising at xs → Takes at g c xs → Greedy at xs g c
  order_greedy r t = record { within = takes_within t; first = λ d. takes_first d r t }
