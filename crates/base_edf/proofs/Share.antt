-- Sharing L in proportion to weights: the shares, rounded down, take no more than L.
-- Assumes nothing.
use Rattle.std.specs.Prelude.{List, ℕ, ◌*◌, ◌/◌, ◌≤◌}
use Rattle.std.proofs.Math.Nat.{mul-div-le, le_of_mul-le-mul_left}
use Rattle.std.proofs.Common.{mul-le-mul_left, arith}
use Rattle.spec_lists.specs.Lists.{sum_of}
use Rattle.base_lists.specs.All.{all_of}
use Rattle.base_lists.specs.Sums.{sum_le, sum_times}

-- The m x jobs of x each get d x L / W, with W the sum of the m x d x.
-- Times W each takes at most L m x d x, so all take at most L W.
pub shares_fit : {A : Type 0} (m d : A → ℕ) (L : ℕ) (xs : List A) → 1 ≤ sum_of (λ x. m x * d x) xs
    → sum_of (λ x. m x * (d x * L / sum_of (λ x. m x * d x) xs)) xs ≤ L
shares_fit {A} m d L xs h =
    let W : ℕ = sum_of (λ x. m x * d x) xs in
    let one : (x : A) → W * (m x * (d x * L / W)) ≤ L * (m x * d x) =
    λ x. omega (arith, mul-le-mul_left (m x) (mul-div-le (d x * L) W)) in
    let all : W * sum_of (λ x. m x * (d x * L / W)) xs ≤ W * L =
    omega (
      arith,
      sum_times W (λ x. m x * (d x * L / W)) xs,
      sum_times L (λ x. m x * d x) xs,
      sum_le (λ x. W * (m x * (d x * L / W))) (λ x. L * (m x * d x)) (all_of xs one),
    ) in
    le_of_mul-le-mul_left all h
