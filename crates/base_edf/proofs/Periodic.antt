-- Periodic sources that all begin at once, with shares of the time that add up to no more than the whole: at one slot
-- to a unit of time there is room. And what a single job asks that waits for its release.
-- Assumes nothing.
use Rattle.std.specs.Prelude.{◌≡◌, List, ℕ, zero, suc, ◌+◌, ◌*◌, ◌-◌, ◌≤◌, max}
use Rattle.std.proofs.Common.{ap, ◌∙◌, zero-add, mul-add, mul-le-mul_left, arith}
use Rattle.std.proofs.Math.Nat.{le_of_mul-le-mul_left}
use Rattle.std.proofs.Math.Decide.{dec_le}
use Rattle.spec_lists.specs.Lists.{sum_of}
use Rattle.spec_lists.specs.All.{All}
use Rattle.base_lists.specs.All.{all_map}
use Rattle.base_lists.specs.Sums.{sum_le, sum_times}
use Rattle.base_edf.specs.Time.{due, due_in_lem, due_out, due_le, span_ones}
use Rattle.base_edf.specs.Edf.{source, later, dem, Room}

-- Jobs of length p that each ask n ask at most the share n / p of a window.
-- By the number of jobs: the first one lies in the window, and takes p of its length, or asks nothing of it.
later_share : (l n p j s d : ℕ) → later l n p j s d * p ≤ n * (d - max s l)
later_share l n p zero s d = omega arith
later_share l n p (suc j) s d =
    let first : ℕ = due s l (due (l + p) d n) in
    let rest : later (l + p) n p j s d * p ≤ n * (d - max s (l + p)) = later_share (l + p) n p j s d in
    let anti : n * (d - max s (l + p)) ≤ n * (d - max s l) = mul-le-mul_left n (omega arith) in
    elim (dec_le s l) [
      | yes k ↦
          elim (dec_le (l + p) d) [
            | yes q ↦
                let w : d - max s l ≡ p + (d - max s (l + p)) = omega arith in
                let z : first ≡ n = due_in_lem s l (due (l + p) d n) k ∙ due_in_lem (l + p) d n q in
                omega (arith, ap (λ v. n * v) w ∙ mul-add n p (d - max s (l + p)), ap (λ v. v * p) z)
            | no q ↦
                let z : first ≡ 0 = omega (arith, due_le s l (due (l + p) d n), due_out (l + p) d n (omega arith)) in
                omega (arith, ap (λ v. v * p) z)
          ]
      | no k ↦ omega (arith, ap (λ v. v * p) (due_out s l (due (l + p) d n) (omega arith)))
    ]

-- so does a source of such jobs of which the first begins at 0
dem_share : (n p j s d : ℕ) → dem (source n p n p j) s d * p ≤ n * (d - s)
dem_share n p j zero d = rw (zero-add p) at (later_share 0 n p (suc j) 0 d)
dem_share n p j (suc s) d =
    let m : n * (d - max (suc s) p) ≤ n * (d - suc s) = mul-le-mul_left n (omega arith) in
    omega (arith, later_share p n p j (suc s) d)

-- x has m x jobs of length p x in b, each of which asks u x, and as many jobs in all as it likes.
-- Of a window x asks at most the part u x / p x, which is m x u x / b, and these parts add up to at most the whole.
pub periodic_room :
    {A : Type 0} (u p m j : A → ℕ) (b : ℕ) (xs : List A) → 1 ≤ b → All (λ x. p x * m x ≡ b) xs → sum_of (λ x. m x * u x) xs ≤ b
    → Room (λ x. source (u x) (p x) (u x) (p x) (j x)) xs (λ t. 1)
periodic_room {A} u p m j b xs h e q s d =
    let all : b * sum_of asks xs ≤ b * (d - s) =
    omega (
      arith,
      sum_times b asks xs,
      sum_times (d - s) (λ x. m x * u x) xs,
      sum_le (λ x. b * asks x) (λ x. (d - s) * (m x * u x)) (all_map one e),
      mul-le-mul_left (d - s) q,
    ) in
    omega (arith, le_of_mul-le-mul_left all h, span_ones s d)
  where
    asks : A → ℕ
    asks x = dem (source (u x) (p x) (u x) (p x) (j x)) s d

    one : (x : A) → p x * m x ≡ b → b * asks x ≤ (d - s) * (m x * u x)
    one x w = omega (arith, ap (λ v. v * asks x) w, mul-le-mul_left (m x) (dem_share (u x) (p x) (j x) s d))

-- a job of length p that asks u and is released at l
pub waiting_dem : (u l p s d : ℕ) → dem (source 0 l u p 1) s d ≡ due s l (due (l + p) d u)
waiting_dem u l p zero d = omega (arith, due_le l d 0)
waiting_dem u l p (suc s) d = omega arith
