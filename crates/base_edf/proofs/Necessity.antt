-- Necessity of room: where some plan, within the capacity at every time, gives every job what it asks in its window,
-- no window asks more than its capacity.
-- Assumes nothing.
use Rattle.std.specs.Prelude.{◌≡◌, List, ℕ, zero, suc, ◌+◌, ◌*◌, ◌≤◌, ◌<◌, max}
use Rattle.std.proofs.Common.{sym, subst, zero-le, zero-add, suc-add, arith}
use Rattle.std.proofs.Math.Decide.{dec_le}
use Rattle.spec_lists.specs.Lists.{sum_of, span}
use Rattle.spec_lists.specs.All.{All}
use Rattle.base_lists.specs.All.{all_map}
use Rattle.base_lists.specs.Sums.{sum_le}
use Rattle.base_edf.specs.Time.{due, due_in_lem, due_out, due_le, span_le, span_join, span_anti, span_sum}
use Rattle.base_edf.specs.Edf.{Source, source, rem, left, gone, next, later, dem, Room}
use Rattle.base_edf.specs.Converse.{Sound}
use Rattle.base_edf.specs.Necessity.{Fed}

-- ---- what is asked in a window is given there
-- Jobs that follow one another get in a window what those of them ask that lie in it.
-- By their number. The first one lies outside and asks nothing of the window; or it lies in it, and the others lie in what comes after.
later_fed :
    (l n p j s d : ℕ) (y : ℕ → ℕ) → ((k : ℕ) → k < j → n ≤ span y (l + k * p) (l + k * p + p)) → later l n p j s d ≤ span y (max s l) d
later_fed l n p zero s d y h = zero-le
later_fed l n p (suc j) s d y h =
    let rest : later (l + p) n p j s d ≤ span y (max s (l + p)) d =
    later_fed (l + p) n p j s d y
    (λ k i. let q : l + suc k * p ≡ l + p + k * p = omega arith in
    subst (λ v. n ≤ span y v (v + p)) q (h (suc k) (omega arith))) in
    let none : l + 0 * p ≡ l = omega arith in
    let one : n ≤ span y l (l + p) = subst (λ v. n ≤ span y v (v + p)) none (h 0 (omega arith)) in
    let small : due s l (due (l + p) d n) ≤ due (l + p) d n = due_le s l (due (l + p) d n) in
    let anti : span y (max s (l + p)) d ≤ span y (max s l) d = span_anti y (max s l) (max s (l + p)) d (omega arith) in
    elim (dec_le s l) [
      | yes k ↦
          elim (dec_le (l + p) d) [
            | yes q ↦ omega (
              arith,
              due_in_lem (l + p) d n q,
              span_join y l (l + p) d (omega arith) q,
              span_anti y (l + p) (max s (l + p)) d (omega arith),
              span_anti y (max s l) l d (omega arith),
            )
            | no q ↦ omega (arith, due_out (l + p) d n (omega arith))
          ]
      | no k ↦ omega (arith, due_out s l (due (l + p) d n) (omega arith))
    ]

-- a source gets in a window what it asks of it
dem_fed : (a : Source) (s d : ℕ) (y : ℕ → ℕ) → Fed a y → dem a s d ≤ span y s d
dem_fed (source r l n p j) zero d y f =
    let more : later l n p j 0 d ≤ span y (max 0 l) d = later_fed l n p j 0 d y f.1 in
    let anti : span y (max 0 l) d ≤ span y l d = span_anti y l (max 0 l) d (omega arith) in
    elim (dec_le l d) [
      | yes q ↦ omega (arith, due_in_lem l d r q, span_join y 0 l d zero-le q)
      | no q ↦ omega (arith, due_out l d r (omega arith), span_anti y 0 l d zero-le)
    ]
dem_fed (source r l n p j) (suc s) d y f =
    omega (arith, later_fed l n p j (suc s) d y f.1, span_anti y (suc s) (max (suc s) l) d (omega arith))

-- where each is fed and all of it fits the capacity, there is room: y x t is what x gets in t
pub fed_room : {A : Type 0} (at : A → Source) {xs : List A} (y : A → ℕ → ℕ) (c : ℕ → ℕ) → ((t : ℕ) → sum_of (λ x. y x t) xs ≤ c t)
    → All (λ x. Fed (at x) (y x)) xs → Room at xs c
fed_room at {xs} y c q f s d =
    omega (
      arith,
      span_sum y xs s d,
      span_le (λ t. sum_of (λ x. y x t) xs) c s d q,
      sum_le (λ x. dem (at x) s d) (λ x. span (y x) s d) (all_map (λ x h. dem_fed (at x) s d (y x) h) f),
    )

-- ---- one step at a time
-- a source with no job is fed
pub fed_gone : (y : ℕ → ℕ) → Fed gone y
fed_gone y = (zero-le, λ k l. absurd (omega arith))

-- a window of length p that starts at s is the window that starts at s', a unit of time earlier, of what comes from 1 on
shifted : (y : ℕ → ℕ) (n p s s' : ℕ) → s ≡ suc s' → n ≤ span (λ t. y (suc t)) s' (s' + p) → n ≤ span y s (s + p)
shifted y n p s s' e h = subst (λ v. n ≤ span y v (v + p)) (sym e) (rw suc-add h)

-- A source is fed that gets g now, does not miss its deadline by that, and is fed from then on.
-- The current job has g and what it gets after; each later job has its window one unit of time earlier.
pub fed_step : (a : Source) (y : ℕ → ℕ) (g : ℕ) → Sound a → g ≤ y 0 → (left a ≤ 1 → rem a ≤ g)
    → Fed (next a g) (λ t. y (suc t)) → Fed a y
fed_step (source r zero n p zero) y g w q m h = (omega (arith, w.0), λ k i. absurd (omega arith))
fed_step (source r zero n p (suc j)) y g w q m h = absurd (omega (arith, w.1))
fed_step (source r (suc zero) n p zero) y g w q m h = (omega (arith, m (omega arith)), λ k i. absurd (omega arith))
fed_step (source r (suc zero) n p (suc j)) y g w q m h = (omega (arith, m (omega arith)), each)
  where
    each : (k : ℕ) → k < suc j → n ≤ span y (1 + k * p) (1 + k * p + p)
    each zero i = shifted y n p (1 + 0 * p) 0 (omega arith) (rw zero-add h.0)
    each (suc k) i = shifted y n p (1 + suc k * p) (p + k * p) (omega arith) (h.1 k (omega arith))
fed_step (source r (suc (suc l)) n p j) y g w q m h =
    (omega (arith, h.0), λ k i. shifted y n p (suc (suc l) + k * p) (suc l + k * p) (omega arith) (h.1 k i))
