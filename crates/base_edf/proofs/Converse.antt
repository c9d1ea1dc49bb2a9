-- The converse of a step: where all that was given fits the capacity, nothing missed its deadline and what is left has room,
-- there was room before. So a run without a miss, until every source is gone, shows that there was room from the start.
-- Assumes nothing.
use Rattle.std.specs.Prelude.{◌≡◌, refl, List, ℕ, zero, suc, ◌+◌, ◌-◌, ◌≤◌}
use Rattle.std.proofs.Common.{ap, zero-le, zero-add, suc-add, arith}
use Rattle.spec_lists.specs.Lists.{sum_of}
use Rattle.spec_lists.specs.All.{All}
use Rattle.base_lists.specs.All.{all_map, all_zip, all_of}
use Rattle.base_lists.specs.Sums.{sum_le, sum_add, sum_zero}
use Rattle.base_edf.specs.Time.{due, due_le, due_mono, due_add}
use Rattle.base_edf.specs.Edf.{Source, source, rem, left, next, later, dem, Room, NoMiss}
use Rattle.base_edf.proofs.Edf.{later_shift}
use Rattle.base_edf.specs.Converse.{Sound}

-- ---- one source
-- a sound source stays sound, whatever it is given
pub sound_next : (a : Source) (g : ℕ) → Sound a → Sound (next a g)
sound_next (source r zero n p j) g w = (refl, refl)
sound_next (source r (suc zero) n p zero) g w = (refl, refl)
sound_next (source r (suc zero) n zero (suc j)) g w = absurd (omega arith)
sound_next (source r (suc zero) n (suc p) (suc j)) g w = w
sound_next (source r (suc (suc l)) n p j) g w = w

-- jobs that are all released after 0 ask nothing in a window that ends at 0
later_none : (l n p j s : ℕ) → later (suc l) n p j s 0 ≡ 0
later_none l n p zero s = refl
later_none l n p (suc j) s = rw suc-add (omega (arith, due_le s (suc l) 0, later_none (l + p) n p j s))

-- jobs that are all released after 0 lie in a window from 0 as in one from 1
later_late : (l n p j d : ℕ) → later (suc l) n p j 0 d ≡ later (suc l) n p j 1 d
later_late l n p zero d = refl
later_late l n p (suc j) d = rw suc-add (ap (λ x. due (suc (l + p)) d n + x) (later_late (l + p) n p j d))

-- a sound source asks nothing in a window that ends at 0
dem_none : (a : Source) (s : ℕ) → Sound a → dem a s 0 ≡ 0
dem_none (source r zero n p zero) zero w = omega arith
dem_none (source r zero n p zero) (suc s) w = refl
dem_none (source r zero n p (suc j)) s w = omega arith
dem_none (source r (suc l) n p j) zero w = omega (arith, later_none l n p j 0)
dem_none (source r (suc l) n p j) (suc s) w = later_none l n p j (suc s)

-- a later window asks no more than the same window does after the step
back_later : (a : Source) (g s d : ℕ) → Sound a → dem a (suc s) (suc d) ≤ dem (next a g) s d
back_later (source r zero n p zero) g s d w = zero-le
back_later (source r zero n p (suc j)) g s d w = omega arith
back_later (source r (suc zero) n p zero) g s d w = zero-le
back_later (source r (suc zero) n p (suc j)) g zero d w = rw suc-add (rw (zero-add p) (omega (arith, later_shift p n p j 0 d)))
back_later (source r (suc zero) n p (suc j)) g (suc s) d w = rw suc-add (rw (zero-add p) (omega (arith, later_shift p n p j (suc s) d)))
back_later (source r (suc (suc l)) n p j) g zero d w = omega (arith, later_shift (suc l) n p j 0 d)
back_later (source r (suc (suc l)) n p j) g (suc s) d w = omega (arith, later_shift (suc l) n p j (suc s) d)

-- a window from now asks no more than after the step, and what was given
back_now : (a : Source) (g d : ℕ) → Sound a → (left a ≤ 1 → rem a ≤ g) → dem a 0 (suc d) ≤ dem (next a g) 0 d + due (left a) (suc d) g
back_now (source r zero n p zero) g d w h = omega arith
back_now (source r zero n p (suc j)) g d w h = omega arith
back_now (source r (suc zero) n p zero) g d w h = omega (arith, h (omega arith))
back_now (source r (suc zero) n p (suc j)) g d w h =
    omega (arith, h (omega arith), later_late 0 n p (suc j) (suc d), back_later (source r 1 n p (suc j)) g 0 d w)
back_now (source r (suc (suc l)) n p j) g d w h =
    let m : due (suc l) d r ≤ due (suc l) d ((r - g) + g) = due_mono (suc l) d (omega arith) in
    omega (arith, later_late (suc l) n p j (suc d), later_shift (suc l) n p j 0 d, due_add (suc l) d (r - g) g)

-- ---- a list
-- A window that ends at 0 asks nothing. One from now asks at most what it asks after the step, which has room, and what was given,
-- which fits the capacity of now. A later one asks at most what it asks after the step.
pub room_back :
    {A : Type 0} (at : A → Source) {xs : List A} {g : A → ℕ} (c : ℕ → ℕ) → All (λ x. Sound (at x)) xs → sum_of g xs ≤ c 0 → NoMiss at xs g
    → Room (λ x. next (at x) (g x)) xs (λ u. c (suc u)) → Room at xs c
room_back at c w q m r s zero = omega (arith, sum_zero (λ x. dem (at x) s 0) (all_map (λ x h. dem_none (at x) s h) w))
room_back at {xs} {g} c w q m r zero (suc d) =
    omega (
      arith,
      r 0 d,
      sum_add (λ x. dem (next (at x) (g x)) 0 d) (λ x. due (left (at x)) (suc d) (g x)) xs,
      sum_le (λ x. dem (at x) 0 (suc d)) (λ x. dem (next (at x) (g x)) 0 d + due (left (at x)) (suc d) (g x))
          (all_zip (λ x. back_now (at x) (g x) d) w m),
      sum_le (λ x. due (left (at x)) (suc d) (g x)) g (all_of xs (λ x. due_le (left (at x)) (suc d) (g x))),
    )
room_back at {g = g} c w q m r (suc s) (suc d) =
    omega (
      arith,
      r s d,
      sum_le (λ x. dem (at x) (suc s) (suc d)) (λ x. dem (next (at x) (g x)) s d) (all_map (λ x h. back_later (at x) (g x) s d h) w),
    )
