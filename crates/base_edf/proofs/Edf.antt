-- Greedy service by earliest deadline of sources that each ask a job at a time, under a capacity that varies with time:
-- where in no window the jobs ask more than its capacity, none misses its deadline, and so it stays for what is left.
-- Assumes nothing.
use Rattle.std.specs.Prelude.{◌≡◌, refl, List, ℕ, zero, suc, ◌+◌, ◌-◌, ◌≤◌, min}
use Rattle.std.proofs.Common.{sym, ap, zero-le, zero-add, suc-add, le_of_eq, arith}
use Rattle.spec_lists.specs.Lists.{sum_of, span}
use Rattle.spec_lists.specs.All.{All}
use Rattle.base_lists.specs.All.{all_map, all_of}
use Rattle.base_lists.specs.Sums.{sum_ext, sum_le, sum_add, each_in_sum, sum_tight}
use Rattle.base_edf.specs.Time.{due, due_in_lem, due_le, due_mono, due_add}
use Rattle.base_edf.specs.Edf.{Source, source, rem, left, next, later, dem, dems, Room, Greedy, NoMiss, owed, given}

-- ---- one source
-- jobs and window moved alike
pub later_shift : (l n p j s d : ℕ) → later (suc l) n p j (suc s) (suc d) ≡ later l n p j s d
later_shift l n p zero s d = refl
later_shift l n p (suc j) s d = rw suc-add (ap (λ x. due s l (due (l + p) d n) + x) (later_shift (l + p) n p j s d))

-- a window from 1 holds no more jobs than one from 0
later_anti : (l n p j d : ℕ) → later l n p j 1 d ≤ later l n p j 0 d
later_anti l n p zero d = zero-le
later_anti l n p (suc j) d = omega (arith, later_anti (l + p) n p j d, due_le 1 l (due (l + p) d n))

-- a window from now holds the current job and what a window from 1 holds
dem_now : (a : Source) (d : ℕ) → due (left a) d (rem a) + dem a 1 d ≤ dem a 0 d
dem_now (source r l n p j) d = omega (arith, later_anti l n p j d)

-- after a step a window from the new now holds what is still owed and the later jobs
next_now : (a : Source) (g d : ℕ) → dem (next a g) 0 d ≤ due (left a) (suc d) (rem a - g) + dem a 1 (suc d)
next_now (source r zero n p j) g d = zero-le
next_now (source r (suc zero) n p zero) g d = zero-le
next_now (source r (suc zero) n p (suc j)) g d = rw (suc-add, zero-add) (omega (arith, later_shift p n p j 0 d))
next_now (source r (suc (suc l)) n p j) g d = omega (arith, later_shift (suc l) n p j 0 d)

-- after a step a later window holds what it held
next_later : (a : Source) (g s d : ℕ) → dem (next a g) (suc s) d ≤ dem a (suc (suc s)) (suc d)
next_later (source r zero n p j) g s d = zero-le
next_later (source r (suc zero) n p zero) g s d = zero-le
next_later (source r (suc zero) n p (suc j)) g s d = rw suc-add (rw (zero-add p) (omega (arith, later_shift p n p j (suc s) d)))
next_later (source r (suc (suc l)) n p j) g s d = le_of_eq (sym (later_shift (suc l) n p j (suc s) d))

module _ {A : Type 0} (at : A → Source) where
  abbrev still : (A → ℕ) → ℕ → A → ℕ
  still g d x = due (left (at x)) d (rem (at x) - g x)

-- ---- the service, where there is room
module _ {A : Type 0} (at : A → Source) {xs : List A} {g : A → ℕ} (c : ℕ → ℕ) (f : Greedy at xs g (c 0)) (r : Room at xs c) where
  -- the current jobs due by d and the jobs released later ask no more than there is
  now_room : (d : ℕ) → sum_of (owed at d) xs + dems at xs 1 d ≤ span c 0 d
  now_room d =
      omega (
        arith,
        r 0 d,
        sum_add (owed at d) (λ x. dem (at x) 1 d) xs,
        sum_le (λ x. owed at d x + dem (at x) 1 d) (λ x. dem (at x) 0 d) (all_of xs (λ x. dem_now (at x) d)),
      )

  -- By the deadline 1 is owed no more than the capacity, so a greedy service gives all of it, and to each what it is owed.
  pub no_miss : NoMiss at xs g
  no_miss =
      all_map (λ x t h. omega (arith, due_in_lem (left (at x)) 1 (rem (at x)) h, due_in_lem (left (at x)) 1 (g x) h))
      (sum_tight (given at g 1) (owed at 1) (all_map (λ x h. due_mono (left (at x)) 1 h) f.within)
      (omega (arith, f.first 1, now_room 1)))

  -- what is still owed after the service, of the jobs due by d, is what was owed less what they were given
  rest : (d : ℕ) → sum_of (still at g d) xs + sum_of (given at g d) xs ≤ sum_of (owed at d) xs
  rest d =
      omega (
        arith,
        sum_add (still at g d) (given at g d) xs,
        sum_le (λ x. still at g d x + given at g d x) (owed at d)
            (all_map (λ x h. rw due_add (due_mono (left (at x)) d (omega arith))) f.within),
      )

  -- There is room for what is left a unit of time later.
  -- A window from then holds what is still owed of the current jobs and the jobs released since. Either all was given that was owed
  -- by its end, and there was room for the others from 1 on; or the whole capacity was given, and there was room for all from 0 on.
  -- A window that starts later holds what it held.
  pub room_next : Room (λ x. next (at x) (g x)) xs (λ u. c (suc u))
  room_next zero d =
      omega (
        arith,
        sum_le (λ x. dem (next (at x) (g x)) 0 d) (λ x. still at g (suc d) x + dem (at x) 1 (suc d))
            (all_of xs (λ x. next_now (at x) (g x) d)),
        sum_add (still at g (suc d)) (λ x. dem (at x) 1 (suc d)) xs,
        rest (suc d),
        f.first (suc d),
        now_room (suc d),
        r 1 (suc d),
      )
  room_next (suc s) d =
      omega (
        arith,
        sum_le (λ x. dem (next (at x) (g x)) (suc s) d) (λ x. dem (at x) (suc (suc s)) (suc d))
            (all_of xs (λ x. next_later (at x) (g x) s d)),
        r (suc (suc s)) (suc d),
      )

-- in all it gives the smaller of the capacity and what is owed
pub greedy_total : {A : Type 0} (at : A → Source) {xs : List A} {g : A → ℕ} {c : ℕ} → Greedy at xs g c
    → sum_of g xs ≡ min c (sum_of (λ x. rem (at x)) xs)
greedy_total at {xs} {g} f =
    let d : ℕ = sum_of (λ x. left (at x)) xs in
    let near : All (λ x. left (at x) ≤ d) xs = each_in_sum (λ x. left (at x)) xs in
    omega (
      arith,
      f.first d,
      sum_ext (given at g d) g (all_map (λ x h. due_in_lem (left (at x)) d (g x) h) near),
      sum_ext (owed at d) (λ x. rem (at x)) (all_map (λ x h. due_in_lem (left (at x)) d (rem (at x)) h) near),
    )
