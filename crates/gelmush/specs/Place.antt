-- The place of a window's part in its plan, from the ends that the window finds: as many words precede it as the window of all earlier
-- slots has. Assumes nothing.
use Rattle.std.specs.Prelude.{◌≡◌, refl, List, [], ◌∷◌, ℕ, ◌*◌, ◌-◌, ◌≤◌, length, take, drop}
use Rattle.std.proofs.Common.{sym, ap, subst, arith, length-drop, length-take-le}
use Rattle.std.proofs.Math.Decide.{ℕ_discrete}
use borrow.Author.Tests.{le-ltb}
use Rattle.base_lists.specs.Tests.{cond_zero}
use Rattle.spec_rules.specs.Records.{record_words}
use Rattle.spec_rules.specs.Reading.{before, window_answer, window_part}
use Rattle.plan_window.specs.declared.Bounds.{Bounds}
use Rattle.plan_window.specs.Laws.{window_tests, window_none}
use Rattle.plan_window.specs.Ends.{bounds_of, bounds_within, bounds_part}

pub part_words : (ws : List ℕ) (n from until : ℕ) {b : Bounds} → b ≡ bounds_of ws n from until
    → record_words * (b.end - b.first) ≡ length (window_part ws n from until)
part_words ws n from until {b} is =
    let i = record_words * b.first in
    let within = bounds_within ws n from until is in
    let all = length-take-le (record_words * b.end - i) (drop i ws) (omega (arith, length-drop i ws)) in
    omega (arith, ap length (bounds_part ws n from until is))

-- no record starts before slot 0
before_0 : (ss : List ℕ) → before 0 ss ≡ 0
unfolding before
before_0 [] = refl
before_0 (a ∷ ss) = rw (le-ltb a 0 (omega arith))

module _ (ws : List ℕ) (n from : ℕ) where
  abbrev earlier : ℕ
  earlier = length (window_part ws n 0 from)

  first_0 : (bounds_of ws n 0 from).first ≡ 0
  unfolding bounds_of
  first_0 = rw (before_0, cond_zero)

  pub earlier_words : {b : Bounds} → b ≡ bounds_of ws n 0 from → record_words * b.end ≡ earlier
  earlier_words is = omega (arith, ap (λ x. x.first) is, first_0, part_words ws n 0 from is)

  module _ (until : ℕ) where
    -- a window that is not refused for its slots has the answer of the window of all earlier ones
    earlier_answer : from ≤ until → window_answer ws n from until ≡ window_answer ws n 0 from
    unfolding window_answer
    earlier_answer h = rw (le-ltb until from h, le-ltb from 0 (omega arith))

    first_end_lem : from ≤ until → (bounds_of ws n from until).first ≡ (bounds_of ws n 0 from).end
    unfolding bounds_of
    first_end_lem h = rw (earlier_answer h)

    pub first_words : {b : Bounds} → b ≡ bounds_of ws n from until → from ≤ until → record_words * b.first ≡ earlier
    first_words is h = omega (arith, ap (λ x. x.first) is, first_end_lem h, earlier_words refl)

    pub place_part : take (length (window_part ws n from until)) (drop earlier ws) ≡ window_part ws n from until
    place_part =
        elim (ℕ_discrete (window_answer ws n from until) 0) [
          | yes e ↦
              let b = bounds_of ws n from until in
              let words : length (window_part ws n from until) ≡ record_words * b.end - record_words * b.first
              = omega (arith, part_words ws n from until refl)
              in
              rw (words, sym (first_words refl (window_tests ws n from until e).1)) (bounds_part ws n from until refl)
          | no z ↦ subst (λ l. take (length l) (drop earlier ws) ≡ l) (window_none ws n from until z) refl
        ]
