-- The ends that the window finds are the place of its part.
use Rattle.std.proofs.Common.{◌≡◌, ◌∙◌, length, arith}
use Rattle.spec_rules.specs.Reading.{window_part}
use Rattle.plan_window.specs.Ends.{bounds_within}
use Rattle.gelmush.specs.Place.{part_words, earlier_words, first_words, place_part}
use Rattle.gelmush.proofs.gelmush_window.Goals as goal
use Rattle.gelmush.proofs.gelmush_window.Goals.{then-until-from, else-until-from}

pub overflow_mul-first : goal.overflow_mul-first
overflow_mul-first c = record { fits = omega (arith, bounds_within _ _ _ _ (c.unwrap_or-b.ensures ∙ c.bounds_of-bounds.ensures.0)) }

pub overflow_mul-first-then-until-from : goal.overflow_mul-first-then-until-from
overflow_mul-first-then-until-from c =
    record { fits = omega (arith, bounds_within _ _ _ _ (c.unwrap_or-earlier.ensures ∙ c.bounds_of-bounds-then-until-from.ensures.0)) }

pub overflow_sub-words : goal.overflow_sub-words
overflow_sub-words c = (bounds_within _ _ _ _ (c.unwrap_or-b.ensures ∙ c.bounds_of-bounds.ensures.0)).0

pub overflow_mul-words : goal.overflow_mul-words
overflow_mul-words c = record { fits = omega (arith, bounds_within _ _ _ _ (c.unwrap_or-b.ensures ∙ c.bounds_of-bounds.ensures.0)) }

pub returns : goal.returns
returns c =
    let e = c.unwrap_or-b.ensures ∙ c.bounds_of-bounds.ensures.0 in
    let words = part_words _ _ _ _ e in
    let first : c.if-until-from.first ≡ length (window_part c.args.plan.now c.args.count 0 c.args.from) =
    elim c.if-until-from.branch [
      | then-until-from w ↦ w.first-is ∙ earlier_words _ _ _ (w.unwrap_or-earlier.ensures ∙ w.bounds_of-bounds-then-until-from.ensures.0)
      | else-until-from w ↦ w.first-is ∙ first_words _ _ _ _ e w.if-until-from.false
    ]
    in
    (rw (first, words) (place_part _ _ _ _), first, words, c.answer_number.ensures.number ∙ c.bounds_of-bounds.ensures.1)
