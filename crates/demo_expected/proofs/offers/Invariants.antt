-- What the offers to come answer and leave. Assumes nothing.
use Rattle.std.proofs.Common.{◌≡◌, drop}
use Rattle.demo_expected.specs.Said.{Answered, after_offers}
use Rattle.demo_expected.proofs.offers.Given as goal

abbrev pub invariant-loop-q : goal.invariant-loop-q
invariant-loop-q l =
    let left = drop l.q-index l.asked in
    record { answers : Answered l.planner left; is : after_offers l.planner left ≡ after_offers l.initial.planner l.asked }
