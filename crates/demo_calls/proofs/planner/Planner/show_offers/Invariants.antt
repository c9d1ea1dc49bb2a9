-- What the offers so far leave. Assumes nothing.
use Rattle.std.proofs.Common.{◌≡◌, fold, take}
use Rattle.spec_rules.specs.Calls.{offered}
use Rattle.demo_calls.proofs.planner.Planner.show_offers.Given as goal

abbrev pub invariant-loop-q : goal.invariant-loop-q
invariant-loop-q g l = l.self ≡ fold offered l.initial.self (take l.q-index l.asked)
