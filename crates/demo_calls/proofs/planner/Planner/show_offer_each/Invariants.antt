-- What the offers so far leave; none is past the last. Assumes nothing.
use Rattle.std.proofs.Common.{◌≡◌, ◌-◌, ◌≤◌, fold}
use Rattle.spec_rules.specs.Calls.{offered}
use Rattle.demo_calls.specs.Asked.{asked_each}
use Rattle.demo_calls.proofs.planner.Planner.show_offer_each.Given as goal

abbrev pub invariant-loop-stream : goal.invariant-loop-stream
invariant-loop-stream g l =
    let n = l.stream - l.q.name.stream in
    record { within : n ≤ l.end - l.q.name.stream; left : l.self ≡ fold offered l.initial.self (asked_each l.q n) }
