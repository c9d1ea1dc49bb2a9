-- How much an answer prints: its rows fit into the memory of one answer. Assumes nothing.
use Rattle.std.specs.Prelude.{refl, Some, None, ◌*◌, ◌≤◌, length}
use Rattle.std.proofs.Common.{arith, length-append}
use Rattle.spec_rules.specs.Settings.{open_answer}
use Rattle.spec_rules.specs.Records.{most_records}
use Rattle.spec_rules.specs.Calls.{offer_answer, held_answer, plan_of}
use Rattle.spec_model.specs.Numbers.{other_form_number}
use Rattle.law_interval.proofs.Plan.{plan_right}
use Rattle.spec_shelf.specs.Commands.{open_verb, offer_verb, withdraw_verb, beacon_verb}
use Rattle.spec_shelf.specs.declared.Command.{Command}
use Rattle.spec_shelf.specs.declared.Command.TheVariants.{Open, Offer, Withdraw, Beacon, OtherForm}
use Rattle.spec_shelf.specs.Printed.{slot_row_most}
use Rattle.row_print.specs.PrintedLaws.{plain_row_most, stream_row_most, slot_rows_most}
use Rattle.spec_shelf.specs.Meaning.{State, answer_with, row_verb, plan_rows, rows_for}
use Rattle.spec_shelf.specs.Room.{answer_most, Ready}

plan_most : (s : State) → Ready s → length (plan_rows s) ≤ slot_row_most * most_records
plan_most None r = omega arith
plan_most (Some t) r = omega (arith, (plan_right t (r t refl)).few, slot_rows_most (plan_of t))

pub rows_most : (s : State) (c : Command) → Ready s → length (rows_for s c) ≤ answer_most
unfolding rows_for
rows_most s (Open o) r = let h = plain_row_most open_verb (open_answer o) in omega arith
rows_most s (Offer q) r = let h = stream_row_most offer_verb (answer_with s (λ t. offer_answer t q)) q.name in omega arith
rows_most s (Withdraw n) r = let h = stream_row_most withdraw_verb (answer_with s (λ t. held_answer t n)) n in omega arith
rows_most s Beacon r =
    let h = plain_row_most beacon_verb (answer_with s (λ t. 0)) in
    let k = plan_most s r in
    simp length-append (omega arith)
rows_most s OtherForm r = let h = plain_row_most row_verb other_form_number in omega arith
