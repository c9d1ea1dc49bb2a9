-- The verb of a row, and what it asks for with its numbers. Document 01, "Reading, lending, printing". Assumes nothing.
use Rattle.std.specs.Prelude.{ℕ, cond, List, Option, Some, None}
use Rattle.spec_lists.specs.Lists.{same_list}
use Rattle.spec_text.specs.declared.Field.{Field}
use Rattle.spec_shelf.specs.Commands.{open_verb, offer_verb, withdraw_verb, beacon_verb}
use Rattle.spec_shelf.specs.Commands.{open_form, offer_form, withdraw_form, beacon_form, setting_from, name_from, request_from}
use Rattle.spec_shelf.specs.declared.Command.{Command}
use Rattle.spec_shelf.specs.declared.Command.TheVariants.{Open, Offer, Withdraw, Beacon}
use Rattle.row_command.specs.declared.Verb.{Verb}
use Rattle.row_command.specs.declared.Verb.TheVariants as verb

-- the verb of a first field, where it is one
unfoldable pub verb_of : List ℕ → Option Verb
verb_of v =
    cond (same_list v open_verb) (Some verb.Open)
    (cond (same_list v offer_verb) (Some verb.Offer)
    (cond (same_list v withdraw_verb) (Some verb.Withdraw)
    (cond (same_list v beacon_verb) (Some verb.Beacon) None)))

-- what it asks of the fields after it
abbrev pub form_of : Verb → List Field
form_of verb.Open = open_form
form_of verb.Offer = offer_form
form_of verb.Withdraw = withdraw_form
form_of verb.Beacon = beacon_form

-- the verb with its numbers
abbrev pub asked : Verb → List ℕ → Command
asked verb.Open ns = Open (setting_from ns)
asked verb.Offer ns = Offer (request_from ns)
asked verb.Withdraw ns = Withdraw (name_from ns)
asked verb.Beacon ns = Beacon
