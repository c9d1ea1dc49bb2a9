-- What the program does: the rows that it prints for each row that it reads, and the table between two rows. Document 01, "Reading,
-- lending, printing", and refusals 50 and 51 of "Where each refusal is checked". Assumes nothing.
use Rattle.std.specs.Prelude.{ℕ, cond, Option, Some, None, List, [], ◌∷◌, ◌++◌, map, eqb}
use Rattle.std.specs.Option.{option_map, unwrap_or}
use Rattle.spec_lists.specs.Lists.{concat_map}
use Rattle.spec_model.specs.declared.Table.{Table}
use Rattle.spec_rules.specs.Settings.{open_answer, opened}
use Rattle.spec_rules.specs.Calls.{offer_answer, offered, held_answer, withdrawn, plan_of, advanced, beacon}
use Rattle.spec_model.specs.Numbers.{other_form_number, no_table_number}
use Rattle.spec_text.specs.Rows.{rows_of}
use Rattle.spec_shelf.specs.Commands.{open_verb, offer_verb, withdraw_verb, beacon_verb, command_of}
use Rattle.spec_shelf.specs.declared.Command.{Command}
use Rattle.spec_shelf.specs.declared.Command.TheVariants.{Open, Offer, Withdraw, Beacon, OtherForm}
use Rattle.spec_shelf.specs.Printed.{header_row, plain_row, stream_row, slot_row_of}

-- the table between two rows: before a successful `open` there is none
abbrev pub State : Type 0
State = Option Table

unfoldable pub first_state : State
first_state = None

abbrev pub with_table : Table → State
with_table t = Some t

-- 51 for every call but `open` where there is no table
abbrev pub answer_with : State → (Table → ℕ) → ℕ
answer_with s a = unwrap_or (option_map a s) no_table_number

-- ---- the state after a row
-- a later `open` replaces the table if it succeeds
unfoldable pub state_after : State → Command → State
state_after s (Open o) = cond (eqb (open_answer o) 0) (with_table (opened o)) s
state_after s (Offer q) = option_map (λ t. offered t q) s
state_after s (Withdraw n) = option_map (λ t. withdrawn t n) s
state_after s Beacon = option_map advanced s
state_after s OtherForm = s

-- the plan's memory after it
unfoldable pub plan_after : State → Command → List ℕ → List ℕ
plan_after s (Open o) ws = ws
plan_after s (Offer q) ws = ws
plan_after s (Withdraw n) ws = ws
plan_after s Beacon ws = unwrap_or (option_map (λ t. (beacon t ws).words) s) ws
plan_after s OtherForm ws = ws

-- ---- the rows that are printed for it
abbrev pub row_verb : List ℕ
row_verb = 114 ∷ 111 ∷ 119 ∷ []

abbrev pub plan_rows : State → List ℕ
plan_rows s = unwrap_or (option_map (λ t. concat_map slot_row_of (plan_of t)) s) []

unfoldable pub rows_for : State → Command → List ℕ
rows_for s (Open o) = plain_row open_verb (open_answer o)
rows_for s (Offer q) = stream_row offer_verb q.name (answer_with s (λ t. offer_answer t q))
rows_for s (Withdraw n) = stream_row withdraw_verb n (answer_with s (λ t. held_answer t n))
rows_for s Beacon = plain_row beacon_verb (answer_with s (λ t. 0)) ++ plan_rows s
rows_for s OtherForm = plain_row row_verb other_form_number

-- ---- the whole output
unfoldable pub printed : State → List Command → List ℕ
printed s [] = []
printed s (c ∷ cs) = rows_for s c ++ printed (state_after s c) cs

unfoldable pub output_of : List ℕ → List ℕ
output_of input = header_row ++ printed first_state (map command_of (rows_of input))
