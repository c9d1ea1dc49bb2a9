-- Demand 3 at a concrete history with every kind of request, completed periods, a transfer at its deadline, a withdrawal and refused
-- calls: what its definitions say there, computed; and what the theorem gives for two offers. Assumes nothing.
use Rattle.std.specs.Prelude.{◌≡◌, refl, true, List, [], ◌∷◌, ◌++◌, map, ℕ, length, get_or, replicate}
use Rattle.spec_lists.specs.Lists.{same_list}
use Rattle.spec_model.specs.Frames.{room_in}
use Rattle.spec_model.specs.Names.{same, lower, name_in_range}
use Rattle.spec_model.specs.Requests.{refusal, field_checks}
use Rattle.spec_model.specs.Entries.{entry_of}
use Rattle.spec_model.specs.ByNumbers.{stream, setting, request}
use Rattle.spec_model.specs.declared.Setting.{Setting}
use Rattle.spec_rules.specs.Header.{ends_of, due_by, header_test}
use Rattle.spec_rules.specs.Share.{load_of, load, slots_for, order, take_turns, step_b, remains, weight, extra, share_among, extras_pass, step_c}
use Rattle.spec_rules.specs.Slots.{Run, jobs_from, tie_order, jobs, choose, slots_from, step_d, prepend, runs_from, step_e}
use Rattle.spec_rules.specs.Ahead.{passed, renewed, settled, step_f, goes_well, fits_ahead}
use Rattle.spec_rules.specs.Settings.{open_answer, Succeeds, frame_of, opened}
use Rattle.spec_rules.specs.Records.{plan_words, words_of_run, words_of, record_at, records_of}
use Rattle.spec_rules.specs.Calls.{offer_answer, placed, offered, held_answer, withdrawn, plan_of, advanced, beacon}
use Rattle.spec_demand.specs.Assignment.{Assignment}
use Rattle.spec_demand.specs.History.{Call, Offer, Withdraw, Beacon, Seen, answer_on, plan_on, after, history, table_after}
use Rattle.spec_demand.specs.Ledger.{Admission, Ledger, begins, note_done, note, note_all, ledger_of}
use Rattle.spec_demand.specs.Demand.{times_given, given_to, slots_of, had, answer_to, ServesAll, seen_of, seen_next}
use Rattle.law_demand.specs.Proof.{demand3}

abbrev memory : List ℕ
memory = replicate plan_words 0

abbrev unit : Setting
unit = setting 1 0

opens : Succeeds unit
unfolding open_answer refusal
opens = refl

-- one time unit; case 1 of the document, and then on
abbrev calls : List Call
calls =
    Offer (request 5 1 2 100 300 4)
    ∷ Offer (request 7 2 2 600 1000 4)
    ∷ Offer (request 9 3 1 300 0 1)
    ∷ Offer (request 5 3 1 1 0 1)
    ∷ Offer (request 70000 3 1 1 0 1)
    ∷ Offer (request 6 4 1 1 1 1)
    ∷ Beacon []
    ∷ Beacon memory
    ∷ Withdraw (stream 9)
    ∷ Beacon memory
    ∷ Offer (request 11 3 1 1000 0 1)
    ∷ Withdraw (stream 5)
    ∷ Beacon memory
    ∷ []

-- the first admission of a list
abbrev first_of : List Admission → Admission
first_of hs = get_or hs 0 (begins (request 0 0 0 0 0 0))

abbrev second_of : List Admission → Admission
second_of hs = get_or hs 1 (begins (request 0 0 0 0 0 0))

-- how many admissions last and how many have ended; what stream 7 has had in its completed period; what stream 5 has had in the first
-- period of each of its intervals; what the transfer has had
abbrev counted : Ledger → List ℕ
counted l =
    length l.held
    ∷ length l.past
    ∷ had (frame_of unit) (first_of l.held) 0 2
    ∷ slots_of (stream 5) 0 512 (get_or (first_of l.past).plans 0 [])
    ∷ slots_of (stream 5) 0 512 (get_or (first_of l.past).plans 1 [])
    ∷ had (frame_of unit) (second_of l.past) 0 1
    ∷ []

-- how often a plan gives its first slot, and one that is idle
abbrev once : List Run → List ℕ
once rs = times_given 0 rs ∷ times_given 1010 rs ∷ []

abbrev shown : List Seen → List ℕ
shown vs = map (λ (v : Seen). v.answer) vs ++ once (get_or (map (λ (v : Seen). v.plan) vs) 12 []) ++ counted (ledger_of vs)

pub example_right :
    same_list (shown (history (opened unit) calls))
    (0 ∷ 0 ∷ 0 ∷ 11 ∷ 10 ∷ 12 ∷ 30 ∷ 0 ∷ 20 ∷ 0 ∷ 17 ∷ 0 ∷ 0 ∷ 1 ∷ 0 ∷ 1 ∷ 2 ∷ 974 ∷ 100 ∷ 287 ∷ 300 ∷ []) ≡ true
unfolding refusal field_checks entry_of room_in same lower name_in_range
    ends_of due_by header_test load_of load slots_for order take_turns step_b remains weight extra share_among extras_pass step_c
    jobs_from tie_order jobs choose slots_from step_d prepend runs_from step_e
    passed renewed settled step_f goes_well fits_ahead
    frame_of opened offer_answer placed offered held_answer withdrawn words_of_run words_of record_at records_of plan_of advanced beacon
    answer_on plan_on after history note_done note note_all times_given given_to slots_of had
example_right = refl

-- ---- what the theorem gives for an offer, where the document's case 4 has it: with 748 slots there is an assignment, with 749 none
abbrev calls4 : List Call
calls4 = Offer (request 5 1 2 100 300 4) ∷ Offer (request 7 2 2 600 1000 4) ∷ Offer (request 9 3 1 300 0 1) ∷ []

answers4 : (answer_to (seen_next unit calls4) (request 11 3 2 748 0 2) ≡ 0) × (answer_to (seen_next unit calls4) (request 11 3 2 749 0 2) ≡ 17)
unfolding refusal field_checks entry_of room_in same lower name_in_range ends_of due_by header_test load_of load slots_for order take_turns step_b
    passed renewed settled step_f goes_well fits_ahead frame_of opened offer_answer placed offered answer_on after table_after
answers4 = (refl, refl)

pub some_assignment : (a : Assignment) × ServesAll (frame_of unit) (seen_of unit calls4) (request 11 3 2 748 0 2) a
some_assignment = (demand3 unit opens calls4).accepted (request 11 3 2 748 0 2) answers4.0

pub no_assignment : (a : Assignment) → ServesAll (frame_of unit) (seen_of unit calls4) (request 11 3 2 749 0 2) a → ⊥
no_assignment = (demand3 unit opens calls4).refused (request 11 3 2 749 0 2) answers4.1
