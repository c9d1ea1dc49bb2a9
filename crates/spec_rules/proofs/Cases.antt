-- Each ask of the worked cases answers and shows what they say: one theorem. Assumes nothing.
use Rattle.std.specs.Prelude.{◌≡◌, refl, true}
use Rattle.spec_model.specs.Requests.{refusal, field_checks}
use Rattle.spec_model.specs.Frames.{room_in}
use Rattle.spec_model.specs.Names.{same, lower, name_in_range}
use Rattle.spec_model.specs.Entries.{entry_of}
use Rattle.spec_rules.specs.Share.{load_of, load, slots_for, order, take_turns, step_b, remains, weight, extra, share_among, extras_pass, step_c}
use Rattle.spec_rules.specs.Header.{ends_of, due_by, header_test}
use Rattle.spec_rules.specs.Slots.{jobs_from, tie_order, jobs, choose, slots_from, step_d, prepend, runs_from, step_e}
use Rattle.spec_rules.specs.Ahead.{passed, renewed, settled, step_f, goes_well, fits_ahead}
use Rattle.spec_rules.specs.Settings.{open_answer, frame_of, opened}
use Rattle.spec_rules.specs.Records.{words_of_run, record_at, words_of, records_of}
use Rattle.spec_rules.specs.Calls.{offer_answer, placed, offered, held_answer, withdrawn, plan_of, advanced, beacon}
use Rattle.spec_rules.specs.Reading.{starts_of, rises, before, window_answer, window_part}
use Rattle.spec_rules.specs.Cases.{plays, cases, start}

pub cases_right : plays start cases ≡ true
unfolding refusal field_checks entry_of room_in same lower name_in_range
    ends_of due_by header_test load_of load slots_for order take_turns step_b remains weight extra share_among extras_pass step_c
    jobs_from tie_order jobs choose slots_from step_d prepend runs_from step_e
    passed renewed settled step_f goes_well fits_ahead
    open_answer frame_of opened offer_answer placed offered held_answer withdrawn words_of_run words_of record_at records_of plan_of advanced beacon
    starts_of rises before window_answer window_part
cases_right = refl
