-- `shelf_beacon::answer_beacon` meets its contract, with a table and without. Assumes nothing.
use Rattle.std.proofs.Common.{◌∙◌, ap, append-nil, arith}
use Rattle.spec_shelf.specs.Commands.{beacon_verb}
use Rattle.row_print.specs.PrintedLaws.{wrote, wrote_then, contract, plain_row_most}
use Rattle.spec_shelf.specs.Meaning.{with_table, state_after, plan_after, rows_for}
use Rattle.call_answers.specs.Refused.{beacon_refused, succeeds}
use Rattle.shelf_beacon.specs.Beacons.{made}
use Rattle.shelf_beacon.specs.Moved.{movable, moved_on, stayed}
use Rattle.shelf_beacon.proofs.answer_beacon.Goals as goal
use Rattle.shelf_beacon.proofs.answer_beacon.Goals.{then-p-gt0, else-p-gt0}

-- ---- where there is no table
pub returns-in_default-clause-state : goal.returns-in_default-clause-state
unfolding state_after
returns-in_default-clause-state c = rw c.in_default.is

pub returns-in_default-clause-rows : goal.returns-in_default-clause-rows
unfolding rows_for
returns-in_default-clause-rows c = rw (c.in_default.is, append-nil) c.plain_row.ensures

pub returns-in_default-clause-memory : goal.returns-in_default-clause-memory
unfolding plan_after
returns-in_default-clause-memory c = rw c.in_default.is

-- ---- on a table, by what the plan's call has given
pub plan_interval-requires : goal.plan_interval-requires
plan_interval-requires c = c.requires.ready _ c.in-Some.is

pub unwrap-p-requires : goal.unwrap-p-requires
unwrap-p-requires c = succeeds beacon_refused _ (made (c.requires.ready _ c.in-Some.is) c.requires.plan_words_in_bounds c.plan_interval.ensures).accepted

pub advance-requires : goal.advance-requires
advance-requires c = movable (made (c.requires.ready _ c.in-Some.is) c.requires.plan_words_in_bounds (rw c.unwrap-p.ensures at c.plan_interval.ensures)).after c.if-p-gt0.true

pub slot_rows-requires : goal.slot_rows-requires
slot_rows-requires c =
    let m = made (c.requires.ready _ c.in-Some.is) c.requires.plan_words_in_bounds (rw c.unwrap-p.ensures at c.plan_interval.ensures) in
    let r = c.plain_row-after_call.ensures in
    let l = plain_row_most beacon_verb 0 in
    record { count_in_bounds = omega (arith, m.few); count_in_bounds_2 = omega (arith, m.few, r.0) }

pub returns-clause-state : goal.returns-clause-state
unfolding state_after
returns-clause-state c =
    let m = made (c.requires.ready _ c.in-Some.is) c.requires.plan_words_in_bounds (rw c.unwrap-p.ensures at c.plan_interval.ensures) in
    rw c.in-Some.is (elim c.if-p-gt0.branch [
      | then-p-gt0 w ↦ w.table-is ∙ ap with_table (moved_on m.after w.if-p-gt0.true w.advance.ensures)
      | else-p-gt0 w ↦ let same = ap with_table (stayed m.after (omega arith)) in cc (w.table-is, same)
    ])

pub returns-clause-rows : goal.returns-clause-rows
unfolding rows_for
returns-clause-rows c =
    let m = made (c.requires.ready _ c.in-Some.is) c.requires.plan_words_in_bounds (rw c.unwrap-p.ensures at c.plan_interval.ensures) in
    rw (c.in-Some.is, ← m.rows) (contract (wrote_then (wrote c.plain_row-after_call.ensures) (wrote c.slot_rows.ensures)))

pub returns-clause-memory : goal.returns-clause-memory
unfolding plan_after
returns-clause-memory c =
    let m = made (c.requires.ready _ c.in-Some.is) c.requires.plan_words_in_bounds (rw c.unwrap-p.ensures at c.plan_interval.ensures) in
    rw c.in-Some.is m.memory
