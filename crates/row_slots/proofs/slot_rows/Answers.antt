-- `row_slots::slot_rows` meets its contract. The invariant: to write the rows that are left gives what all of them give.
-- Assumes nothing.
use mathlib.Core.Path.{refl, ap}
use native.Mathlib.Omega.{arith}
use Rattle.plan_record.specs.Recorded.{run_of}
use Rattle.spec_shelf.specs.Printed.{slot_row_of}
use Rattle.row_write.specs.BytesLaws.{wrote, wrote_rest, wrote_all}
use Rattle.row_print.specs.PrintedLaws.{slot_row_most_lem}
use Rattle.row_slots.specs.RowLaws.{rows_begin, rows_next, rows_end}
use Rattle.row_slots.proofs.slot_rows.Goals as goal

pub loop-n-init : goal.loop-n-init
loop-n-init c = ((omega arith, omega arith, refl), rw (rows_begin _ _) (record { place = refl; memory = refl }))

pub loop-n-preserved : goal.loop-n-preserved
loop-n-preserved c =
    let plan = c.args.plan.now in
    let row = ap slot_row_of c.read_record-r.ensures in
    let left = rw (rows_next plan c.args.count c.loop-n.n (omega arith), ← row) at c.loop-n.invariant.1 in
    let room = slot_row_most_lem (run_of c.read_record-r.result) in
    ((omega arith, omega arith, omega arith), wrote_rest left (wrote c.slot_row-end.ensures))

pub returns : goal.returns
returns c = wrote_all (rw (rows_end c.args.plan.now c.args.count c.loop-n.n (omega arith)) at c.loop-n.invariant.1)
