-- `shelf_rows::serve_rows` meets its contract. Assumes nothing.
use Rattle.std.proofs.Common.{arith}
use Rattle.shelf_state.specs.Parts.{done_none}
use Rattle.shelf_rows.proofs.Turns.{some, less, goes_on, answered}
use Rattle.shelf_rows.proofs.serve_rows.Goals as goal

pub loop-taken-init : goal.loop-taken-init
loop-taken-init c =
    record { done = done_none c.args.s _ _ _; formed = c.requires.ready; inside = omega arith; room = omega arith }

pub overflow_add-taken : goal.overflow_add-taken
overflow_add-taken c = let n = some c.loop-taken.invariant c.cut_row-cut.ensures c.loop-taken-test.true in omega (arith, n.0)

pub loop-taken-smaller-in-Some : goal.loop-taken-smaller-in-Some
loop-taken-smaller-in-Some c = less c.loop-taken.invariant c.cut_row-cut.ensures c.loop-taken-test.true

pub loop-taken-preserved-in-Some : goal.loop-taken-preserved-in-Some
loop-taken-preserved-in-Some c =
    let a = c.answer-next.ensures in
    answered c.loop-taken.invariant c.cut_row-cut.ensures c.loop-taken-test.true (omega arith) c.in-Some.is c.command_in.ensures (a.state, (a.rows.0, (a.rows.1, a.memory)))

pub loop-taken-smaller : goal.loop-taken-smaller
loop-taken-smaller c = less c.loop-taken.invariant c.cut_row-cut.ensures c.loop-taken-test.true

pub loop-taken-preserved : goal.loop-taken-preserved
loop-taken-preserved c = goes_on c.loop-taken.invariant c.cut_row-cut.ensures c.loop-taken-test.true c.in_default.is
