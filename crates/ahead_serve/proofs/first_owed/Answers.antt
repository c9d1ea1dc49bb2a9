use Rattle.std.proofs.Common.{arith}
use Rattle.ahead_serve.proofs.Searching.{turn_better, turn_paid, turn_higher, searching_nobody, searching_some}
use Rattle.ahead_serve.proofs.first_owed.Goals as goal
use Rattle.ahead_serve.proofs.first_owed.Goals.{then-f-gt0+then-f-least, else-f-gt0, else-f-gt0-via-then-f-gt0+else-f-least, else-f-gt0-via-else-f-gt0}

pub loop-i-preserved : goal.loop-i-preserved
loop-i-preserved c =
    let s = c.loop-i.invariant.1 in
    let figures = c.args.figures.now in (
      omega arith,
      elim c.if-f-gt0.branch [
        | then-f-gt0+then-f-least w ↦ rw (w.first-is, w.least-is) (turn_better figures s (omega arith) _ w.if-f-least.true w.if-f-gt0.true)
        | else-f-gt0 w ↦ rw (w.first-is, w.least-is) (elim w.else-f-gt0.branch [
          | else-f-gt0-via-then-f-gt0+else-f-least v ↦ turn_higher figures s (omega arith) _ v.if-f-least.false
          | else-f-gt0-via-else-f-gt0 v ↦ turn_paid figures s (omega arith) _ v.if-f-gt0.false
        ])
      ],
    )

pub returns-then-least : goal.returns-then-least
returns-then-least c = searching_nobody c.loop-i.invariant.1 c.requires (omega arith) c.if-least.true

pub returns : goal.returns
returns c = searching_some c.loop-i.invariant.1 c.requires (omega arith) c.if-least.false
