use Rattle.std.proofs.Common.{arith}
use Rattle.ahead_serve.proofs.Paying.{paying_due, paying_later}
use Rattle.ahead_serve.proofs.pay_due.Goals as goal
use Rattle.ahead_serve.proofs.pay_due.Goals.{then-f-at, else-f-at}

pub loop-f-preserved : goal.loop-f-preserved
loop-f-preserved c =
    elim c.if-f-at.branch [
      | then-f-at w ↦ rw (w.due-is, w.f-items-is) (paying_due c.loop-f.invariant (omega arith) _ w.if-f-at.true (omega arith))
      | else-f-at w ↦ rw (w.due-is, w.f-items-is) (paying_later c.loop-f.invariant (omega arith) _ w.if-f-at.false)
    ]
