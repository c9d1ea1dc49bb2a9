-- The invariant: what is due at the first i places is summed up and paid.
use Rattle.ahead_serve.proofs.Paying.{Paying}
use Rattle.ahead_serve.proofs.pay_due.Given as goal

abbrev pub invariant-loop-f : goal.invariant-loop-f
invariant-loop-f l = Paying l.at.0 l.initial.f-items l.f-index l.due l.f-items
