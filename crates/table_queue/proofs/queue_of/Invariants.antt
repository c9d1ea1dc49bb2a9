use Rattle.table_queue.proofs.Making.{Making, queue}
use Rattle.table_queue.proofs.queue_of.Given as goal

abbrev pub invariant-loop-i : goal.invariant-loop-i
invariant-loop-i l = Making l.fn.t l.i (queue l.used l.load l.claims)
