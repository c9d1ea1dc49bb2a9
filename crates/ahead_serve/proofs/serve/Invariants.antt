-- The invariant: the rest of the slots leaves of what is still owed what all slots leave of all.
use Rattle.std.proofs.Common.{length}
use Rattle.ahead_figures.specs.Arrays.{table_of}
use Rattle.ahead_serve.proofs.Turns.{Serving}
use Rattle.ahead_serve.proofs.serve.Given as goal

abbrev pub invariant-loop-rest : goal.invariant-loop-rest
invariant-loop-rest l = Serving l.slots (length l.figures) (table_of l.initial.figures) l.rest (table_of l.figures)

abbrev pub decreases-loop-rest : goal.decreases-loop-rest
decreases-loop-rest l = l.rest
