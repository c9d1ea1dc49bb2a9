-- The invariant: the array has the figures of the first i places.
use Rattle.ahead_figures.proofs.Reading.{Reading}
use Rattle.ahead_figures.proofs.read_table.Given as goal

abbrev pub invariant-loop-i : goal.invariant-loop-i
invariant-loop-i l = Reading l.t l.used l.i l.figures
