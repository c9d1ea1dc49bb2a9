-- `beacon_extras::extras_pass` meets its contract. The invariant: the sums of the first i places. Assumes nothing.
use Rattle.beacon_extras.specs.Extras.{Added}
use Rattle.beacon_extras.proofs.extras_pass.Given as goal

abbrev pub invariant-loop-i : goal.invariant-loop-i
invariant-loop-i l = Added l.fn.t l.used l.i l.sums
