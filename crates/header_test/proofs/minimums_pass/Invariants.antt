-- `header_test::minimums_pass` meets its contract. The invariant: the sums of the first i places, without the one where the entry goes. Assumes
-- nothing.
use Rattle.header_test.specs.Minimums.{Beside}
use Rattle.header_test.proofs.minimums_pass.Given as goal

abbrev pub invariant-loop-i : goal.invariant-loop-i
invariant-loop-i l = Beside l.t l.place l.used l.i l.sums
