-- Each answer is that of a line of case 7. Assumes nothing.
use Rattle.std.proofs.Common.{◌+◌}
use Rattle.demo_expected.specs.Said.{at7, line}
use Rattle.demo_expected.proofs.case_7.Goals as goal

pub open-one-requires : goal.open-one-requires
open-one-requires c = (line at7).answer

pub offer-requires : goal.offer-requires
offer-requires c = rw (c.open-one.ensures, c.request-thirds.ensures) (line (at7 + 1)).answer

pub open-three-requires : goal.open-three-requires
open-three-requires c = (line (at7 + 2)).answer

pub offer-requires-2 : goal.offer-requires-2
offer-requires-2 c = rw (c.open-three.ensures, c.request-thirds.ensures) (line (at7 + 3)).answer
