-- Each answer is that of a line of case 6. Assumes nothing.
use Rattle.std.proofs.Common.{◌+◌}
use Rattle.demo_expected.specs.Said.{at6, line}
use Rattle.demo_expected.proofs.case_6.Goals as goal

pub open-planner-requires : goal.open-planner-requires
open-planner-requires c = (line at6).answer

pub offers-requires : goal.offers-requires
offers-requires c =
    rw (c.open-planner.ensures, c.request.ensures, c.request-2.ensures) ((line (at6 + 1)).answer, ((line (at6 + 2)).answer, tt))
