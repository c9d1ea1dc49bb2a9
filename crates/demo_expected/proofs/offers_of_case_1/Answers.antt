-- Each answer is that of a line of case 1. Assumes nothing.
use Rattle.demo_expected.specs.Said.{line}
use Rattle.demo_expected.proofs.offers_of_case_1.Goals as goal

pub open-planner-requires : goal.open-planner-requires
open-planner-requires c = (line 0).answer

pub offers-requires : goal.offers-requires
offers-requires c =
    rw (c.open-planner.ensures, c.request.ensures, c.request-2.ensures, c.request-3.ensures)
    ((line 1).answer, ((line 2).answer, ((line 3).answer, tt)))
