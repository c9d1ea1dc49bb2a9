-- Each answer is that of a line of case 4. Assumes nothing.
use Rattle.std.proofs.Common.{◌+◌}
use Rattle.demo_expected.specs.Said.{at4, line}
use Rattle.demo_expected.proofs.case_4.Goals as goal

pub offer-requires : goal.offer-requires
offer-requires c = rw (c.offers_of_case_1-planner.ensures, c.request.ensures) (line (at4 + 4)).answer

pub offer-requires-2 : goal.offer-requires-2
offer-requires-2 c = rw (c.offers_of_case_1-planner-2.ensures, c.request-2.ensures) (line (at4 + 9)).answer
