-- The opening is that of a line of case 1. Assumes nothing.
use Rattle.demo_expected.specs.Said.{line}
use Rattle.demo_expected.proofs.case_10_empty.Goals as goal

pub open-planner-requires : goal.open-planner-requires
open-planner-requires c = (line 0).answer
