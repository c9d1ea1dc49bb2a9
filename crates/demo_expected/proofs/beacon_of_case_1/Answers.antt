-- The plan of what case 1 offers, as the theorem of the cases says. Assumes nothing.
use Rattle.demo_expected.specs.Said.{plan_told, line}
use Rattle.demo_expected.proofs.beacon_of_case_1.Goals as goal

pub beacon-requires-clause-planned : goal.beacon-requires-clause-planned
beacon-requires-clause-planned c = rw c.requires.is (plan_told (line 4)).0
