-- Each plan is that of a line of cases 1 to 3, of the table that the beacon before it gave. Assumes nothing.
use Rattle.demo_expected.specs.Said.{plan_told, line}
use Rattle.demo_expected.proofs.cases_1_to_3.Goals as goal

pub beacon-requires-clause-planned : goal.beacon-requires-clause-planned
beacon-requires-clause-planned c =
    let f = rw (plan_told (line 4)).1 at (plan_told (line 6)).0 in
    rw c.beacon_of_case_1.ensures.is f

pub beacon-requires-2-clause-planned : goal.beacon-requires-2-clause-planned
beacon-requires-2-clause-planned c =
    let f = rw ((plan_told (line 6)).1, (plan_told (line 4)).1) at (plan_told (line 8)).0 in
    rw (c.beacon.ensures.is, c.beacon_of_case_1.ensures.is) f
