-- The plan is the one that is expected, and its records are the first words of the memory. Assumes nothing.
use Rattle.demo_expected.specs.Said.{long_beacon}
use Rattle.demo_expected.specs.Words.{plan_records}
use Rattle.demo_expected.proofs.beacon.Goals as goal

pub expect_beacon-requires : goal.expect_beacon-requires
expect_beacon-requires c =
    let e = rw (long_beacon _ _ c.requires.room c.requires.planned) at c.beacon-sent.ensures in
    record { answer = e.0; count = e.1.0 }

pub expect_records-requires : goal.expect_records-requires
expect_records-requires c =
    let e = rw (long_beacon _ _ c.requires.room c.requires.planned) at c.beacon-sent.ensures in
    plan_records _ c.requires.planned _ e.1.1.1

pub returns : goal.returns
returns c =
    let e = rw (long_beacon _ _ c.requires.room c.requires.planned) at c.beacon-sent.ensures in
    record { is = e.1.1.0; words = e.1.1.1 }
