-- With a word too few a beacon is refused. Assumes nothing.
use Rattle.std.proofs.Common.{ℕ, ◌-◌, arith}
use Rattle.spec_rules.specs.Records.{plan_words}
use Rattle.demo_expected.specs.Said.{short_beacon}
use Rattle.demo_expected.specs.Words.{as_before}
use Rattle.demo_expected.proofs.refused_beacon.Goals as goal

-- a word too few
abbrev short_words : ℕ
short_words = plan_words - 1

pub expect_beacon-requires : goal.expect_beacon-requires
expect_beacon-requires c =
    let e = rw (short_beacon _ short_words c.args.plan.now (omega arith)) at c.beacon-sent.ensures in
    record { answer = e.0; count = e.1.0 }

pub returns : goal.returns
returns c =
    let e = rw (short_beacon _ short_words c.args.plan.now (omega arith)) at c.beacon-sent.ensures in
    record { is = e.1.1.0; words = as_before short_words e.1.1.1 }
