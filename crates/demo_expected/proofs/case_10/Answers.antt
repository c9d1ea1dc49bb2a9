-- The words are as they were lent, and so are those after the plan's. Assumes nothing.
use Rattle.std.proofs.Common.{ℕ, ◌*◌, ◌-◌, ap, sym, subst, ◌∙◌, length, drop}
use Rattle.spec_rules.specs.Records.{record_words}
use Rattle.demo_expected.specs.Said.{plan_told, line}
use Rattle.demo_expected.specs.Words.{plan_later, Each, each_take, each_drop}
use Rattle.demo_expected.proofs.case_10.Goals as goal

-- the words of the plan
abbrev written : ℕ
written = record_words * 5

pub expect_each-requires-2 : goal.expect_each-requires-2
expect_each-requires-2 c =
    let l = c.beacon_of_case_1.new.plan in
    let after = plan_later _ (plan_told (line 4)).0 c.refused_beacon.new.plan c.beacon_of_case_1.ensures.words in
    let e = after ∙ ap (drop written) c.refused_beacon.ensures.words in
    each_take (length l - written) (drop written l) (subst (Each 77777) (sym e) (each_drop written c.args.plan.now c.requires.each))
