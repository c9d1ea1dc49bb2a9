-- Each answer and each plan is that of a line of ours. Assumes nothing.
use Rattle.std.proofs.Common.{◌+◌}
use Rattle.demo_expected.specs.Said.{at_ties, at_kinds, plan_told, line}
use Rattle.demo_expected.proofs.two_of_our_own.Goals as goal

pub plan_after-requires : goal.plan_after-requires
plan_after-requires c =
    record {
      room = c.requires;
      answers = rw (c.request.ensures, c.request-2.ensures) ((line (at_ties + 1)).answer, ((line (at_ties + 2)).answer, tt));
      planned = rw (c.request.ensures, c.request-2.ensures) (plan_told (line (at_ties + 3))).0;
    }

pub plan_after-requires-2-clause-answers : goal.plan_after-requires-2-clause-answers
plan_after-requires-2-clause-answers c =
    rw (c.request-3.ensures, c.request-4.ensures) ((line (at_kinds + 1)).answer, ((line (at_kinds + 2)).answer, tt))

pub plan_after-requires-2-clause-planned : goal.plan_after-requires-2-clause-planned
plan_after-requires-2-clause-planned c = rw (c.request-3.ensures, c.request-4.ensures) (plan_told (line (at_kinds + 3))).0
