-- Each answer is that of a line of case 5. Assumes nothing.
use Rattle.std.proofs.Common.{◌+◌}
use Rattle.demo_expected.specs.Said.{at5, plan_told, line}
use Rattle.demo_expected.proofs.case_5.Goals as goal

pub plan_after-planner-requires : goal.plan_after-planner-requires
plan_after-planner-requires c =
    record {
      room = c.requires;
      answers = rw (c.request.ensures, c.request-2.ensures) ((line (at5 + 1)).answer, ((line (at5 + 2)).answer, tt));
      planned = rw (c.request.ensures, c.request-2.ensures) (plan_told (line (at5 + 3))).0;
    }

pub withdraw-requires : goal.withdraw-requires
withdraw-requires c =
    let f = rw (plan_told (line (at5 + 3))).1 at (line (at5 + 4)).answer in
    rw (c.plan_after-planner.ensures.is, c.request.ensures, c.request-2.ensures) f

pub offer-requires : goal.offer-requires
offer-requires c =
    let f = rw (plan_told (line (at5 + 3))).1 at (line (at5 + 5)).answer in
    rw (c.withdraw.ensures, c.plan_after-planner.ensures.is, c.request.ensures, c.request-2.ensures, c.request-3.ensures) f
