-- `beacon_plan::Head::of` meets its contract: the first job that needs something, where there is one. Assumes nothing.
use Rattle.std.proofs.Common.{sym, ap, ◌∙◌, arith}
use Rattle.beacon_plan.specs.Progress.{found_at, head_found}
use Rattle.beacon_plan.proofs.Head.of.Goals as goal

pub returns-in_default : goal.returns-in_default
returns-in_default c =
    let a = c.args in
    ap (found_at a.job_length.0) (sym c.in_default.is ∙ c.first_left.ensures.number) ∙ head_found a.job_length.0 a.left.now (omega arith)

pub returns : goal.returns
returns c =
    let a = c.args in
    ap (found_at a.job_length.0) (sym c.in-Some.is ∙ c.first_left.ensures.number) ∙ head_found a.job_length.0 a.left.now (omega arith)
