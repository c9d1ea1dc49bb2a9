use mathlib.Core.Path.{◌∙◌}
use Rattle.std.proofs.lemmas.Result.{err_from_is_err_and}
use Rattle.call_answers.specs.Refused.{window_refused}
use Rattle.plan_window.specs.Laws.{window_none}
use Rattle.plan_window.specs.Ends.{bounds_within, bounds_part}
use Rattle.plan_window.proofs.window.Goals as goal

pub returns-in_err-b : goal.returns-in_err-b
returns-in_err-b c =
    let p = err_from_is_err_and c.from_residual.result c.from_residual.ensures.1 in
    let e = c.in_err-b.ensures.1 in
    rw (p.1, p.2) (window_none _ _ _ _ (λ z. window_refused _ (e ∙ z)), e)

pub records-requires : goal.records-requires
records-requires c = bounds_within _ _ _ _ c.in_ok-b.ensures.0

pub returns : goal.returns
returns c = let e = c.in_ok-b.ensures in (c.records.ensures ∙ bounds_part _ _ _ _ e.0, e.1)
