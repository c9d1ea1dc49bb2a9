use mathlib.Core.Path.{sym}
use native.Mathlib.Omega.{arith}
use Rattle.std.proofs.lemmas.Result.{err_from_is_err_and}
use Rattle.call_answers.specs.Refused.{window_refused}
use Rattle.plan_window.specs.Laws.{passed_on, window_tests}
use Rattle.plan_window.specs.Ends.{bounds_none, bounds_found}
use Rattle.plan_window.proofs.bounds_of.Goals as goal

pub returns-in_err-check : goal.returns-in_err-check
returns-in_err-check c =
    let p = err_from_is_err_and c.from_residual.result c.from_residual.ensures.1 in
    let e = c.in_err-check.ensures in
    rw (p.1, p.2) (bounds_none _ _ _ _ e (window_refused _), e)

pub first_from-first-requires : goal.first_from-first-requires
first_from-first-requires c = ((window_tests _ _ _ _ (sym c.in_ok-check.ensures)).0, omega arith)

pub first_from-end-requires : goal.first_from-end-requires
first_from-end-requires c =
    let t = window_tests _ _ _ _ (sym c.in_ok-check.ensures) in (t.0, passed_on _ _ c.first_from-first.ensures t.1)

pub returns : goal.returns
returns c = (bounds_found _ _ _ _ c.in_ok-check.ensures c.first_from-first.ensures c.first_from-end.ensures, c.in_ok-check.ensures)
