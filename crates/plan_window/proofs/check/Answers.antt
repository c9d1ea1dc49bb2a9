use mathlib.Core.Path.{sym, ◌∙◌}
use native.Mathlib.Omega.{arith}
use Rattle.plan_window.specs.Laws.{answers_40, answers_41, answers_42}
use Rattle.plan_window.proofs.check.Goals as goal

pub returns-then-plan-count : goal.returns-then-plan-count
returns-then-plan-count c = answers_40 _ _ _ _ (omega arith)

pub returns-then-until-from : goal.returns-then-until-from
returns-then-until-from c = answers_41 _ _ _ _ (omega arith) c.if-until-from.true

pub returns-then-starts_rise : goal.returns-then-starts_rise
returns-then-starts_rise c = answers_42 _ _ _ _ (omega arith) c.if-until-from.false (sym c.starts_rise.ensures ∙ c.if-starts_rise.true)

pub returns : goal.returns
returns c = answers_42 _ _ _ _ (omega arith) c.if-until-from.false (sym c.starts_rise.ensures ∙ c.if-starts_rise.false)
