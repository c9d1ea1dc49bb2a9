use Prim.Native.Nat.{◌≤◌}
use Rattle.spec_model.specs.Tables.{places}
use Rattle.table_survey.specs.Passes.{Passed}
use Rattle.table_survey.proofs.survey_for.Given as goal

abbrev pub invariant-loop-i : goal.invariant-loop-i
invariant-loop-i l = (l.i ≤ places) × Passed l.name l.t.entries l.i l.s
