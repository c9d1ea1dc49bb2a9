use Rattle.std.proofs.Common.{arith}
use Rattle.ahead_serve.proofs.Turns.{turn_served, serving_all, serving_nobody}
use Rattle.ahead_serve.proofs.serve.Goals as goal

pub returns-in_default : goal.returns-in_default
returns-in_default c = serving_nobody c.loop-rest.invariant c.in_default.ensures

pub loop-rest-preserved : goal.loop-rest-preserved
loop-rest-preserved c = turn_served _ _ c.loop-rest.invariant c.in-Some.ensures (omega arith)

pub returns : goal.returns
returns c = serving_all c.loop-rest.invariant (omega arith)
