-- `plan_record::Pen::put` meets its contract: no run is no record, nor is one of no slots; another is one. Assumes nothing.
use Rattle.plan_record.specs.Pens.{put_one, put_none}
use Rattle.plan_record.proofs.Pen.put.Goals as goal

pub returns-in_default : goal.returns-in_default
returns-in_default c = put_none c.args.self _ (rw c.in_default.is)

pub returns-then-run-eq0 : goal.returns-then-run-eq0
returns-then-run-eq0 c = put_none c.args.self _ (rw c.in-Some.is c.if-run-eq0.true)

pub returns : goal.returns
returns c = put_one c.args.self _ _ c.in-Some.is c.if-run-eq0.false c.write_record.ensures
