-- `plan_record::write_record` meets its contract: its words in a row are one record. Assumes nothing.
use Rattle.plan_record.specs.Recorded.{one_recorded}
use Rattle.plan_record.proofs.write_record.Goals as goal

pub returns : goal.returns
returns c = one_recorded c.args.plan.now c.args.n c.args.r c.requires
