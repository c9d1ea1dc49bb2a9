-- `beacon_plan::write_from` meets its contract: the rows are begun, and run. Assumes nothing.
use Rattle.beacon_plan.specs.Places.{short}
use Rattle.beacon_plan.proofs.write_from.Goals as goal

pub begin_rows-requires-clause-few : goal.begin_rows-requires-clause-few
begin_rows-requires-clause-few c = (c.requires.few.0, short c.requires.rows.0.short c.requires.rows.0.each)
