-- `plan_record::start_of` meets its contract: the start of the record that is read. Assumes nothing.
use mathlib.Core.Path.{ap}
use Rattle.spec_rules.specs.Slots.{Run}
use Rattle.plan_record.specs.Starts.{start_at}
use Rattle.plan_record.proofs.start_of.Goals as goal

pub returns : goal.returns
unfolding start_at
returns c = ap (λ (r : Run). r.start) c.before.read_record-r.ensures
