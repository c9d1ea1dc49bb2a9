-- `row_print::put_name` meets its contract: today a name is its stream. Assumes nothing.
use Rattle.spec_shelf.specs.Printed.{name_field}
use Rattle.row_print.proofs.put_name.Goals as goal

pub returns : goal.returns
unfolding name_field
returns c = c.put_field.ensures
