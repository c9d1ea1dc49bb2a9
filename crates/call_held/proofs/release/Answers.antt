use Rattle.call_held.specs.Held.{released, released_inside}
use Rattle.call_held.proofs.release.Goals as goal

pub returns-clause-is : goal.returns-clause-is
returns-clause-is c = rw c.ok_or.ensures.value (released c.args.t c.requires c.args.name c.place_of-place.ensures)

pub returns-clause-place : goal.returns-clause-place
returns-clause-place c = rw c.ok_or.ensures.value (released_inside c.args.t c.requires c.args.name c.place_of-place.ensures)
