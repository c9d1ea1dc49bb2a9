use Rattle.std.proofs.Common.{◌≡◌, ◌-◌, false, length, take}
use Rattle.spec_shelf.specs.Room.{Ready}
use Rattle.shelf_write.specs.Flows.{Flowed, rows_to}
use Rattle.shelf_write.specs.Taken.{Took}
use Rattle.shelf.proofs.serve_chunk.Given as goal

abbrev pub invariant-loop-flow : goal.invariant-loop-flow
invariant-loop-flow g l =
    let p = take l.flow.taken l.chunk in
    record {
      flowed : Flowed false l.initial.flow.shelf p l.initial.plan l.flow l.plan;
      ready : Ready l.flow.shelf.state;
      took : Took (g.W.Write.contents l.initial.to) (g.W.Write.contents l.to) l.flow.well (rows_to false l.initial.flow.shelf p);
      plan : length l.plan ≡ length l.initial.plan;
      out : length l.out ≡ length l.initial.out;
    }

abbrev pub decreases-loop-flow : goal.decreases-loop-flow
decreases-loop-flow g l = length l.chunk - l.flow.taken
