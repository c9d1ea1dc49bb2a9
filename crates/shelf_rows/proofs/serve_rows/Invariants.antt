use lib.ListN.{length}
use Prim.Native.Nat.{◌-◌}
use Rattle.shelf_state.specs.Parts.{shelf_of}
use Rattle.shelf_rows.proofs.Turns.{Turn}
use Rattle.shelf_rows.proofs.serve_rows.Given as goal

abbrev pub invariant-loop-taken : goal.invariant-loop-taken
invariant-loop-taken l =
    Turn (shelf_of l.initial.reader l.initial.table) l.chunk l.initial.plan l.initial.out l.initial.next l.taken
    (shelf_of l.reader l.table) l.next l.plan l.out

abbrev pub decreases-loop-taken : goal.decreases-loop-taken
decreases-loop-taken l = length l.chunk - l.taken
