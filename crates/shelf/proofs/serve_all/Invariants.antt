-- All that reads gave is served, and every write took what it was handed.
use Rattle.std.proofs.Common.{◌≡◌, ◌-◌, ◌<◌, true, false, length}
use Rattle.spec_shelf.specs.Room.{Ready}
use Rattle.shelf.specs.Runs.{most_bytes}
use Rattle.shelf.specs.Streams.{Going}
use Rattle.shelf.proofs.serve_all.Given as goal

abbrev pub invariant-loop-got : goal.invariant-loop-got
invariant-loop-got g l =
    record {
      going : Going false l.initial.plan l.flow l.plan l.given (g.R.Read.remaining l.initial.from) (g.R.Read.remaining l.from)
          (g.W.Write.contents l.initial.to) (g.W.Write.contents l.to);
      well : l.flow.well ≡ true;
      taken : l.flow.taken ≡ l.given;
      few : l.given < most_bytes;
      ready : Ready l.flow.shelf.state;
      input : length l.input ≡ length l.initial.input;
      plan : length l.plan ≡ length l.initial.plan;
      out : length l.out ≡ length l.initial.out;
    }

abbrev pub decreases-loop-got : goal.decreases-loop-got
decreases-loop-got g l = most_bytes - l.given
