-- The invariant: from row i on, with the best place so far, the definition comes to the same place. Assumes nothing.
use Rattle.std.specs.Prelude.{◌≡◌, ◌<◌, None, drop}
use Rattle.spec_model.specs.Tables.{places}
use Rattle.beacon_plan.specs.Places.{no_release}
use Rattle.beacon_plan.specs.Progress.{placed, heads_in, chosen_from}
use Rattle.beacon_plan.proofs.choose_place.Given as goal

abbrev pub invariant-loop-i : goal.invariant-loop-i
invariant-loop-i l = record {
  chosen : chosen_from l.t.0 0 None no_release (heads_in l.progress) ≡ chosen_from l.t.0 l.i (placed l.place) l.best (drop l.i (heads_in l.progress));
  within : l.place < places → l.place < l.i;
}
