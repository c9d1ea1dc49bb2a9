-- The invariant: the nearer of next and of the rows from this one on is the next release. Assumes nothing.
use Rattle.std.specs.Prelude.{◌≡◌, ◌≤◌, min, drop}
use Rattle.beacon_plan.specs.Needs.{lengths_of}
use Rattle.beacon_plan.specs.Next.{next_of}
use Rattle.beacon_plan.proofs.next_release.Given as goal

abbrev pub invariant-loop-row : goal.invariant-loop-row
invariant-loop-row l = record {
  most : l.next ≤ l.fn.b.0;
  nearest : next_of l.fn.b.0 l.t.0 (lengths_of l.rows) ≡ min l.next (next_of l.fn.b.0 l.t.0 (drop l.row-index (lengths_of l.rows)));
}
