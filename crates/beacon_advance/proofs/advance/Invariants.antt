use Rattle.std.proofs.Common.{◌≡◌, ◌≤◌}
use Rattle.spec_model.specs.Tables.{with_entries}
use Rattle.beacon_advance.specs.Zipped.{zipped}
use Rattle.beacon_advance.specs.Moving.{after_grant}
use Rattle.beacon_advance.proofs.advance.Given as goal

abbrev pub invariant-loop-i : goal.invariant-loop-i
invariant-loop-i l = (l.i ≤ l.used) × (l.next ≡ with_entries l.fn.t (zipped after_grant l.i l.fn.s.grants l.fn.t.entries))
