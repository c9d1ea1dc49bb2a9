-- `header_test::due_at` meets its contract. The invariant: what is due of the streams of 2 to i - 1 parts. Assumes nothing.
use mathlib.Core.Path.{◌≡◌}
use Prim.Native.Nat.{◌*◌, ◌≤◌}
use Rattle.header_test.specs.Due.{parts_room, most_needs, due_to, most_jobs}
use Rattle.header_test.proofs.due_at.Given as goal

abbrev pub invariant-loop-i : goal.invariant-loop-i
invariant-loop-i l = (2 ≤ l.i) × (l.i ≤ parts_room) × (l.due ≡ due_to l.sums l.k l.m l.i) × (l.due ≤ l.i * (most_jobs * most_needs))
