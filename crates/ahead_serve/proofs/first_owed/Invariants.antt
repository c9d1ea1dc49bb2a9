-- The invariant: the lowest rank that is owed something among the first i places.
use Rattle.std.proofs.Common.{◌≤◌, length}
use Rattle.ahead_figures.specs.Arrays.{table_of}
use Rattle.ahead_serve.proofs.Searching.{Searching}
use Rattle.ahead_serve.proofs.first_owed.Given as goal

abbrev pub invariant-loop-i : goal.invariant-loop-i
invariant-loop-i l =
    (l.i ≤ length l.figures) × Searching (table_of l.figures).ranks (table_of l.figures).owed l.i l.first l.least
