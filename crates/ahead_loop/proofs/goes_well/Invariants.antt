-- The invariant: what looking ahead knows between two ends follows from where it began. The measure is the time up to the last end.
use Rattle.std.proofs.Common.{◌≡◌, ◌+◌, ◌-◌, length}
use Rattle.ahead_figures.specs.Arrays.{table_of}
use Rattle.ahead_figures.specs.Figures.{longest}
use Rattle.ahead_next.specs.Ends.{first_end}
use Rattle.law_figures.specs.Looking.{Follows}
use Rattle.ahead_loop.proofs.goes_well.Given as goal

abbrev pub invariant-loop-at : goal.invariant-loop-at
invariant-loop-at l =
    Follows l.slots (length l.initial.figures) (table_of l.initial.figures) l.time.0 l.load (table_of l.figures)
    × (l.at.0 ≡ first_end (table_of l.figures).ends)

abbrev pub decreases-loop-at : goal.decreases-loop-at
decreases-loop-at l = longest + 1 - l.time.0
