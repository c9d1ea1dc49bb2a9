-- The invariant: what is left is cut as the whole is. Assumes nothing.
use mathlib.Core.Path.{◌≡◌}
use lib.ListN.{drop}
use Rattle.row_cut.specs.Lines.{reader_in, cut_from}
use Rattle.row_cut.proofs.cut_row.Given as goal

abbrev pub invariant-loop-i : goal.invariant-loop-i
invariant-loop-i l =
    cut_from l.i (reader_in l.bytes l.len l.held) (drop l.i l.chunk) ≡ cut_from 0 (reader_in l.initial.bytes l.initial.len l.initial.held) l.chunk
