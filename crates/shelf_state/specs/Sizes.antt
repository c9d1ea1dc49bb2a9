-- How much a cut takes and the last row prints: some bytes of a chunk that has one, and rows that fit into the memory of one answer.
-- Assumes nothing.
use Rattle.std.proofs.Common.{⊎_elim, arith}
use Rattle.std.specs.Prelude.{◌≡◌, refl, List, ℕ, ◌≤◌, ◌<◌, eqb, length, Option, Some, None}
use Rattle.base_lists.specs.Tests.{either}
use Rattle.row_cut.specs.declared.Line.{Line}
use Rattle.row_cut.specs.Lines.{unheld}
use Rattle.row_cut.specs.Cuts.{row_ended, row_open}
use Rattle.spec_shelf.specs.Room.{answer_most, Ready}
use Rattle.law_rows.specs.Sizes.{rows_most}
use Rattle.shelf_state.specs.declared.Shelf.{Shelf}
use Rattle.shelf_state.specs.Cutting.{command_in, cut_of, last_rows}

pub cut_taken : (s : Shelf) (chunk : List ℕ) → ((cut_of s chunk).taken ≤ length chunk) × (0 < length chunk → 0 < (cut_of s chunk).taken)
cut_taken s chunk = by (cut_of s chunk).row refl
  where
    by : (o : Option Line) → (cut_of s chunk).row ≡ o
        → ((cut_of s chunk).taken ≤ length chunk) × (0 < length chunk → 0 < (cut_of s chunk).taken)
    by (Some l) e = let x = row_ended 0 s.reader chunk e in omega (arith, x.taken, x.inside, x.some)
    by None e = omega (arith, (row_open 0 s.reader chunk e).0)

pub last_most : (s : Shelf) → Ready s.state → length (last_rows s) ≤ answer_most
unfolding last_rows
last_most s r =
    ⊎_elim
    (λ e. rw e (omega arith))
    (λ e. rw e (rows_most s.state (command_in (unheld s.reader)) r))
    (either (eqb (unheld s.reader).len 0))
