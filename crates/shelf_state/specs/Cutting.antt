-- What one row asks for: the row that ends in the chunk at hand, and at the end of the input the last row. Assumes nothing.
use Rattle.std.specs.Prelude.{ℕ, cond, List, [], leb, eqb}
use Rattle.spec_text.specs.Rows.{row_most}
use Rattle.row_cut.specs.declared.Line.{Line}
use Rattle.row_cut.specs.declared.Cut.{Cut}
use Rattle.row_cut.specs.Lines.{at_start, unheld, cut_from}
use Rattle.row_cut.specs.Kept.{text_of}
use Rattle.spec_shelf.specs.Commands.{command_of}
use Rattle.spec_shelf.specs.declared.Command.{Command}
use Rattle.spec_shelf.specs.declared.Command.TheVariants.{OtherForm}
use Rattle.shelf_state.specs.declared.Shelf.{Shelf}
use Rattle.spec_shelf.specs.Meaning.{first_state, plan_after, rows_for}

unfoldable pub first_shelf : Shelf
first_shelf = record { reader = at_start; state = first_state }

-- a length of 65 stands for every length above 64
unfoldable pub command_in : Line → Command
command_in l = cond (leb l.len row_most) (command_of (text_of l)) OtherForm

abbrev pub cut_of : Shelf → List ℕ → Cut
cut_of s chunk = cut_from 0 s.reader chunk

-- at the end of the input: the last row, where it has a byte
unfoldable pub last_rows : Shelf → List ℕ
last_rows s = let l = unheld s.reader in cond (eqb l.len 0) [] (rows_for s.state (command_in l))

unfoldable pub last_plan : Shelf → List ℕ → List ℕ
last_plan s ws = let l = unheld s.reader in cond (eqb l.len 0) ws (plan_after s.state (command_in l) ws)
