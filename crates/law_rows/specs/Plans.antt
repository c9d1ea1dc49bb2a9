-- A beacon in enough memory: it gives the plan, and its records have the plan's rows. Assumes nothing.
use Rattle.std.specs.Prelude.{◌≡◌, refl, List, ◌++◌, ℕ, ◌≤◌, length}
use Rattle.std.proofs.Common.{ap, le-ltb}
use Rattle.spec_lists.specs.Lists.{concat_map}
use Rattle.spec_model.specs.declared.Table.{Table}
use Rattle.spec_rules.specs.Slots.{Run}
use Rattle.spec_rules.specs.Records.{plan_words, words_of}
use Rattle.spec_rules.specs.Calls.{plan_of, beacon, planned_beacon}
use Rattle.law_model.specs.Records.{records_back}
use Rattle.spec_shelf.specs.Printed.{slot_row_of, slot_rows}

pub planned : (t : Table) (ws : List ℕ) → plan_words ≤ length ws → beacon t ws ≡ planned_beacon t ws (plan_of t)
unfolding beacon
planned t ws h = rw (le-ltb (length ws) plan_words h) refl

-- the words of a plan, whatever stands behind them
pub rows_of_words : (rs : List Run) (ws : List ℕ) → slot_rows (length rs) (words_of rs ++ ws) ≡ concat_map slot_row_of rs
unfolding slot_rows
rows_of_words rs ws = ap (concat_map slot_row_of) (records_back rs ws)
