-- Rows that open, by their bytes: the header stands in the third field, empty for 0, and no later field may have a number. Document 02,
-- No. 1. The edits of this crate change what they say. Assumes nothing.
use Rattle.std.specs.Prelude.{◌≡◌, refl, [], ◌∷◌, ◌++◌}
use Rattle.spec_model.specs.ByNumbers.{setting}
use Rattle.spec_text.specs.Rows.{on_first}
use Rattle.spec_text.specs.Fields.{fields_of, all_digits, spelt, is_number, is_empty, fits, has_fields, number_or, numbers_of}
use Rattle.spec_shelf.specs.declared.Command.TheVariants.{Open, OtherForm}
use Rattle.spec_shelf.specs.Commands.{open_verb, called, from_fields, command_of}

-- `open,1,,,,,`, `open,1,24,,,,` and `open,1,,1,,,`
pub openings : (command_of (open_verb ++ (44 ∷ 49 ∷ 44 ∷ 44 ∷ 44 ∷ 44 ∷ 44 ∷ [])) ≡ Open (setting 1 0))
    × ((command_of (open_verb ++ (44 ∷ 49 ∷ 44 ∷ 50 ∷ 52 ∷ 44 ∷ 44 ∷ 44 ∷ 44 ∷ [])) ≡ Open (setting 1 24))
    × (command_of (open_verb ++ (44 ∷ 49 ∷ 44 ∷ 44 ∷ 49 ∷ 44 ∷ 44 ∷ 44 ∷ [])) ≡ OtherForm))
unfolding command_of from_fields called fields_of on_first all_digits spelt is_number is_empty fits has_fields number_or numbers_of
openings = (refl, (refl, refl))
