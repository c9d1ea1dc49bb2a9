-- What a row asks for. Document 01, "Reading, lending, printing". Assumes nothing.
use Rattle.std.specs.Prelude.{ℕ, Bool, cond, ◌&&◌, List, [], ◌∷◌, leb, length, get_or}
use Rattle.spec_lists.specs.Lists.{same_list}
use Rattle.spec_model.specs.ByNumbers.{stream, setting}
use Rattle.spec_model.specs.declared.Name.{Name}
use Rattle.spec_model.specs.declared.Setting.{Setting}
use Rattle.spec_model.specs.declared.Request.{Request}
use Rattle.spec_text.specs.Rows.{row_most}
use Rattle.spec_text.specs.declared.Field.{Field}
use Rattle.spec_text.specs.declared.Field.TheVariants.{Needed, MayBeEmpty, Empty}
use Rattle.spec_text.specs.Fields.{fields_of, has_fields, numbers_of}
use Rattle.spec_shelf.specs.declared.Command.{Command}
use Rattle.spec_shelf.specs.declared.Command.TheVariants.{Open, Offer, Withdraw, Beacon, OtherForm}

-- the verbs' bytes
abbrev pub open_verb : List ℕ
open_verb = 111 ∷ 112 ∷ 101 ∷ 110 ∷ []

abbrev pub offer_verb : List ℕ
offer_verb = 111 ∷ 102 ∷ 102 ∷ 101 ∷ 114 ∷ []

abbrev pub withdraw_verb : List ℕ
withdraw_verb = 119 ∷ 105 ∷ 116 ∷ 104 ∷ 100 ∷ 114 ∷ 97 ∷ 119 ∷ []

abbrev pub beacon_verb : List ℕ
beacon_verb = 98 ∷ 101 ∷ 97 ∷ 99 ∷ 111 ∷ 110 ∷ []

-- ---- what each verb asks of the fields after it: stream, kind, period, min, max, life
-- the time units stand in the first of them, the header in the second, empty for 0
abbrev pub open_form : List Field
open_form = Needed ∷ MayBeEmpty 0 ∷ Empty ∷ Empty ∷ Empty ∷ Empty ∷ []

abbrev pub offer_form : List Field
offer_form = Needed ∷ Needed ∷ Needed ∷ Needed ∷ Needed ∷ Needed ∷ []

abbrev pub withdraw_form : List Field
withdraw_form = Needed ∷ Empty ∷ Empty ∷ Empty ∷ Empty ∷ Empty ∷ []

abbrev pub beacon_form : List Field
beacon_form = Empty ∷ Empty ∷ Empty ∷ Empty ∷ Empty ∷ Empty ∷ []

-- ---- what the numbers of a row say
abbrev pub setting_from : List ℕ → Setting
setting_from ns = setting (get_or ns 0 0) (get_or ns 1 0)

abbrev pub name_from : List ℕ → Name
name_from ns = stream (get_or ns 0 0)

abbrev pub request_from : List ℕ → Request
request_from ns = record {
  name = name_from ns;
  kind = get_or ns 1 0;
  period = get_or ns 2 0;
  min = get_or ns 3 0;
  max = get_or ns 4 0;
  life = get_or ns 5 0;
}

-- ---- the verb with its fields
abbrev pub has_form : List ℕ → List Field → (v : List ℕ) (fs : List (List ℕ)) → Bool
has_form verb form v fs = same_list v verb && has_fields form fs

unfoldable pub called : (v : List ℕ) (fs : List (List ℕ)) → Command
called v fs =
    cond (has_form open_verb open_form v fs) (Open (setting_from (numbers_of open_form fs)))
    (cond (has_form offer_verb offer_form v fs) (Offer (request_from (numbers_of offer_form fs)))
    (cond (has_form withdraw_verb withdraw_form v fs) (Withdraw (name_from (numbers_of withdraw_form fs)))
    (cond (has_form beacon_verb beacon_form v fs) Beacon OtherForm)))

-- seven fields: the verb, and as many as its form has
unfoldable pub from_fields : List (List ℕ) → Command
from_fields [] = OtherForm
from_fields (v ∷ fs) = called v fs

unfoldable pub command_of : List ℕ → Command
command_of row = cond (leb (length row) row_most) (from_fields (fields_of row)) OtherForm
