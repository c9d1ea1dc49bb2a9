-- What an offer answers: the first of its checks that applies, the last of which is looking ahead. An offer that passes every other
-- check answers 0 or 17; a request that is accepted is in range, its stream is not held, and a place is free. Assumes nothing.
use Rattle.std.specs.Prelude.{◌≡◌, Bool, true, false, not, List, [], ◌∷◌, ◌++◌, ℕ, ◌≤◌, leb, length}
use Rattle.spec_lists.specs.All.{All}
use Rattle.spec_model.specs.Requests.{Check, check, field_checks}
use Rattle.spec_model.specs.Answers.{fields_answer}
use Rattle.spec_model.specs.Entries.{entry_of}
use Rattle.spec_model.specs.declared.Request.{Request}
use Rattle.spec_model.specs.declared.Table.{Table}
use Rattle.spec_model.specs.Names.{name_in_range}
use Rattle.spec_model.specs.declared.Frame.{Frame}
use Rattle.spec_model.specs.Tables.{held_of, most_held}
use Rattle.spec_rules.specs.Ahead.{fits_ahead}

-- ---- lists of checks
-- its numbers are those of refusals, at most m
abbrev pub Numbered : ℕ → List Check → Type 0
Numbered m cs = All (λ c. (1 ≤ c.number) × (c.number ≤ m)) cs

-- no check applies
abbrev pub NoneApplies : List Check → Type 0
NoneApplies cs = All (λ c. c.applies ≡ false) cs

-- ---- the checks of an offer but the last
abbrev pub offer_checks_but : (held full : Bool) → Frame → Request → List Check
offer_checks_but held full F q =
    check 10 (not (name_in_range q.name)) ∷ check 11 held ∷ (field_checks F q ++ (check 16 full ∷ []))

-- what an offer that passes them is
pub record Passed (held full : Bool) (F : Frame) (q : Request) : Type 0 where
  pub name : name_in_range q.name ≡ true
  pub free : held ≡ false
  pub fields : fields_answer F q ≡ 0
  pub place : full ≡ false

-- ---- the answer, on a table
module _ (t : Table) (q : Request) where
  abbrev pub F : Frame
  F = t.frame

  abbrev pub is_full : Bool
  is_full = leb most_held (length (held_of t))

  abbrev pub has_time : Bool
  has_time = fits_ahead F (entry_of q ∷ held_of t)
