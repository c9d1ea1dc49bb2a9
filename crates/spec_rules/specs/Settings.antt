-- Opening: what it is told, what it answers, and what an interval is after it. Document 01, "Units and one request" and "Where each refusal
-- is checked", `open`; document 02, No. 1. Assumes nothing.
use Rattle.std.specs.Prelude.{ℕ, ◌*◌, ◌≡◌, not, [], ◌∷◌, ltb}
use Rattle.spec_lists.specs.Lists.{within}
use Rattle.spec_model.specs.Requests.{check, refusal}
use Rattle.spec_model.specs.declared.Setting.{Setting}
use Rattle.spec_model.specs.declared.Frame.{Frame}
use Rattle.spec_model.specs.declared.Table.{Table}
use Rattle.spec_model.specs.ByNumbers.{framed}
use Rattle.spec_model.specs.Tables.{none_held}

-- the slots of a time unit
abbrev pub unit_slots : ℕ
unit_slots = 1024

-- B, for so many time units
abbrev pub slots_of : Setting → ℕ
slots_of s = unit_slots * s.units

unfoldable pub open_answer : Setting → ℕ
open_answer s =
    refusal
    (check 1 (not (within 1 1000 s.units))
    ∷ check 61 (not (ltb s.header (slots_of s)))
    ∷ [])

-- a successful opening
abbrev pub Succeeds : Setting → Type 0
Succeeds s = open_answer s ≡ 0

unfoldable pub frame_of : Setting → Frame
frame_of s = framed (slots_of s) s.header

unfoldable pub opened : Setting → Table
opened s = none_held (frame_of s)
