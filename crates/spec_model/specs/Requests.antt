-- Refusals in their order, and the least and largest value of each field of a request, for each kind. Document 01, "Where each refusal
-- is checked" and "Units and one request". B is the number of slots of an interval. Assumes nothing.
use Rattle.std.specs.Prelude.{ℕ, ◌*◌, ◌/◌, ◌%◌, Bool, true, cond, not, ◌&&◌, List, [], ◌∷◌, leb, eqb}
use Rattle.spec_lists.specs.Lists.{within}
use Rattle.spec_model.specs.Frames.{slots_in}
use Rattle.spec_model.specs.declared.Frame.{Frame}
use Rattle.spec_model.specs.declared.Request.{Request}

-- a row of the table of refusals: its number, and whether its condition holds
pub record Check : Type 0 where
  pub number : ℕ
  pub applies : Bool

abbrev pub check : ℕ → Bool → Check
check n b = record { number = n; applies = b }

-- the first that applies; 0 where none does
unfoldable pub refusal : List Check → ℕ
refusal [] = 0
refusal (c ∷ cs) = let r = refusal cs in cond c.applies c.number r

-- ---- the least and largest value of each field
-- lowest ≤ min ≤ max ≤ largest
abbrev pub in_order : (lowest least most largest : ℕ) → Bool
in_order lowest least most largest = leb lowest least && (leb least most && leb most largest)

-- ---- kind 1, fraction stream: the period is B/m slots
abbrev pub fraction_period : (B m : ℕ) → Bool
fraction_period B m = within 2 16 m && eqb (B % m) 0

abbrev pub fraction_amounts : (B m least most : ℕ) → Bool
fraction_amounts B m least most = in_order 1 least most (B / m)

abbrev pub fraction_life : (life : ℕ) → Bool
fraction_life life = within 1 65535 life

-- ---- kind 2, whole stream: the period is counted in intervals
abbrev pub whole_period : (period : ℕ) → Bool
whole_period period = within 1 255 period

abbrev pub whole_amounts : (B period least most : ℕ) → Bool
whole_amounts B period least most = in_order 1 least most (period * B)

abbrev pub whole_life : (period life : ℕ) → Bool
whole_life period life = within 1 65535 life && eqb (life % period) 0

-- ---- kind 3, transfer: the minimum is its amount, the maximum is reserved
abbrev pub transfer_period : (deadline : ℕ) → Bool
transfer_period deadline = within 1 65535 deadline

abbrev pub transfer_amounts : (amount reserved : ℕ) → Bool
transfer_amounts amount reserved = leb 1 amount && eqb reserved 0

abbrev pub transfer_life : (deadline life : ℕ) → Bool
transfer_life deadline life = eqb life deadline

-- ---- the rows "offer, fields", for a period, an amounts and a life test
abbrev pub range_checks : (period amounts life : Bool) → List Check
range_checks period amounts life = check 13 (not period) ∷ check 14 (not amounts) ∷ check 15 (not life) ∷ []

abbrev pub fraction_checks : (B m least most life : ℕ) → List Check
fraction_checks B m least most life = range_checks (fraction_period B m) (fraction_amounts B m least most) (fraction_life life)

abbrev pub whole_checks : (B period least most life : ℕ) → List Check
whole_checks B period least most life = range_checks (whole_period period) (whole_amounts B period least most) (whole_life period life)

abbrev pub transfer_checks : (deadline amount reserved life : ℕ) → List Check
transfer_checks deadline amount reserved life =
    range_checks (transfer_period deadline) (transfer_amounts amount reserved) (transfer_life deadline life)

-- by kind; another kind has no range
unfoldable pub field_checks : Frame → Request → List Check
field_checks F q =
    cond (eqb q.kind 1) (fraction_checks (slots_in F) q.period q.min q.max q.life)
    (cond (eqb q.kind 2) (whole_checks (slots_in F) q.period q.min q.max q.life)
    (cond (eqb q.kind 3) (transfer_checks q.period q.min q.max q.life)
    (check 12 true ∷ [])))
