-- The numbers of what the calls are refused for; a call that succeeds answers 0. Document 01, "Where each refusal is checked"; document
-- 02, No. 1. Assumes nothing.
use Rattle.std.specs.Prelude.{ℕ}
use Rattle.spec_model.specs.declared.OpenRefusal.{OpenRefusal}
use Rattle.spec_model.specs.declared.OpenRefusal.TheVariants.{UnitsOutside, HeaderOutside}
use Rattle.spec_model.specs.declared.HeldRefusal.{HeldRefusal}
use Rattle.spec_model.specs.declared.HeldRefusal.TheVariants.{NotHeld}
use Rattle.spec_model.specs.declared.BeaconRefusal.{BeaconRefusal}
use Rattle.spec_model.specs.declared.BeaconRefusal.TheVariants.{PlanTooShort}
use Rattle.spec_model.specs.declared.WindowRefusal.{WindowRefusal}
use Rattle.spec_model.specs.declared.WindowRefusal.TheVariants.{TooManyRecords, FromAfterUntil, StartsNotRising}

abbrev pub open_number : OpenRefusal → ℕ
open_number UnitsOutside = 1
open_number HeaderOutside = 61

abbrev pub held_number : HeldRefusal → ℕ
held_number NotHeld = 20

abbrev pub beacon_number : BeaconRefusal → ℕ
beacon_number PlanTooShort = 30

abbrev pub window_number : WindowRefusal → ℕ
window_number TooManyRecords = 40
window_number FromAfterUntil = 41
window_number StartsNotRising = 42

-- the program's own: a row of another form, and a call where there is no table
abbrev pub other_form_number : ℕ
other_form_number = 50

abbrev pub no_table_number : ℕ
no_table_number = 51
