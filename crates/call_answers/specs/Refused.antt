-- No refusal has the number of a call that succeeds. Assumes nothing.
use Rattle.std.specs.Prelude.{◌≡◌, refl, ◌≢◌, ℕ, eqb, Result, Ok, Err}
use Rattle.std.specs.Result.{IsOk, is_ok}
use Rattle.std.proofs.Common.{sym, ◌∙◌, arith}
use borrow.Author.Tests.{eq-eqb, ne_eqb}
use Rattle.spec_model.specs.Answers.{answered, offer_number}
use Rattle.spec_model.specs.Numbers.{open_number, held_number, beacon_number, window_number}
use Rattle.spec_model.specs.declared.OfferRefusal.{OfferRefusal}
use Rattle.spec_model.specs.declared.OfferRefusal.TheVariants.{StreamOutside, StreamHeld, KindUnknown}
use Rattle.spec_model.specs.declared.OfferRefusal.TheVariants.{PeriodOutside, AmountsOutside, LifeOutside, TableFull, NoTime}
use Rattle.spec_model.specs.declared.OpenRefusal.{OpenRefusal}
use Rattle.spec_model.specs.declared.OpenRefusal.TheVariants.{UnitsOutside, HeaderOutside}
use Rattle.spec_model.specs.declared.HeldRefusal.{HeldRefusal}
use Rattle.spec_model.specs.declared.HeldRefusal.TheVariants.{NotHeld}
use Rattle.spec_model.specs.declared.BeaconRefusal.{BeaconRefusal}
use Rattle.spec_model.specs.declared.BeaconRefusal.TheVariants.{PlanTooShort}
use Rattle.spec_model.specs.declared.WindowRefusal.{WindowRefusal}
use Rattle.spec_model.specs.declared.WindowRefusal.TheVariants.{TooManyRecords, FromAfterUntil, StartsNotRising}

pub offer_refused : (r : OfferRefusal) → offer_number r ≢ 0
offer_refused StreamOutside z = absurd (omega arith)
offer_refused StreamHeld z = absurd (omega arith)
offer_refused KindUnknown z = absurd (omega arith)
offer_refused PeriodOutside z = absurd (omega arith)
offer_refused AmountsOutside z = absurd (omega arith)
offer_refused LifeOutside z = absurd (omega arith)
offer_refused TableFull z = absurd (omega arith)
offer_refused NoTime z = absurd (omega arith)

pub open_refused : (r : OpenRefusal) → open_number r ≢ 0
open_refused UnitsOutside z = absurd (omega arith)
open_refused HeaderOutside z = absurd (omega arith)

pub held_refused : (r : HeldRefusal) → held_number r ≢ 0
held_refused NotHeld z = absurd (omega arith)

pub beacon_refused : (r : BeaconRefusal) → beacon_number r ≢ 0
beacon_refused PlanTooShort z = absurd (omega arith)

pub window_refused : (r : WindowRefusal) → window_number r ≢ 0
window_refused TooManyRecords z = absurd (omega arith)
window_refused FromAfterUntil z = absurd (omega arith)
window_refused StartsNotRising z = absurd (omega arith)

-- so an answer is 0 exactly where the call succeeds
module _ {T R : Type 0} {number : R → ℕ} (refused : (r : R) → number r ≢ 0) where
  pub answered_ok : (a : Result T R) → is_ok a ≡ eqb (answered number a) 0
  answered_ok (Ok x) = refl
  answered_ok (Err r) = sym (ne_eqb (number r) 0 (refused r))

  pub succeeds : (a : Result T R) → answered number a ≡ 0 → IsOk a
  succeeds a z = answered_ok a ∙ eq-eqb (answered number a) 0 z
