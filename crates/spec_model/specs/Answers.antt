-- What the code of this crate answers, in the document's numbers; and the fields that an entry was offered with. Document 01, "Where
-- each refusal is checked". Assumes nothing.
use Rattle.std.specs.Prelude.{ℕ, cond}
use Rattle.std.specs.Prelude.{List, [], Result, Ok, Err}
use denote.Ref.{Bor}
use Rattle.spec_model.specs.Requests.{refusal, field_checks}
use Rattle.spec_model.specs.Entries.{is_kind}
use Rattle.spec_model.specs.declared.Entry.{Entry}
use Rattle.spec_model.specs.declared.Frame.{Frame}
use Rattle.spec_model.specs.declared.Request.{Request}
use Rattle.spec_model.specs.declared.OfferRefusal.{OfferRefusal}
use Rattle.spec_model.specs.declared.OfferRefusal.TheVariants.{StreamOutside, StreamHeld, KindUnknown}
use Rattle.spec_model.specs.declared.OfferRefusal.TheVariants.{PeriodOutside, AmountsOutside, LifeOutside, TableFull, NoTime}

-- the number of an answer: 0, or that of its refusal
abbrev pub answered : {T R : Type 0} → (R → ℕ) → Result T R → ℕ
answered number (Ok x) = 0
answered number (Err r) = number r

-- the words of a part that is lent, or none
abbrev pub lent_words : {R : Type 0} → Result (Bor (List ℕ)) R → List ℕ
lent_words (Ok part) = part.now
lent_words (Err r) = []

-- the numbers of an offer's refusals
abbrev pub offer_number : OfferRefusal → ℕ
offer_number StreamOutside = 10
offer_number StreamHeld = 11
offer_number KindUnknown = 12
offer_number PeriodOutside = 13
offer_number AmountsOutside = 14
offer_number LifeOutside = 15
offer_number TableFull = 16
offer_number NoTime = 17

-- refusals 12 to 15 of an offer, or 0
unfoldable pub fields_answer : Frame → Request → ℕ
fields_answer F q = refusal (field_checks F q)

-- the fields that were offered
unfoldable pub request_of : Entry → Request
request_of e =
    record {
      name = e.name;
      kind = e.kind;
      period = cond (is_kind 1 e) e.parts e.period.0;
      min = e.min.0;
      max = e.max.0;
      life = e.life.0;
    }
