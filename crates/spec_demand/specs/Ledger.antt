-- The admissions of a history, read from what is seen alone. Document 01, "What a list of calls gives". Assumes nothing.
use Rattle.std.specs.Prelude.{ℕ, Bool, cond, not, List, [], ◌∷◌, ◌++◌, map, ltb, eqb, length}
use Rattle.spec_lists.specs.Lists.{keep}
use Rattle.spec_model.specs.Names.{same}
use Rattle.spec_model.specs.declared.Name.{Name}
use Rattle.spec_model.specs.declared.Request.{Request}
use Rattle.spec_rules.specs.Slots.{Run}
use Rattle.spec_demand.specs.History.{Call, Offer, Withdraw, Beacon, Seen}

-- a request that was accepted, and the plans of its intervals so far
pub record Admission : Type 0 where
  pub request : Request
  pub plans : List (List Run)

-- the admissions that last, whose requests are held, and those that have ended
pub record Ledger : Type 0 where
  pub held : List Admission
  pub past : List Admission

-- what each period of a request asks: the minimum, of a transfer its amount
abbrev pub asked_by : Request → ℕ
asked_by q = q.min

abbrev pub begins : Request → Admission
begins q = record { request = q; plans = [] }

-- one more interval
abbrev pub grown : List Run → Admission → Admission
grown rs h = record { request = h.request; plans = h.plans ++ (rs ∷ []) }

-- it has had fewer intervals than its life
abbrev pub lasts : Admission → Bool
lasts h = ltb (length h.plans) h.request.life

abbrev pub is_of : Name → Admission → Bool
is_of n h = same h.request.name n

-- what a call that answers 0 does: an offer begins an admission; a withdrawal ends that of its name; a beacon, with its plan rs, is an
-- interval of each that lasts, and after as many as its life it has ended
unfoldable pub note_done : Ledger → Call → List Run → Ledger
note_done l (Offer q) rs = record { held = begins q ∷ l.held; past = l.past }
note_done l (Withdraw n) rs = record { held = keep (λ h. not (is_of n h)) l.held; past = keep (is_of n) l.held ++ l.past }
note_done l (Beacon ws) rs =
    let hs = map (grown rs) l.held in
    record { held = keep lasts hs; past = keep (λ h. not (lasts h)) hs ++ l.past }

-- a refused call does nothing
unfoldable pub note : Ledger → Seen → Ledger
note l v = cond (eqb v.answer 0) (note_done l v.call v.plan) l

unfoldable pub note_all : Ledger → List Seen → Ledger
note_all l [] = l
note_all l (v ∷ vs) = note_all (note l v) vs

abbrev pub no_admission : Ledger
no_admission = record { held = []; past = [] }

abbrev pub ledger_of : List Seen → Ledger
ledger_of vs = note_all no_admission vs
