-- Demand 3, "What a list of calls gives" of document 01 and No. 1 of document 02, as one statement over arguments, answers and plans: no table
-- is named in it.
-- F is the interval. docs/GUARANTEE.md reads it line by line; proofs/Bounds.antt has what lies on each bound and beyond.
-- Assumes nothing.
use Rattle.std.specs.Prelude.{◌≡◌, ◌⊎◌, ◌↔◌, ◌≢◌, not, ◌&&◌, List, [], ◌∷◌, ◌++◌, ℕ, suc, ◌+◌, ◌*◌, ◌-◌, ◌≤◌, ◌<◌, ltb, leb, length, get_or}
use Rattle.spec_lists.specs.Lists.{one_if, sum_of, any_of, span}
use Rattle.spec_lists.specs.All.{All}
use Rattle.spec_model.specs.Frames.{slots_in, header_in, part_of}
use Rattle.spec_model.specs.Names.{same, name_in_range}
use Rattle.spec_model.specs.Requests.{Check, check, refusal, field_checks}
use Rattle.spec_model.specs.Tables.{most_held}
use Rattle.spec_model.specs.declared.Frame.{Frame}
use Rattle.spec_model.specs.declared.Name.{Name}
use Rattle.spec_model.specs.declared.Setting.{Setting}
use Rattle.spec_model.specs.declared.Request.{Request}
use Rattle.spec_rules.specs.Slots.{Run, gives}
use Rattle.spec_rules.specs.Records.{plan_words}
use Rattle.spec_rules.specs.Settings.{Succeeds, frame_of, opened}
use Rattle.spec_demand.specs.Assignment.{Assignment, assigned, LeavesHeader}
use Rattle.spec_demand.specs.History.{Call, Offer, Withdraw, Beacon, Seen, seen, history, table_after}
use Rattle.spec_demand.specs.Ledger.{Admission, Ledger, asked_by, begins, is_of, ledger_of}

-- ---- what a plan gives
-- how often a plan gives slot x; how often to request n
unfoldable pub times_given : ℕ → List Run → ℕ
times_given x rs = sum_of (λ (r : Run). one_if (gives r x)) rs

unfoldable pub given_to : Name → ℕ → List Run → ℕ
given_to n x rs = sum_of (λ (r : Run). one_if (gives r x && same r.name n)) rs

-- the slots from a up to b of a plan that are given to request n
unfoldable pub slots_of : Name → (a b : ℕ) → List Run → ℕ
slots_of n a b rs = span (λ x. given_to n x rs) a b

-- what an admission has had in its intervals from a up to b; those still to come count nothing
unfoldable pub had : Frame → Admission → (a b : ℕ) → ℕ
had F h a b = span (λ k. slots_of h.request.name 0 (slots_in F) (get_or h.plans k [])) a b

-- ---- first half: each completed period, all of whose intervals are among those of the admission
pub record Kept (F : Frame) (h : Admission) : Type 0 where
  -- kind 1: period j of each interval k, released at j times B/m, due at (j+1) times B/m
  pub fractions :
      h.request.kind ≡ 1 → (k j : ℕ) → k < length h.plans → j < h.request.period
      → let T = part_of F h.request.period in
      let n = slots_of h.request.name (j * T) (suc j * T) (get_or h.plans k []) in
      (h.request.min ≤ n) × (n ≤ h.request.max)
  -- kind 2: period i is as many intervals as the period field says, straight after the one before
  pub wholes :
      h.request.kind ≡ 2 → (i : ℕ) → suc i * h.request.period ≤ length h.plans
      → let slots = had F h (i * h.request.period) (suc i * h.request.period) in
      (h.request.min ≤ slots) × (slots ≤ h.request.max)
  -- kind 3: one period up to the deadline, exactly its amount
  pub transfer : h.request.kind ≡ 3 → h.request.period ≤ length h.plans → had F h 0 h.request.period ≡ asked_by h.request

-- ---- second half: what an assignment of the coming slots owes an admission
-- each period in its life that is not completed gets what it asks, its minimum, less what it has had
pub record Serves (F : Frame) (a : Assignment) (h : Admission) : Type 0 where
  -- kind 1: each period j of each coming interval k of its life
  pub fractions :
      h.request.kind ≡ 1 → (k j : ℕ) → length h.plans + k < h.request.life → j < h.request.period
      → let T = part_of F h.request.period in
      asked_by h.request ≤ assigned a h.request.name k (j * T) (suc j * T)
  -- kinds 2 and 3: period i, whose intervals still to come are those from now (interval length of plans) on
  pub periods :
      h.request.kind ≢ 1 → (i : ℕ) → suc i * h.request.period ≤ h.request.life → length h.plans < suc i * h.request.period
      → asked_by h.request - had F h (i * h.request.period) (suc i * h.request.period)
      ≤ span (λ k. assigned a h.request.name k 0 (slots_in F)) (i * h.request.period - length h.plans)
      (suc i * h.request.period - length h.plans)

-- ---- answers
-- the refusals of an offer but the last, as the admissions have them
unfoldable pub offer_checks : Frame → Ledger → Request → List Check
offer_checks F l q =
    check 10 (not (name_in_range q.name))
    ∷ check 11 (any_of (is_of q.name) l.held)
    ∷ (field_checks F q ++ (check 16 (leb most_held (length l.held)) ∷ []))

-- a call's answer is the one that the admissions before it ask for; where no other check refuses an offer, it is 0 or 17
abbrev pub RightAnswer : Frame → Ledger → Call → (answer : ℕ) → Type 0
RightAnswer F l (Offer q) a =
    (refusal (offer_checks F l q) ≢ 0 → a ≡ refusal (offer_checks F l q))
    × (refusal (offer_checks F l q) ≡ 0 → (a ≡ 0) ⊎ (a ≡ 17))
RightAnswer F l (Withdraw n) a = a ≡ refusal (check 20 (not (any_of (is_of n) l.held)) ∷ [])
RightAnswer F l (Beacon ws) a = a ≡ refusal (check 30 (ltb (length ws) plan_words) ∷ [])

abbrev pub Right : Frame → Ledger → Seen → Type 0
Right F l v = RightAnswer F l v.call v.answer

-- ---- slots
-- a plan gives no slot twice
abbrev pub GivenOnce : Seen → Type 0
GivenOnce v = (x : ℕ) → times_given x v.plan ≤ 1

-- no plan gives a slot of the header
abbrev pub HeaderFree : Frame → Seen → Type 0
HeaderFree F v = (x : ℕ) → x < header_in F → times_given x v.plan ≡ 0

-- ---- the demand, of what was seen of some calls, vs, and of what is seen of any call that follows them
-- the answer to an offer that follows
abbrev pub answer_to : (next : Call → Seen) → Request → ℕ
answer_to next q = (next (Offer q)).answer

-- an assignment leaves the headers free, and serves the minimums of all held requests and of the offered one, which counts as accepted
abbrev pub ServesAll : Frame → List Seen → Request → Assignment → Type 0
ServesAll F vs q a = LeavesHeader F a × All (Serves F a) (begins q ∷ (ledger_of vs).held)

pub record Demand3 (F : Frame) (vs : List Seen) (next : Call → Seen) : Type 0 where
  pub kept : All (Kept F) ((ledger_of vs).held ++ (ledger_of vs).past)
  pub once : All GivenOnce vs
  pub header : All (HeaderFree F) vs
  pub answers : (c : Call) → Right F (ledger_of vs) (next c)
  -- both directions as facts one can use: an assignment is there, or every assignment is refuted
  pub accepted : (q : Request) → answer_to next q ≡ 0 → (a : Assignment) × ServesAll F vs q a
  pub refused : (q : Request) → answer_to next q ≡ 17 → (a : Assignment) → ServesAll F vs q a → ⊥
  pub exact :
      (q : Request) → refusal (offer_checks F (ledger_of vs) q) ≡ 0
      → (answer_to next q ≡ 17) ↔ ((a : Assignment) → ServesAll F vs q a → ⊥)

-- ---- the claim, of the calls cs from the table of a successful opening that is told s
module _ (s : Setting) (cs : List Call) where
  abbrev pub seen_of : List Seen
  seen_of = history (opened s) cs

  -- what is seen of a call that follows, on the table that they leave
  abbrev pub seen_next : Call → Seen
  seen_next c = seen (table_after (opened s) cs) c

  abbrev pub Demanded : Type 0
  Demanded = Demand3 (frame_of s) seen_of seen_next

abbrev pub Claim : Type 0
Claim = (s : Setting) → Succeeds s → (cs : List Call) → Demanded s cs
