-- Each bound of demand 3 lies where it is: of admissions, assignments and lists of calls, those on the edge are right, and those one slot,
-- one interval or one number further are refused. The edits of this crate move them. Intervals have 8 slots. Assumes nothing.
use Rattle.std.specs.Prelude.{◌≡◌, refl, ◌⊎◌, Bool, true, false, cond, ◌&&◌, List, [], ◌∷◌, ◌++◌, ℕ, zero, suc, ◌≤◌, ◌<◌, ◌-◌, ltb, get_or, replicate}
use Rattle.std.proofs.Common.{sym, ap, inl, inr, ⊎_elim, arith}
use Rattle.std.proofs.Math.Option.{none, some, none-ne-some}
use Rattle.spec_lists.specs.Lists.{one_if}
use Rattle.spec_lists.specs.All.{stop, and}
use Rattle.base_lists.specs.All.{head, tail}
use Rattle.base_edf.specs.Time.{span_le}
use Rattle.spec_model.specs.Names.{same, name_in_range}
use Rattle.spec_model.specs.Requests.{refusal, field_checks}
use Rattle.spec_model.specs.ByNumbers.{interval, framed, stream, request}
use Rattle.spec_model.specs.declared.Frame.{Frame}
use Rattle.spec_model.specs.declared.Setting.{Setting}
use Rattle.spec_model.specs.declared.Request.{Request}
use Rattle.spec_model.specs.declared.Table.{Table}
use Rattle.spec_rules.specs.Slots.{Run, gives}
use Rattle.spec_rules.specs.Settings.{opened}
use Rattle.spec_rules.specs.Records.{plan_words}
use Rattle.spec_demand.specs.Assignment.{Assignment, is_to, assigned, LeavesHeader}
use Rattle.spec_demand.specs.History.{Call, Offer, Withdraw, Beacon, Seen, seen, after, history, table_after}
use Rattle.spec_demand.specs.Ledger.{Admission, Ledger, begins, note_done, note, note_all, ledger_of}
use Rattle.spec_demand.specs.Demand.{times_given, given_to, slots_of, had, Kept, Serves, offer_checks, Right, GivenOnce, HeaderFree, Demand3, seen_of}
use Rattle.spec_demand.specs.Demand.{seen_next}

abbrev admitted : Request → List (List Run) → Admission
admitted q ps = record { request = q; plans = ps }

abbrev eight : Frame
eight = interval 8

-- the first two of them are the header's
abbrev headed : Frame
headed = framed 8 2

-- a record that gives n slots from x on
abbrev slots : (stream x n : ℕ) → Run
slots s x n = record { name = stream s; job = 0; start = x; length = n }

-- a call that answers a, and has no plan; a beacon that is lent n words, answers a and plans rs
abbrev answered : Call → (a : ℕ) → Seen
answered c a = record { call = c; answer = a; plan = [] }

abbrev planned : (n a : ℕ) → List Run → Seen
planned n a rs = record { call = Beacon (replicate n 0); answer = a; plan = rs }

below_two : (n : ℕ) → n < 2 → (n ≡ 0) ⊎ (n ≡ 1)
below_two zero h = inl refl
below_two (suc n) h = inr (omega arith)

-- ---- completed periods
-- kind 1: two periods of four slots, each with two or three
abbrev fraction : (life : ℕ) → Request
fraction l = request 5 1 2 2 3 l

pub fraction_edge : Kept eight (admitted (fraction 1) ((slots 5 0 2 ∷ slots 5 4 3 ∷ []) ∷ []))
unfolding slots_of given_to same
fraction_edge =
    record {
      fractions = λ e k j p q. let z : k ≡ 0 = omega arith in
          elim (below_two j (omega arith)) [ inl x ↦ rw (z, x) (omega arith) | inr x ↦ rw (z, x) (omega arith) ];
      wholes = λ e. absurd (omega arith);
      transfer = λ e. absurd (omega arith);
    }

abbrev short : List Run
short = slots 5 0 1 ∷ slots 5 4 2 ∷ []

pub fraction_short : (l : ℕ) → Kept eight (admitted (fraction l) (short ∷ [])) → ⊥
unfolding slots_of given_to same
fraction_short l k = omega (arith, (k.fractions refl 0 0 (omega arith) (omega arith)).0)

pub fraction_long : Kept eight (admitted (fraction 1) ((slots 5 0 2 ∷ slots 5 4 4 ∷ []) ∷ [])) → ⊥
unfolding slots_of given_to same
fraction_long k = omega (arith, (k.fractions refl 0 1 (omega arith) (omega arith)).1)

-- kind 2: periods of two intervals, each with three or four
abbrev whole : Request
whole = request 7 2 2 3 4 4

abbrev first : (n : ℕ) → List Run
first n = slots 7 0 n ∷ []

pub whole_edge : Kept eight (admitted whole (first 1 ∷ first 2 ∷ first 4 ∷ first 0 ∷ []))
unfolding had slots_of given_to same
whole_edge =
    record {
      fractions = λ e. absurd (omega arith);
      wholes = λ e i p. elim (below_two i (omega arith)) [ inl x ↦ rw x (omega arith) | inr x ↦ rw x (omega arith) ];
      transfer = λ e. absurd (omega arith);
    }

pub whole_short : Kept eight (admitted whole (first 1 ∷ first 1 ∷ [])) → ⊥
unfolding had slots_of given_to same
whole_short k = omega (arith, (k.wholes refl 0 (omega arith)).0)

pub whole_long : Kept eight (admitted whole (first 1 ∷ first 2 ∷ first 3 ∷ first 2 ∷ [])) → ⊥
unfolding had slots_of given_to same
whole_long k = omega (arith, (k.wholes refl 1 (omega arith)).1)

-- kind 3: three slots in two intervals
abbrev transfer : Request
transfer = request 7 3 2 3 0 2

-- what others get does not count, and the last slots of an interval do
pub transfer_edge : Kept eight (admitted transfer (first 1 ∷ (slots 5 0 4 ∷ slots 7 6 2 ∷ []) ∷ []))
unfolding had slots_of given_to same
transfer_edge = record { fractions = λ e. absurd (omega arith); wholes = λ e. absurd (omega arith); transfer = λ e p. omega arith }

pub transfer_short : Kept eight (admitted transfer (first 1 ∷ first 1 ∷ [])) → ⊥
unfolding had slots_of given_to same
transfer_short k = omega (arith, k.transfer refl (omega arith))

pub transfer_long : Kept eight (admitted transfer (first 2 ∷ first 2 ∷ [])) → ⊥
unfolding had slots_of given_to same
transfer_long k = omega (arith, k.transfer refl (omega arith))

-- ---- slots
one_most : (b : Bool) → one_if b ≤ 1
one_most true = omega arith
one_most false = omega arith

pub slot_once : (n a : ℕ) → GivenOnce (planned n a (slots 5 0 2 ∷ []))
unfolding times_given
slot_once n a x = omega (arith, one_most (gives (slots 5 0 2) x))

pub slot_twice : (n a : ℕ) → GivenOnce (planned n a (slots 5 0 2 ∷ slots 7 1 1 ∷ [])) → ⊥
unfolding times_given
slot_twice n a o = omega (arith, o 1)

-- the first slot after the header may be given, the last one of it not
pub header_edge : (n a : ℕ) → HeaderFree headed (planned n a (slots 5 2 2 ∷ []))
unfolding times_given
header_edge n a x l = elim (below_two x l) [ inl e ↦ rw e refl | inr e ↦ rw e refl ]

pub header_given : (n a : ℕ) → HeaderFree headed (planned n a (slots 5 1 2 ∷ [])) → ⊥
unfolding times_given
header_given n a f = omega (arith, f 1 (omega arith))

-- ---- admissions
-- stream 5 ends with its life, stream 9 is withdrawn, stream 7 lasts; a refused call begins, ends and plans nothing
pub ledger_edge :
    ledger_of (answered (Offer (fraction 1)) 0
    ∷ answered (Offer whole) 0
    ∷ answered (Offer (request 9 3 2 3 0 2)) 0
    ∷ answered (Offer (request 6 3 2 3 0 2)) 17
    ∷ planned plan_words 0 short
    ∷ planned (plan_words - 1) 30 []
    ∷ answered (Withdraw (stream 9)) 0
    ∷ answered (Withdraw (stream 7)) 20
    ∷ planned plan_words 0 (first 3)
    ∷ []) ≡ record {
      held = admitted whole (short ∷ first 3 ∷ []) ∷ [];
      past = admitted (request 9 3 2 3 0 2) (short ∷ []) ∷ admitted (fraction 1) (short ∷ []) ∷ [];
    }
unfolding same note_done note note_all
ledger_edge = refl

-- ---- answers
-- stream 5 is held
abbrev five : List Seen
five = answered (Offer (fraction 1)) 0 ∷ []

-- 10 is due
pub stream_offered : (l : Ledger) → Right eight l (answered (Offer (request 0 3 1 3 0 1)) 0) → ⊥
unfolding refusal offer_checks name_in_range
stream_offered l r = omega (arith, r.0 (λ e. omega arith))

-- 11 is due
pub held_offered : Right eight (ledger_of five) (answered (Offer (fraction 1)) 12) → ⊥
unfolding refusal offer_checks name_in_range same note_done note note_all
held_offered r = omega (arith, r.0 (λ e. omega arith))

-- 12 is due, before 16
abbrev holding : ℕ → Ledger
holding n = record { held = replicate n (begins (fraction 1)); past = [] }

pub fields_offered : Right eight (holding 32) (answered (Offer (request 7 4 1 3 0 1)) 16) → ⊥
unfolding refusal field_checks offer_checks same name_in_range
fields_offered r = omega (arith, r.0 (λ e. omega arith))

-- 16 is due
pub full_offered : Right eight (holding 32) (answered (Offer (request 7 3 1 3 0 1)) 0) → ⊥
unfolding refusal field_checks offer_checks same name_in_range
full_offered r = omega (arith, r.0 (λ e. omega arith))

-- 0 or 17 is due
pub new_offered : Right eight (holding 31) (answered (Offer (request 7 3 1 3 0 1)) 16) → ⊥
unfolding refusal field_checks offer_checks same name_in_range
new_offered r = ⊎_elim (λ e. omega arith) (λ e. omega arith) (r.1 refl)

pub held_not_withdrawn : Right eight (ledger_of five) (answered (Withdraw (stream 5)) 20) → ⊥
unfolding refusal same note_done note note_all
held_not_withdrawn r = omega arith

pub other_withdrawn : Right eight (ledger_of five) (answered (Withdraw (stream 6)) 0) → ⊥
unfolding refusal same note_done note note_all
other_withdrawn r = omega arith

pub beacon_refused : (l : Ledger) → Right eight l (planned plan_words 30 []) → ⊥
unfolding refusal
beacon_refused l r = omega arith

pub beacon_planned : (l : Ledger) → Right eight l (planned (plan_words - 1) 0 []) → ⊥
unfolding refusal
beacon_planned l r = omega arith

-- ---- assignments
-- the first slots of each coming interval, as many as the list says
abbrev gets : (stream : ℕ) → List ℕ → Assignment
gets s ns k z = cond (ltb z (get_or ns k 0)) (some (stream s)) none

-- a slot goes to one stream alone
pub slot_of_one : assigned (gets 5 (8 ∷ [])) (stream 7) 0 0 8 ≡ 0
unfolding assigned same
slot_of_one = refl

-- where there is no header, nothing is to be left free
no_header : (a : Assignment) → LeavesHeader eight a
no_header a k x l = absurd (omega arith)

-- kind 1: all four slots of each period
pub fraction_served : Serves eight (gets 5 (8 ∷ [])) (begins (request 5 1 2 4 4 1))
unfolding assigned same
fraction_served =
    record {
      fractions = λ e k j p q. let z : k ≡ 0 = omega arith in
          elim (below_two j (omega arith)) [ inl x ↦ rw (z, x) (omega arith) | inr x ↦ rw (z, x) (omega arith) ];
      periods = λ n. absurd (n refl);
    }

pub fraction_unserved : Serves eight (gets 5 (7 ∷ [])) (begins (request 5 1 2 4 4 1)) → ⊥
unfolding assigned same
fraction_unserved s = omega (arith, s.fractions refl 0 1 (omega arith) (omega arith))

-- kind 2: of the period that runs two slots are left, and the last one in the life has three
abbrev begun : Admission
begun = admitted whole (first 1 ∷ [])

pub whole_served : Serves eight (gets 7 (2 ∷ 3 ∷ [])) begun
unfolding assigned had slots_of given_to same
whole_served =
    record {
      fractions = λ e. absurd (omega arith);
      periods = λ n i p q. elim (below_two i (omega arith)) [ inl x ↦ rw x (omega arith) | inr x ↦ rw x (omega arith) ];
    }

pub running_unserved : Serves eight (gets 7 (1 ∷ 3 ∷ [])) begun → ⊥
unfolding assigned had slots_of given_to same
running_unserved s = omega (arith, s.periods (λ e. omega arith) 0 (omega arith) (omega arith))

pub later_unserved : Serves eight (gets 7 (2 ∷ 1 ∷ 1 ∷ [])) begun → ⊥
unfolding assigned had slots_of given_to same
later_unserved s = omega (arith, s.periods (λ e. omega arith) 1 (omega arith) (omega arith))

-- kind 3: a transfer in one interval, of as many slots as it has, and of one more, which no assignment serves
abbrev transfer_of : ℕ → Request
transfer_of n = request 7 3 1 n 0 1

eight_served : Serves eight (gets 7 (8 ∷ [])) (begins (transfer_of 8))
unfolding assigned had slots_of given_to same
eight_served =
    record { fractions = λ e. absurd (omega arith); periods = λ n i p q. let z : i ≡ 0 = omega arith in rw z (omega arith) }

nine_unserved : (a : Assignment) → Serves eight a (begins (transfer_of 9)) → ⊥
unfolding assigned had slots_of given_to same
nine_unserved a s =
    let most = span_le (λ z. one_if (is_to (stream 7) (a 0 z))) (λ z. 1) 0 8 (λ z. one_most (is_to (stream 7) (a 0 z))) in
    omega (arith, s.periods (λ e. omega arith) 0 (omega arith) (omega arith), most)

-- slots from 2 up to n, after the header, and from the first on
abbrev after2 : (n : ℕ) → Assignment
after2 n k z = cond (ltb 1 z && ltb z n) (some (stream 7)) none

pub leaves_edge : (n : ℕ) → LeavesHeader headed (after2 n)
leaves_edge n k x l = elim (below_two x l) [ inl e ↦ rw e refl | inr e ↦ rw e refl ]

pub header_assigned : LeavesHeader headed (gets 7 (0 ∷ 1 ∷ [])) → ⊥
header_assigned f = none-ne-some (stream 7) (sym (f 1 0 (omega arith)))

six_served : Serves headed (after2 8) (begins (transfer_of 6))
unfolding assigned had slots_of given_to same
six_served =
    record { fractions = λ e. absurd (omega arith); periods = λ n i p q. let z : i ≡ 0 = omega arith in rw z (omega arith) }

seven_unserved : (a : Assignment) → LeavesHeader headed a → Serves headed a (begins (transfer_of 7)) → ⊥
unfolding assigned had slots_of given_to same
seven_unserved a f s =
    let most = span_le (λ z. one_if (is_to (stream 7) (a 0 z))) (λ z. 1) 2 8 (λ z. one_most (is_to (stream 7) (a 0 z))) in
    omega (
      arith,
      s.periods (λ e. omega arith) 0 (omega arith) (omega arith),
      ap (λ c. one_if (is_to (stream 7) c)) (f 0 0 (omega arith)),
      ap (λ c. one_if (is_to (stream 7) c)) (f 0 1 (omega arith)),
      most,
    )

-- ---- lists of calls
-- a call that follows is the last of the longer list
history_ends : (t : Table) (cs : List Call) (c : Call) → history t (cs ++ (c ∷ [])) ≡ history t cs ++ (seen (table_after t cs) c ∷ [])
unfolding history table_after
history_ends t [] c = refl
history_ends t (d ∷ cs) c = ap (λ vs. seen t d ∷ vs) (history_ends (after t d) cs c)

pub next_last : (s : Setting) (cs : List Call) (c : Call) → seen_of s (cs ++ (c ∷ [])) ≡ seen_of s cs ++ (seen_next s cs c ∷ [])
next_last s cs c = history_ends (opened s) cs c

module _ (next : Call → Seen) where
  -- an admission that lasts, one withdrawn, and one whose life is over
  pub lasting_kept : Demand3 eight (answered (Offer (fraction 2)) 0 ∷ planned plan_words 0 short ∷ []) next → ⊥
  unfolding same note_done note note_all
  lasting_kept d = fraction_short 2 (head d.kept)

  pub withdrawn_kept : Demand3 eight (answered (Offer (fraction 2)) 0 ∷ planned plan_words 0 short ∷ answered (Withdraw (stream 5)) 0 ∷ []) next → ⊥
  unfolding same note_done note note_all
  withdrawn_kept d = fraction_short 2 (head d.kept)

  pub ended_kept : Demand3 eight (answered (Offer (fraction 1)) 0 ∷ planned plan_words 0 short ∷ []) next → ⊥
  unfolding same note_done note note_all
  ended_kept d = fraction_short 1 (head d.kept)

  pub plan_twice : Demand3 eight (planned plan_words 0 (slots 5 0 2 ∷ slots 7 1 1 ∷ []) ∷ []) next → ⊥
  plan_twice d = slot_twice plan_words 0 (head d.once)

  pub header_planned : Demand3 headed (planned plan_words 0 (slots 5 1 2 ∷ []) ∷ []) next → ⊥
  header_planned d = header_given plan_words 0 (head d.header)

-- every call that follows is refused, or succeeds
abbrev refuses : Call → Seen
refuses (Offer q) = answered (Offer q) 17
refuses (Withdraw n) = answered (Withdraw n) 20
refuses (Beacon ws) = answered (Beacon ws) 30

abbrev accepts : Call → Seen
accepts c = answered c 0

pub answers_right : Demand3 eight five refuses → ⊥
answers_right d = held_not_withdrawn (d.answers (Withdraw (stream 5)))

pub offered_served : Demand3 eight [] accepts → ⊥
offered_served d = let s = d.accepted (transfer_of 9) refl in nine_unserved s.0 (head s.1.1)

-- a held one that no assignment serves, whatever is offered
pub held_served : Demand3 eight (answered (Offer (transfer_of 9)) 0 ∷ []) accepts → ⊥
unfolding same note_done note note_all
held_served d = let s = d.accepted (fraction 1) refl in nine_unserved s.0 (head (tail s.1.1))

pub none_refused : Demand3 eight [] refuses → ⊥
unfolding note_all
none_refused d = d.refused (transfer_of 8) refl (gets 7 (8 ∷ [])) (no_header (gets 7 (8 ∷ [])), and eight_served stop)

pub refused_exact : Demand3 eight [] refuses → ⊥
unfolding refusal field_checks offer_checks same name_in_range note_all
refused_exact d = (d.exact (transfer_of 8) refl).0 refl (gets 7 (8 ∷ [])) (no_header (gets 7 (8 ∷ [])), and eight_served stop)

pub accepted_exact : Demand3 eight [] accepts → ⊥
unfolding refusal field_checks offer_checks same name_in_range note_all
accepted_exact d = omega (arith, (d.exact (transfer_of 9) refl).1 (λ a s. nine_unserved a (head s.1)))

-- with a header: what fits the slots after it is served, and one slot more is not
pub headed_served : Demand3 headed [] accepts → ⊥
headed_served d = let s = d.accepted (transfer_of 7) refl in seven_unserved s.0 s.1.0 (head s.1.1)

pub headed_refused : Demand3 headed [] refuses → ⊥
unfolding note_all
headed_refused d = d.refused (transfer_of 6) refl (after2 8) (leaves_edge 8, and six_served stop)

pub headed_exact : Demand3 headed [] accepts → ⊥
unfolding refusal field_checks offer_checks same name_in_range note_all
headed_exact d = omega (arith, (d.exact (transfer_of 7) refl).1 (λ a s. seven_unserved a s.0 (head s.1)))
