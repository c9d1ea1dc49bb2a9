-- Demand 3, proved. Along the list what stands between two calls is kept (Keeps); what is claimed of a call that follows is then what
-- holds of a call on a well-formed table whose held entries are matched with the admissions. Assumes nothing.
use Rattle.std.specs.Prelude.{◌≡◌, ◌⊎◌, Bool, not, List, [], ◌∷◌, ◌++◌, ◌*◌, ◌≤◌, ltb, leb, eqb, length, drop}
use Rattle.std.proofs.Math.Path.{refl, ap, ap₂, subst}
use Rattle.std.proofs.Common.{sym, ◌∙◌, inl, inr, ⊎_elim, zero-le, arith}
use Rattle.std.proofs.Math.Bool.{true, false, cond}
use Rattle.spec_lists.specs.Lists.{any_of}
use Rattle.spec_lists.specs.All.{All, stop, and}
use Rattle.base_lists.specs.All.{head, tail, all_append}
use Rattle.base_lists.specs.Picked.{done, paired_length, paired_with, paired_left, paired_right, paired_any}
use Rattle.spec_model.specs.Requests.{check, refusal}
use Rattle.spec_model.specs.Names.{same}
use Rattle.spec_model.specs.Entries.{entry_of, is_named}
use Rattle.spec_model.specs.Tables.{most_held, held_of, with_entries}
use Rattle.spec_model.specs.declared.Frame.{Frame}
use Rattle.spec_model.specs.declared.Name.{Name}
use Rattle.spec_model.specs.declared.Setting.{Setting}
use Rattle.spec_model.specs.declared.Request.{Request}
use Rattle.spec_model.specs.declared.Table.{Table}
use Rattle.spec_demand.specs.Assignment.{Assignment, LeavesHeader}
use Rattle.spec_rules.specs.Slots.{Run}
use Rattle.spec_rules.specs.Settings.{Succeeds, frame_of, opened}
use Rattle.spec_rules.specs.Records.{record_words, plan_words, records_of}
use Rattle.spec_rules.specs.Calls.{holds, offer_answer, placed, offered, held_answer, freed, withdrawn}
use Rattle.spec_rules.specs.Calls.{plan_of, advanced, refused_beacon, planned_beacon, beacon}
use Rattle.spec_rules.specs.WellFormed.{WellFormed}
use Rattle.law_model.specs.Frames.{opened_none}
use Rattle.law_model.specs.Records.{records_back}
use Rattle.law_steps.specs.Offers.{offer_checks_but, is_full, has_time}
use Rattle.law_steps.proofs.Offers.{offer_refused, offer_passed, answer_passed}
use Rattle.law_ahead.proofs.Tables.{formed_together}
use Rattle.law_ahead.proofs.Formed.{opened_formed, passed_held}
use Rattle.law_exact.proofs.Offer.{offer_served, offer_hopeless}
use Rattle.spec_demand.specs.History.{Call, Offer, Withdraw, Beacon, answer_on, plan_on, seen, after, history, table_after}
use Rattle.spec_demand.specs.Ledger.{Ledger, begins, is_of, note, note_all, no_admission, ledger_of}
use Rattle.spec_demand.specs.Demand.{times_given, Kept, Serves, offer_checks, Right, GivenOnce, HeaderFree, answer_to, ServesAll, seen_of, seen_next, Claim}
use Rattle.law_demand.specs.Link.{same_fields, begins_linked}
use Rattle.law_demand.specs.Serving.{serves_entry, entry_serves}
use Rattle.law_demand.specs.Planned.{plan_once, plan_header}
use Rattle.law_demand.specs.Keeps.{Stands, call_stands}

-- ---- along the list
-- no call changes the interval
frame_kept : (t : Table) (c : Call) → (after t c).frame ≡ t.frame
unfolding after offered withdrawn beacon advanced
frame_kept t (Offer q) = either (eqb (offer_answer t q) 0)
  where
    either : (b : Bool) → (cond b (with_entries t (placed (entry_of q) t.entries)) t).frame ≡ t.frame
    either true = refl
    either false = refl
frame_kept t (Withdraw n) = either (holds t n)
  where
    either : (b : Bool) → (cond b (with_entries t (freed n t.entries)) t).frame ≡ t.frame
    either true = refl
    either false = refl
frame_kept t (Beacon ws) = either (ltb (length ws) plan_words)
  where
    either : (b : Bool) → (cond b (refused_beacon t ws) (planned_beacon t ws (plan_of t))).table.frame ≡ t.frame
    either true = refl
    either false = refl

frame_along : (t : Table) (cs : List Call) → (table_after t cs).frame ≡ t.frame
unfolding table_after
frame_along t [] = refl
frame_along t (c ∷ cs) = frame_along (after t c) cs ∙ frame_kept t c

along : (cs : List Call) (l : Ledger) (t : Table) → Stands l t → Stands (note_all l (history t cs)) (table_after t cs)
unfolding note_all history table_after
along [] l t v = v
along (c ∷ cs) l t v = along cs (note l (seen t c)) (after t c) (call_stands l t v c)

-- what holds of a table's plan, and of none, holds of what a call on it shows
each_plan : (P : List Run → Type 0) → P [] → (t : Table) → P (plan_of t) → (c : Call) → P (seen t c).plan
unfolding plan_on beacon records_of
each_plan P z t p (Offer q) = z
each_plan P z t p (Withdraw n) = z
each_plan P z t p (Beacon ws) = go (ltb (length ws) plan_words)
  where
    go : (b : Bool) → (let r = cond b (refused_beacon t ws) (planned_beacon t ws (plan_of t)) in P (records_of r.count r.words))
    go true = z
    go false = subst P (sym (records_back (plan_of t) (drop (record_words * length (plan_of t)) ws))) p

once_all : (cs : List Call) (t : Table) → All GivenOnce (history t cs)
unfolding history plan_of times_given
once_all [] t = stop
once_all (c ∷ cs) t =
    and (λ x. each_plan (λ rs. times_given x rs ≤ 1) zero-le t (plan_once t.frame (held_of t) x) c) (once_all cs (after t c))

header_all : (F : Frame) (cs : List Call) (t : Table) → t.frame ≡ F → All (HeaderFree F) (history t cs)
unfolding history plan_of times_given
header_all F [] t e = stop
header_all F (c ∷ cs) t e =
    and (subst (λ G. HeaderFree G (seen t c)) e
    (λ x l. each_plan (λ rs. times_given x rs ≡ 0) refl t (plan_header t.frame (held_of t) x l) c))
    (header_all F cs (after t c) (frame_kept t c ∙ e))

-- ---- a call that follows
module _ (l : Ledger) (t : Table) (v : Stands l t) where
  abbrev F : Frame
  F = t.frame

  -- the admissions hold a name where the table does, and as many
  held_same : (n : Name) → any_of (is_of n) l.held ≡ holds t n
  held_same n = paired_any (is_of n) (is_named n) (λ h e r. ap (λ m. same m n) (sym (same_fields e r.request).name)) v.paired

  checks_same : (q : Request) → offer_checks F l q ≡ offer_checks_but (holds t q.name) (is_full t q) F q
  unfolding offer_checks
  checks_same q = ap₂ (λ a n. offer_checks_but a (leb most_held n) F q) (held_same q.name) (paired_length v.paired)

  zero_or : (q : Request) → refusal (offer_checks_but (holds t q.name) (is_full t q) F q) ≡ 0
      → (offer_answer t q ≡ 0) ⊎ (offer_answer t q ≡ 17)
  zero_or q h = go (has_time t q) (offer_passed t q h)
    where
      go : (b : Bool) → offer_answer t q ≡ cond (not b) 17 0 → (offer_answer t q ≡ 0) ⊎ (offer_answer t q ≡ 17)
      go true z = inl z
      go false z = inr z

  pub answer_right : (c : Call) → Right F l (seen t c)
  unfolding answer_on held_answer beacon refusal
  answer_right (Offer q) = rw (checks_same q) (offer_refused t q, zero_or q)
  answer_right (Withdraw n) = ap (λ b. refusal (check 20 (not b) ∷ [])) (sym (held_same n))
  answer_right (Beacon ws) = go (ltb (length ws) plan_words)
    where
      go : (b : Bool) → (cond b (refused_beacon t ws) (planned_beacon t ws (plan_of t))).answer ≡ cond b 30 0
      go true = refl
      go false = refl

  -- ---- lack of time
  abbrev ServedBy : Frame → Request → Assignment → Type 0
  ServedBy G q a = LeavesHeader G a × All (Serves G a) (begins q ∷ l.held)

  pub served : (q : Request) → offer_answer t q ≡ 0 → (a : Assignment) × ServedBy F q a
  served q z =
      let h = answer_passed t q (inl z) in
      let s = offer_served t v.formed q h z in
      let pairs = paired_with (paired_with v.paired v.kept (formed_together v.formed).held) v.kept (tail s.1.1) in (
        s.0,
        (
          s.1.0,
          and (entry_serves (passed_held t v.formed q h) (begins_linked F q) (head s.1.1))
              (paired_left pairs (λ x e r. entry_serves r.0.2 r.0.0 r.2)),
        ),
      )

  pub hopeless : (q : Request) → offer_answer t q ≡ 17 → (a : Assignment) → ServedBy F q a → ⊥
  hopeless q z a s =
      let h = answer_passed t q (inr z) in
      let pairs = paired_with v.paired (tail s.1) (formed_together v.formed).held in
      offer_hopeless t v.formed q h z a (
        s.0,
        and (serves_entry (passed_held t v.formed q h) (begins_linked F q) (head s.1))
            (paired_right pairs (λ x e r. serves_entry r.2 r.0 r.1)),
      )

-- ---- the theorem
start : (s : Setting) → Succeeds s → Stands no_admission (opened s)
start s h =
    subst (λ t. WellFormed t → Stands no_admission t) (sym (opened_none s))
    (λ w. record { formed = w; paired = done; kept = stop; past = stop })
    (opened_formed s h)

module _ (s : Setting) (h : Succeeds s) (cs : List Call) where
  abbrev reached : Table
  reached = table_after (opened s) cs

  abbrev ledger : Ledger
  ledger = ledger_of (seen_of s cs)

  pub reached_stands : Stands ledger reached
  reached_stands = along cs no_admission (opened s) (start s h)

  frame_is : reached.frame ≡ frame_of s
  frame_is = frame_along (opened s) cs ∙ ap (λ (t : Table). t.frame) (opened_none s)

  right_next : (c : Call) → Right (frame_of s) ledger (seen reached c)
  right_next c = subst (λ F. Right F ledger (seen reached c)) frame_is (answer_right ledger reached reached_stands c)

  served_next : (q : Request) → answer_to (seen_next s cs) q ≡ 0 → (a : Assignment) × ServesAll (frame_of s) (seen_of s cs) q a
  unfolding answer_on
  served_next q z =
      subst (λ F. (a : Assignment) × ServedBy ledger reached reached_stands F q a) frame_is (served ledger reached reached_stands q z)

  hopeless_next : (q : Request) → answer_to (seen_next s cs) q ≡ 17 → (a : Assignment) → ServesAll (frame_of s) (seen_of s cs) q a → ⊥
  unfolding answer_on
  hopeless_next q z a r =
      hopeless ledger reached reached_stands q z a (subst (λ F. ServedBy ledger reached reached_stands F q a) (sym frame_is) r)

pub demand3 : Claim
demand3 s h cs =
    record {
      kept = subst (λ F. All (Kept F) ((ledger s h cs).held ++ (ledger s h cs).past)) (frame_is s h cs) (all_append v.kept v.past);
      once = once_all cs (opened s);
      header = header_all (frame_of s) cs (opened s) (ap (λ (t : Table). t.frame) (opened_none s));
      answers = right_next s h cs;
      accepted = served_next s h cs;
      refused = hopeless_next s h cs;
      exact = λ q p. (
        hopeless_next s h cs q,
        λ f. ⊎_elim (λ z. absurd (refute f (served_next s h cs q z))) (λ z. z) ((right_next s h cs (Offer q)).1 p),
      );
    }
  where
    v : Stands (ledger s h cs) (reached s h cs)
    v = reached_stands s h cs

    refute : {P : Assignment → Type 0} → ((a : Assignment) → P a → ⊥) → (a : Assignment) × P a → ⊥
    refute f x = f x.0 x.1
