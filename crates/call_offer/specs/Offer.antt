-- An offer's answer as a program finds it: the checks one after the other, and looking ahead at the table with the request in its
-- place. Assumes nothing.
use Rattle.std.specs.Prelude.{◌≡◌, ◌⊎◌, ◌≢◌, Bool, true, false, not, ◌&&◌, List, [], ◌∷◌, ◌++◌, ℕ, ◌+◌, ◌≤◌, ◌<◌, eqb, set, Option, None, Some}
use Rattle.std.specs.Option.{is_none, ok_or}
use Rattle.std.proofs.Math.Path.{refl, sym, ap}
use Rattle.std.proofs.Common.{ap₂, subst, ◌∙◌, inl, inr}
use Rattle.std.proofs.Math.Bool.{cond}
use Rattle.std.proofs.Math.Decide.{ℕ_discrete}
use native.Mathlib.Omega.{arith}
use Rattle.std.proofs.Math.Dec.{leb}
use borrow.Author.Tests.{eq-eqb, ne_eqb, leb-true}
use Rattle.spec_lists.specs.Lists.{sum_of}
use Rattle.base_lists.specs.Sums.{sum_keep_le}
use Rattle.base_lists.specs.Picked.{picked_sum}
use Rattle.base_lists.specs.First.{first_of}
use Rattle.spec_model.specs.Requests.{Check, check, refusal, field_checks}
use Rattle.spec_model.specs.Answers.{answered, offer_number, fields_answer}
use Rattle.spec_model.specs.declared.OfferRefusal.{OfferRefusal}
use Rattle.spec_model.specs.declared.OfferRefusal.TheVariants.{TableFull}
use Rattle.call_answers.specs.Refused.{offer_refused as number_refused}
use Rattle.spec_model.specs.Entries.{free_entry, is_held, entry_of, asks}
use Rattle.spec_model.specs.declared.Entry.{Entry}
use Rattle.spec_model.specs.declared.Request.{Request}
use Rattle.spec_model.specs.declared.Table.{Table}
use Rattle.spec_model.specs.Names.{name_in_range}
use Rattle.spec_model.specs.declared.Frame.{Frame}
use Rattle.spec_model.specs.Frames.{header_in, room_in}
use Rattle.spec_model.specs.Tables.{places, no_place, held_of, with_entries, put_in}
use Rattle.spec_rules.specs.Header.{header_test}
use Rattle.spec_rules.specs.Share.{load_of, load}
use Rattle.spec_rules.specs.Ahead.{fits_ahead}
use Rattle.spec_rules.specs.Calls.{holds, offer_answer, placed, offered}
use Rattle.spec_rules.specs.WellFormed.{WellFormed, Tidy}
use Rattle.law_steps.proofs.Refusals.{refused_offer}
use Rattle.law_steps.specs.Offers.{Numbered, offer_checks_but, is_full}
use Rattle.law_steps.proofs.Offers.{refusal_none, none_refusal, refusal_stops, fields_numbered}
use Rattle.law_steps.specs.Offers.{has_time}
use Rattle.law_steps.proofs.Offers.{offer_refused, offer_passed}
use Rattle.law_ahead.specs.KeepsUp.{keeps_up_ahead}
use Rattle.law_ahead.proofs.Tables.{tidy_together, tidy_some}
use Rattle.law_ahead.proofs.Fits.{ahead_once, ahead_plain}
use Rattle.law_ahead.proofs.Formed.{passed_picked, placed_tidy, placed_ahead}
use Rattle.law_ahead.specs.Even.{evenly}
use Rattle.law_ahead.proofs.Even.{even_ahead}
use Rattle.ahead_even.specs.Need.{even_need, needs_places}
use Rattle.table_survey.specs.Free.{is_free, place_full, place_taken}
use Rattle.table_places.specs.Put.{put_past}
use Rattle.table_places.specs.Search.{found, found_some, none_found}

-- one list of checks, then another
refusal_append : {m : ℕ} (cs ds : List Check) → Numbered m cs → refusal (cs ++ ds) ≡ cond (eqb (refusal cs) 0) (refusal ds) (refusal cs)
refusal_append cs ds n =
    elim (ℕ_discrete (refusal cs) 0) [
      | yes z ↦ rw (eq-eqb (refusal cs) 0 z) (none_refusal (refusal_none cs n z) ds)
      | no z ↦ rw (ne_eqb (refusal cs) 0 z) (refusal_stops cs ds z)
    ]

-- refusals 10 to 16
pub but_last : (held full : Bool) (F : Frame) (q : Request) → (let a = fields_answer F q in
    refusal (offer_checks_but held full F q)
    ≡ cond (not (name_in_range q.name)) 10 (cond held 11 (cond (eqb a 0) (cond full 16 0) a)))
unfolding refusal fields_answer
but_last held full F q =
    ap (λ r. cond (not (name_in_range q.name)) 10 (cond held 11 r))
    (refusal_append (field_checks F q) (check 16 full ∷ []) (fields_numbered F q))

-- the table with the request in a free place
abbrev pub with_request : Table → Request → Table
with_request t q = with_entries t (placed (entry_of q) t.entries)

-- what one pass over the places has found: whether the stream is held, the first free place, what an even share takes of an interval
module _ (t : Table) (w : WellFormed t) (q : Request) {o : Option ℕ} (e : o ≡ found places (first_of is_free t.entries)) where
  surveyed_full : is_none o ≡ is_full t q
  surveyed_full = ap is_none e ∙ none_found places (first_of is_free t.entries) ∙ place_full t.entries w.tidy.size

  surveyed_checks : {b : Bool} → b ≡ holds t q.name
      → refusal (offer_checks_but b (is_none o) t.frame q)
      ≡ refusal (offer_checks_but (holds t q.name) (is_full t q) t.frame q)
  surveyed_checks h = ap₂ (λ b c. refusal (offer_checks_but b c t.frame q)) h surveyed_full

-- refused, an offer puts nothing in the table
module _ (t : Table) (w : WellFormed t) (q : Request) where
  pub nothing_put : offer_answer t q ≢ 0 → put_in t no_place free_entry ≡ offered t q
  nothing_put h = put_past t no_place free_entry (omega (arith, w.tidy.size)) ∙ sym (refused_offer t q h)

  pub outside_answer : name_in_range q.name ≡ false → (10 ≡ offer_answer t q) × (put_in t no_place free_entry ≡ offered t q)
  unfolding offer_answer refusal
  outside_answer h =
      let e : 10 ≡ offer_answer t q = rw h in
      (e, nothing_put (λ z. absurd (omega (arith, e, z))))

-- the last two checks before looking ahead, of a request whose fields are in range: whether a place is free
pub place_number : (o : Option ℕ) → answered offer_number (ok_or o TableFull) ≡ cond (is_none o) 16 0
place_number = elim [ None ↦ refl | Some p ↦ refl ]

-- what the other checks answer
abbrev but_time : Table → Request → ℕ
but_time t q = refusal (offer_checks_but (holds t q.name) (is_full t q) t.frame q)

-- a refusal
module _ (t : Table) (w : WellFormed t) (q : Request) where
  pub refused_answer : {o : Option ℕ} {b : Bool} (x : OfferRefusal) → (b ≡ holds t q.name) × (o ≡ found places (first_of is_free t.entries))
      → offer_number x ≡ refusal (offer_checks_but b (is_none o) t.frame q)
      → (offer_number x ≡ offer_answer t q) × (put_in t no_place free_entry ≡ offered t q)
  refused_answer x s e =
      let r : offer_number x ≡ but_time t q = e ∙ surveyed_checks t w q s.1 s.0 in
      let n = number_refused x in
      let a : offer_number x ≡ offer_answer t q = r ∙ sym (offer_refused t q (λ z. n (r ∙ z))) in
      (a, nothing_put t w q (λ z. n (a ∙ z)))

-- none: p is the first free place, and x is the entry that goes there
pub record Checked (t : Table) (q : Request) (p : ℕ) (x : Entry) : Type 0 where
  pub none : but_time t q ≡ 0
  pub inside : p < places
  pub entry : x ≡ entry_of q
  pub puts : put_in t p x ≡ with_request t q

pub checked : {t : Table} {q : Request} {o : Option ℕ} {b : Bool} {p : ℕ} {x : Entry} → WellFormed t
    → (b ≡ holds t q.name) × (o ≡ found places (first_of is_free t.entries))
    → 0 ≡ refusal (offer_checks_but b (is_none o) t.frame q) → o ≡ Some p → x ≡ entry_of q → Checked t q p x
checked {t} {q} {p = p} w s r f e =
    let place = found_some (sym s.1 ∙ f) in
    record {
      none = sym (r ∙ surveyed_checks t w q s.1 s.0);
      inside = place.0;
      entry = e;
      puts = ap (put_in t p) e ∙ ap (with_entries t) (ap (λ n. set t.entries n (entry_of q)) place.1 ∙ place_taken (entry_of q) t.entries);
    }

module _ {t : Table} (w : WellFormed t) {q : Request} {p : ℕ} {x : Entry} (known : Checked t q p x) where
  pub request_tidy : Tidy (with_request t q)
  request_tidy = placed_tidy t w q known.none

  ahead : {b : Bool} → b ≡ fits_ahead t.frame (held_of (with_request t q)) → has_time t q ≡ b
  ahead e = sym (e ∙ placed_ahead t w q known.none)

  pub fits_answer : {b : Bool} → b ≡ fits_ahead t.frame (held_of (with_request t q)) → b ≡ true
      → (0 ≡ offer_answer t q) × (with_request t q ≡ offered t q)
  unfolding offered
  fits_answer e k =
      let z : offer_answer t q ≡ 0 = offer_passed t q known.none ∙ ap (λ (b : Bool). cond (not b) 17 0) (ahead e ∙ k) in
      (sym z, sym (ap (λ b. cond b (with_request t q) t) (eq-eqb (offer_answer t q) 0 z)))

  -- where an even share is enough, with the request too, looking ahead, but for the header test, says yes
  pub fits_evenly : {b : Bool} {n : ℕ} {e : Entry} → n ≡ sum_of even_need t.entries → e ≡ entry_of q
      → b ≡ leb (n + even_need e) (room_in t.frame) → b ≡ true → true ≡ keeps_up_ahead t.frame (held_of (with_request t q))
  unfolding even_need load
  fits_evenly {b} {n} {e} p i h k =
      let room : n + even_need (entry_of q) ≤ room_in t.frame =
      leb-true _ _ (sym (ap (λ x. leb (n + even_need x) (room_in t.frame)) i) ∙ sym h ∙ k) in
      let fs = held_of (with_request t q) in
      let enough : load fs + sum_of evenly fs ≤ room_in t.frame =
      omega (
        arith,
        p,
        needs_places t w.tidy,
        sum_keep_le evenly is_held t.entries,
        picked_sum load_of (passed_picked t w q known.none),
        picked_sum evenly (passed_picked t w q known.none),
      ) in
      sym (even_ahead t.frame fs (tidy_together request_tidy) enough)

  -- where the header test fails looking ahead says no; where it passes, or there is no header, it says what the rest says
  abbrev placed_entries : List Entry
  placed_entries = held_of (with_request t q)

  pub test_fails : header_test t.frame asks placed_entries ≡ false → false ≡ fits_ahead t.frame placed_entries
  test_fails z =
      sym (ahead_once t.frame placed_entries (tidy_together request_tidy) ∙ ap (λ b. b && keeps_up_ahead t.frame placed_entries) z)

  pub rest_says : {b : Bool} → (header_in t.frame ≡ 0) ⊎ (header_test t.frame asks placed_entries ≡ true)
      → b ≡ keeps_up_ahead t.frame placed_entries → b ≡ fits_ahead t.frame placed_entries
  rest_says (inl z) k = k ∙ sym (ahead_plain t.frame placed_entries z (tidy_some request_tidy) (tidy_together request_tidy))
  rest_says (inr z) k =
      k ∙ sym (ahead_once t.frame placed_entries (tidy_together request_tidy) ∙ ap (λ b. b && keeps_up_ahead t.frame placed_entries) z)

  pub no_time : {b : Bool} → b ≡ fits_ahead t.frame (held_of (with_request t q)) → b ≡ false
      → (17 ≡ offer_answer t q) × (put_in t no_place free_entry ≡ offered t q)
  no_time e k =
      let z : offer_answer t q ≡ 17 = offer_passed t q known.none ∙ ap (λ (b : Bool). cond (not b) 17 0) (ahead e ∙ k) in
      (sym z, nothing_put t w q (λ y. absurd (omega arith)))

  -- ---- as the code looks ahead, at the table with the entry in its place: that one is tidy too
  abbrev ahead_of : Table
  ahead_of = put_in t p x

  pub inside_tidy : (p < places) × Tidy ahead_of
  inside_tidy = (known.inside, subst Tidy (sym known.puts) request_tidy)

  -- what the header test says, where there is a header
  abbrev pub Tested : Type 0
  Tested = (header_in t.frame ≡ 0) ⊎ (header_test t.frame asks (held_of ahead_of) ≡ true)

  tested : Tested → (header_in t.frame ≡ 0) ⊎ (header_test t.frame asks placed_entries ≡ true)
  tested = subst (λ u. (header_in t.frame ≡ 0) ⊎ (header_test t.frame asks (held_of u) ≡ true)) known.puts

  pub says_no_before : {b : Bool} → b ≡ header_test t.frame asks (held_of ahead_of) → b ≡ false
      → (17 ≡ offer_answer t q) × (put_in t no_place free_entry ≡ offered t q)
  says_no_before h z = no_time (test_fails (sym (h ∙ ap (λ u. header_test t.frame asks (held_of u)) known.puts) ∙ z)) refl

  looked : Tested → {b : Bool} → b ≡ keeps_up_ahead t.frame (held_of ahead_of) → b ≡ fits_ahead t.frame placed_entries
  looked h e = rest_says (tested h) (e ∙ ap (λ u. keeps_up_ahead t.frame (held_of u)) known.puts)

  pub says_no : Tested → {b : Bool} → b ≡ keeps_up_ahead t.frame (held_of ahead_of) → b ≡ false
      → (17 ≡ offer_answer t q) × (put_in t no_place free_entry ≡ offered t q)
  says_no h e z = no_time (looked h e) z

  pub says_yes : Tested → {b : Bool} → b ≡ keeps_up_ahead t.frame (held_of ahead_of) → b ≡ true
      → (0 ≡ offer_answer t q) × (ahead_of ≡ offered t q)
  says_yes h e z = let f = fits_answer (looked h e) z in (f.0, known.puts ∙ f.1)

  pub says_yes_early : Tested → {b : Bool} {n : ℕ} → n ≡ sum_of even_need t.entries → b ≡ leb (n + even_need x) (room_in t.frame) → b ≡ true
      → (0 ≡ offer_answer t q) × (ahead_of ≡ offered t q)
  says_yes_early h n e z =
      let f = fits_answer (rest_says (tested h) (fits_evenly n known.entry e z)) refl in (f.0, known.puts ∙ f.1)
