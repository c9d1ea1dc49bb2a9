-- Offers by the place's number: the first free place of a well-formed table, which may be full, and what the checks answer as a number.
-- Assumes nothing.
use Rattle.std.specs.Prelude.{◌≡◌, ◌⊎◌, ◌≢◌, Bool, true, false, List, ℕ, ◌+◌, ◌<◌, eqb, leb, set}
use Rattle.std.proofs.Math.Path.{refl, sym, ap}
use Rattle.std.proofs.Common.{ap₂, ◌∙◌}
use borrow.Author.Tests.{eqb-true, eqb-false, leb-false}
use Rattle.spec_lists.specs.Lists.{sum_of}
use Rattle.base_lists.specs.First.{first_of}
use Rattle.spec_model.specs.Requests.{refusal}
use Rattle.spec_model.specs.Entries.{free_entry, entry_of, asks}
use Rattle.spec_model.specs.declared.Entry.{Entry}
use Rattle.spec_model.specs.declared.Request.{Request}
use Rattle.spec_model.specs.declared.Table.{Table}
use Rattle.spec_model.specs.Frames.{header_in, room_in}
use Rattle.spec_model.specs.Tables.{places, most_held, no_place, held_of, with_entries, put_in}
use Rattle.spec_rules.specs.Header.{header_test}
use Rattle.spec_rules.specs.Ahead.{fits_ahead}
use Rattle.spec_rules.specs.Calls.{holds, offer_answer, offered}
use Rattle.spec_rules.specs.WellFormed.{WellFormed, Tidy}
use Rattle.law_steps.specs.Offers.{offer_checks_but, is_full}
use Rattle.law_steps.proofs.Offers.{checks_passed, offer_refused}
use Rattle.law_ahead.specs.KeepsUp.{keeps_up_ahead}
use Rattle.ahead_even.specs.Need.{even_need}
use Rattle.table_survey.specs.Free.{is_free, place_full, place_taken}
use Rattle.call_offer.specs.Offer.{Checked, with_request, nothing_put}
use Rattle.call_offer.specs.Offer.{request_tidy as checked_tidy, fits_answer as checked_answer, fits_evenly as checked_evenly}
use Rattle.call_offer.specs.Offer.{test_fails as checked_fails, rest_says as checked_says, no_time as checked_no_time}

-- f is the first free place, and one that is not in the table where it is full
module _ (t : Table) (w : WellFormed t) (q : Request) {f : ℕ} (e : f ≡ first_of is_free t.entries) where
  surveyed_full : leb most_held f ≡ is_full t q
  surveyed_full = ap (leb most_held) e ∙ place_full t.entries w.tidy.size

  pub surveyed_checks : {b : Bool} → b ≡ holds t q.name
      → refusal (offer_checks_but b (leb most_held f) t.frame q)
      ≡ refusal (offer_checks_but (holds t q.name) (is_full t q) t.frame q)
  surveyed_checks h = ap₂ (λ b c. refusal (offer_checks_but b c t.frame q)) h surveyed_full

  pub surveyed_place : {x : Entry} → x ≡ entry_of q → put_in t f x ≡ with_request t q
  surveyed_place h =
      ap (put_in t f) h ∙ ap (with_entries t) (ap (λ n. set t.entries n (entry_of q)) e ∙ place_taken (entry_of q) t.entries)

-- a is what the checks but looking ahead answer
module _ (t : Table) (w : WellFormed t) (q : Request) {a : ℕ}
    (r : a ≡ refusal (offer_checks_but (holds t q.name) (is_full t q) t.frame q))
  where
    pub refused_answer : eqb a 0 ≡ false → (a ≡ offer_answer t q) × (put_in t no_place free_entry ≡ offered t q)
    refused_answer h =
        let n : a ≢ 0 = eqb-false a 0 h in
        let e : a ≡ offer_answer t q = r ∙ sym (offer_refused t q (λ z. n (r ∙ z))) in
        (e, nothing_put t w q (λ z. n (e ∙ z)))

    module _ (h : eqb a 0 ≡ true) where
      none : refusal (offer_checks_but (holds t q.name) (is_full t q) t.frame q) ≡ 0
      none = sym r ∙ eqb-true a 0 h

      -- a place is free
      pub free_inside : {f : ℕ} → f ≡ first_of is_free t.entries → f < places
      free_inside {f} e =
          leb-false most_held f (surveyed_full t w q e ∙ (checks_passed (holds t q.name) (is_full t q) t.frame q none).place)

      known : Checked t q (first_of is_free t.entries) (entry_of q)
      known = record { none = none; inside = free_inside refl; entry = refl; puts = surveyed_place t w q refl refl }

      pub request_tidy : Tidy (with_request t q)
      request_tidy = checked_tidy w known

      pub fits_answer : {b : Bool} → b ≡ fits_ahead t.frame (held_of (with_request t q)) → b ≡ true
          → (a ≡ offer_answer t q) × (with_request t q ≡ offered t q)
      fits_answer e k = let z = checked_answer w known e k in (eqb-true a 0 h ∙ z.0, z.1)

      -- where an even share is enough, with the request too, looking ahead, but for the header test, says yes
      pub fits_evenly : {b : Bool} {n : ℕ} {e : Entry} → n ≡ sum_of even_need t.entries → e ≡ entry_of q
          → b ≡ leb (n + even_need e) (room_in t.frame) → b ≡ true → true ≡ keeps_up_ahead t.frame (held_of (with_request t q))
      fits_evenly = checked_evenly w known

      -- where the header test fails looking ahead says no; where it passes, or there is no header, it says what the rest says
      abbrev placed_entries : List Entry
      placed_entries = held_of (with_request t q)

      pub test_fails : header_test t.frame asks placed_entries ≡ false → false ≡ fits_ahead t.frame placed_entries
      test_fails = checked_fails w known

      pub rest_says : {b : Bool} → (header_in t.frame ≡ 0) ⊎ (header_test t.frame asks placed_entries ≡ true)
          → b ≡ keeps_up_ahead t.frame placed_entries → b ≡ fits_ahead t.frame placed_entries
      rest_says = checked_says w known

      pub no_time : {b : Bool} → b ≡ fits_ahead t.frame (held_of (with_request t q)) → b ≡ false
          → (17 ≡ offer_answer t q) × (put_in t no_place free_entry ≡ offered t q)
      no_time = checked_no_time w known
