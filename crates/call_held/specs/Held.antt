-- A withdrawal's and an enquiry's answer as a program finds it, by the place of the name. Assumes nothing.
use Rattle.std.proofs.Math.Path.{◌≡◌, refl, ap}
use Rattle.std.proofs.Common.{sym, ◌∙◌, arith}
use Rattle.std.proofs.Math.Logic.{inl, inr}
use Rattle.std.specs.Prelude.{Bool, not, [], ◌∷◌, ℕ, ◌≤◌, ◌<◌, ltb, length, get_or, Option, None, Some, IfOk}
use Rattle.std.proofs.Math.Bool.{true, false, cond}
use borrow.Author.Tests.{lt-ltb, le-ltb, ltb-true, ltb-false}
use Rattle.std.proofs.lemmas.Option.{cond_some}
use Rattle.base_lists.specs.Tests.{either}
use Rattle.base_lists.specs.First.{first_of}
use Rattle.spec_model.specs.Requests.{check, refusal}
use Rattle.spec_model.specs.Entries.{free_entry}
use Rattle.spec_model.specs.declared.Name.{Name}
use Rattle.spec_model.specs.declared.Entry.{Entry}
use Rattle.spec_model.specs.declared.Table.{Table}
use Rattle.spec_rules.specs.Calls.{holds, held_answer, withdrawn}
use Rattle.spec_rules.specs.Reading.{enquired}
use Rattle.spec_rules.specs.WellFormed.{WellFormed}
use Rattle.table_places.specs.Search.{is_held_as, place_of, found_none, place_held, place_entry, place_none, place_freed}
use Rattle.std.specs.Option.{ok_or}
use Rattle.std.specs.Result.{result_unwrap_or}
use Rattle.spec_model.specs.Answers.{answered}
use Rattle.spec_model.specs.Numbers.{held_number}
use Rattle.spec_model.specs.declared.HeldRefusal.TheVariants.{NotHeld}
use Rattle.spec_model.specs.Tables.{places, no_place, with_entries, put_in}
use Rattle.table_places.specs.Put.{put_past}

module _ (t : Table) (w : WellFormed t) (n : Name) where
  -- p is the name's place
  module _ {p : ℕ} (e : p ≡ first_of (is_held_as n) t.entries) where
    held_place : ltb p places ≡ holds t n
    held_place = ap (ltb p) (sym w.tidy.size) ∙ ap (λ k. ltb k (length t.entries)) e ∙ place_held t n

    pub held_answer_lem : {a : ℕ} → a ≡ cond (ltb p places) 0 20 → a ≡ held_answer t n
    unfolding held_answer refusal
    held_answer_lem h = h ∙ ap (λ b. cond b 0 20) held_place ∙ by (holds t n)
      where
        by : (b : Bool) → ◌≡◌ {A = ℕ} (cond b 0 20) (refusal (check 20 (not b) ∷ []))
        by true = refl
        by false = refl

    pub held_freed : put_in t p free_entry ≡ withdrawn t n
    unfolding withdrawn
    held_freed =
        elim (either (holds t n)) [
          | inl q ↦ rw (q, e) (ap (with_entries t) (place_freed t n w.tidy.once q))
          | inr q ↦ rw q (put_past t p free_entry (omega (arith, w.tidy.size, ltb-false p places (held_place ∙ q))))
        ]

    pub held_entry : (d : Entry) → p < places → get_or t.entries p d ≡ enquired t n
    held_entry d h = ap (λ k. get_or t.entries k d) e ∙ place_entry n d t.entries (omega (arith, w.tidy.size))

    pub none_entry : places ≤ p → free_entry ≡ enquired t n
    none_entry h = place_none n t.entries (omega (arith, w.tidy.size))

  -- o is what the search gives: a place among those of a table that has the name's entry, or none
  module _ {o : Option ℕ} (e : o ≡ place_of n t.entries) where
    pub some_held : {p : ℕ} → o ≡ Some p → (p < places) × ((0 ≡ held_answer t n) × ((put_in t p free_entry ≡ withdrawn t n)
        × ((d : Entry) → get_or t.entries p d ≡ enquired t n)))
    some_held {p} h =
        let f = first_of (is_held_as n) t.entries in
        let k = cond_some (ltb f (length t.entries)) f p (sym e ∙ h) in
        let inside : f < length t.entries = ltb-true _ _ k.0 in
        let here : p < places = omega (arith, k.1, w.tidy.size) in (
          here,
          (
            held_answer_lem (sym k.1) (rw (lt-ltb p places here)),
            (held_freed (sym k.1), λ d. ap (λ q. get_or t.entries q d) (sym k.1) ∙ place_entry n d t.entries inside),
          ),
        )

    pub none_held : o ≡ None → (20 ≡ held_answer t n) × ((put_in t no_place free_entry ≡ withdrawn t n)
        × ((t ≡ withdrawn t n) × (free_entry ≡ enquired t n)))
    none_held h =
        let f = first_of (is_held_as n) t.entries in
        let past : length t.entries ≤ f = found_none (sym h ∙ e) in
        let all : length t.entries ≡ places = w.tidy.size in
        let out : length t.entries ≤ no_place = omega arith in
        let same : put_in t f free_entry ≡ withdrawn t n = held_freed refl in (
          held_answer_lem refl (rw (le-ltb f places (omega arith))),
          (
            put_past t no_place free_entry out ∙ sym (put_past t f free_entry past) ∙ same,
            (sym (put_past t f free_entry past) ∙ same, place_none n t.entries past),
          ),
        )

    -- a withdrawal's answer, and the place that becomes free
    pub released : (answered held_number (ok_or o NotHeld) ≡ held_answer t n)
        × (put_in t (result_unwrap_or (ok_or o NotHeld) no_place) free_entry ≡ withdrawn t n)
    released = by o refl
      where
        by : (r : Option ℕ) → o ≡ r → (answered held_number (ok_or r NotHeld) ≡ held_answer t n)
            × (put_in t (result_unwrap_or (ok_or r NotHeld) no_place) free_entry ≡ withdrawn t n)
        by (Some p) h = let k = (some_held h).1 in (k.0, k.1.0)
        by None h = let k = none_held h in (k.0, k.1.0)

    -- and that place is one of the table
    pub released_inside : IfOk (ok_or o NotHeld) (λ p. p < places)
    released_inside = by o refl
      where
        by : (r : Option ℕ) → o ≡ r → IfOk (ok_or r NotHeld) (λ p. p < places)
        by (Some p) h = (some_held h).0
        by None h = tt
