-- One pass over a table's places, as an offer makes it: what is found up to a place, and with one place more. Assumes nothing.
use Rattle.std.specs.Prelude.{◌≡◌, refl, ◌⊎◌, Bool, true, false, cond, not, ◌&&◌, ◌||◌, List, ℕ, ◌+◌, ◌*◌, ◌≤◌, ◌<◌, length, take, get_or, Option, None, Some}
use Rattle.std.specs.Option.{option_or}
use Rattle.std.proofs.Common.{sym, ap, subst, ◌∙◌, inl, inr, arith, length-take, take_all}
use Rattle.spec_lists.specs.Lists.{sum_of, any_of}
use Rattle.spec_lists.specs.All.{All, stop}
use Rattle.base_lists.specs.Tests.{clash}
use Rattle.base_lists.specs.All.{all_map}
use Rattle.base_lists.specs.Loops.{any_more, summed_more}
use Rattle.base_lists.specs.First.{first_of, first_most, first_more}
use Rattle.base_lists.specs.Spare.{Spare, spare_end, spare_more}
use Rattle.spec_model.specs.Entries.{free_entry, is_named, is_held}
use Rattle.spec_model.specs.declared.Entry.{Entry}
use Rattle.spec_model.specs.declared.Table.{Table}
use Rattle.spec_model.specs.Tables.{places}
use Rattle.spec_model.specs.declared.Name.{Name}
use Rattle.spec_rules.specs.Calls.{holds}
use Rattle.spec_rules.specs.WellFormed.{Held, Tidy}
use Rattle.law_model.specs.Frames.{most_slots}
use Rattle.law_steps.proofs.Held.{held_is}
use Rattle.table_queue.specs.Queues.{largest32, Used}
use Rattle.table_survey.specs.declared.Survey.{Survey}
use Rattle.ahead_even.specs.Need.{even_need, need_free}
use Rattle.table_places.specs.Search.{is_held_as, held_as, found, found_more}
use Rattle.table_survey.specs.Free.{is_free}

-- what a pass has found, with the entry at place i
abbrev pub with_entry : Name → (i : ℕ) → Entry → Survey → Survey
with_entry name i e s = record {
  taken = s.taken || is_held_as name e;
  free = cond (is_free e) (option_or s.free (Some i)) s.free;
  needed = s.needed + even_need e;
  used = cond (is_free e) s.used (i + 1);
}

same_survey : {a b : Bool} {f g : Option ℕ} {m n u v : ℕ} → a ≡ b → f ≡ g → m ≡ n → u ≡ v
    → ◌≡◌ {A = Survey} (record { taken = a; free = f; needed = m; used = u }) (record { taken = b; free = g; needed = n; used = v })
same_survey p q r w = rw (p, q, r, w) refl

-- a free place adds nothing, and is the first where none was before
pub with_free : (name : Name) (i : ℕ) (e : Entry) (s : Survey) {f : Option ℕ} → is_held e ≡ false → (is_free e ≡ true → even_need e ≡ 0)
    → f ≡ option_or s.free (Some i)
    → ◌≡◌ {A = Survey} (record { taken = s.taken; free = f; needed = s.needed; used = s.used }) (with_entry name i e s)
with_free name i e s z n f =
    let free : is_free e ≡ true = ap not z in
    let none = n free in
    same_survey
    (sym (ap (λ b. s.taken || (b && is_named name e)) z ∙ or_none s.taken))
    (f ∙ sym (ap (λ b. cond b (option_or s.free (Some i)) s.free) free))
    (omega arith)
    (sym (ap (λ b. cond b s.used (i + 1)) free))
  where
    or_none : (b : Bool) → (b || false) ≡ b
    or_none true = refl
    or_none false = refl

-- a held one
pub with_held : (name : Name) (i : ℕ) (e : Entry) (s : Survey) {b : Bool} {m : ℕ} → is_held e ≡ true → b ≡ (s.taken || is_named name e)
    → m ≡ s.needed + even_need e → record { taken = b; free = s.free; needed = m; used = i + 1 } ≡ with_entry name i e s
with_held name i e s n t m =
    let held : is_free e ≡ false = ap not n in
    same_survey (t ∙ sym (ap (λ b. s.taken || (b && is_named name e)) n))
    (sym (ap (λ b. cond b (option_or s.free (Some i)) s.free) held)) m
    (sym (ap (λ b. cond b s.used (i + 1)) held))

-- no entry of a table needs more: its load, and a number of 32 bits
abbrev pub most_need : ℕ
most_need = most_slots + largest32

-- what it has found of the first i places
pub record Passed (name : Name) (es : List Entry) (i : ℕ) (s : Survey) : Type 0 where
  pub taken : s.taken ≡ any_of (is_held_as name) (take i es)
  pub free : s.free ≡ found i (first_of is_free (take i es))
  pub needed : s.needed ≡ sum_of even_need (take i es)
  pub most : s.needed ≤ most_need * i
  pub used : Spare free_entry s.used (take i es)
  pub last : s.used ≤ i

pub passed_none : (name : Name) (es : List Entry) → Passed name es 0 (record { taken = false; free = None; needed = 0; used = 0 })
unfolding first_of
passed_none name es = record { taken = refl; free = refl; needed = refl; most = omega arith; used = stop; last = omega arith }

-- and with the next place: one that is not held is free
pub passed_more : {name : Name} {i : ℕ} {es : List Entry} {s r : Survey} (d : Entry) → i < length es
    → (is_held (get_or es i d) ≡ false → get_or es i d ≡ free_entry) → Passed name es i s → r ≡ with_entry name i (get_or es i d) s
    → r.needed ≤ most_need * (i + 1) → Passed name es (i + 1) r
passed_more {name} {i} {es} {s} {r} d h z p e m =
    let u = used_more (is_held (get_or es i d)) refl in
    let n : r.used ≡ cond (is_free (get_or es i d)) s.used (i + 1) = ap (λ (x : Survey). x.used) e in
    record {
      taken = ap (λ (x : Survey). x.taken) e ∙ any_more (is_held_as name) es i d h p.taken;
      free =
          ap (λ (x : Survey). x.free) e
          ∙ ap (λ o. cond (is_free (get_or es i d)) (option_or o (Some i)) o) p.free
          ∙ found_more (is_free (get_or es i d)) first i (omega (arith, first_most is_free (take i es), length-take i es))
          ∙ ap (found (i + 1)) (first_more is_free es i d h refl);
      needed = ap (λ (x : Survey). x.needed) e ∙ summed_more even_need es i d h p.needed refl;
      most = m;
      used = rw n u.0;
      last = rw n u.1;
    }
  where
    first : ℕ
    first = first_of is_free (take i es)

    used_more : (b : Bool) → is_held (get_or es i d) ≡ b
        → Spare free_entry (cond (not b) s.used (i + 1)) (take (i + 1) es) × (cond (not b) s.used (i + 1) ≤ i + 1)
    used_more true q =
        (spare_end free_entry (i + 1) (take (i + 1) es) (omega (arith, length-take (i + 1) es)), omega arith)
    used_more false q = (spare_more free_entry s.used i es d h (z q) p.used, omega (arith, p.last))

-- a free place of a table needs nothing
pub free_needs : (t : Table) → Tidy t → All (λ e. is_free e ≡ true → even_need e ≡ 0) t.entries
free_needs t w = all_map one w.entries
  where
    one : (e : Entry) → (e ≡ free_entry) ⊎ Held t.frame e → is_free e ≡ true → even_need e ≡ 0
    one e (inl z) f = ap even_need z ∙ need_free
    one e (inr h) f = absurd (clash (is_free e) f (ap not (held_is h)))

-- what a whole pass has found, where it may stop before the last place
pub passed_all : {name : Name} {i : ℕ} (t : Table) {s : Survey} → i ≤ places → length t.entries ≤ i → Passed name t.entries i s
    → (s.taken ≡ holds t name) × (s.free ≡ found i (first_of is_free t.entries)) × (s.needed ≡ sum_of even_need t.entries) × Used s.used t
passed_all {name} {i} t {s} k h p =
    let all = take_all i t.entries h in (
      p.taken ∙ ap (any_of (is_held_as name)) all ∙ held_as t name,
      p.free ∙ ap (found i) (ap (first_of is_free) all),
      p.needed ∙ ap (sum_of even_need) all,
      (omega (arith, p.last), subst (Spare free_entry s.used) all p.used),
    )
