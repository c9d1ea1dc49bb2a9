-- The place of a name in a table: the entry that is there, and that place given back. Assumes nothing.
use Rattle.std.specs.Prelude.{◌≡◌, refl, Bool, true, false, cond, not, ◌&&◌, ◌||◌, ◌⊎◌, List, [], ◌∷◌, map, suc, ◌+◌, ◌≤◌, ◌<◌, ltb, leb, eqb, length, get_or, set, ℕ, Option, None, Some}
use Rattle.std.proofs.Common.{sym, ap, ◌∙◌, inl, inr, not-suc-le-zero, le_of_suc-le-suc, arith, ltb-false}
use borrow.Author.Tests.{eq-eqb, ne_eqb, lt-ltb, le-ltb, ltb-true, lt-leb, le-leb}
use Rattle.std.proofs.lemmas.Option.{none-some, cond_some}
use Rattle.std.specs.Option.{is_none, option_or}
use Rattle.spec_lists.specs.Lists.{one_if, cons_if, keep, sum_of, any_of}
use Rattle.base_lists.specs.Tests.{either, clash, and_false}
use Rattle.base_lists.specs.All.{all_of, map_ext}
use Rattle.base_lists.specs.Sums.{sum_ext, sum_keep}
use Rattle.base_lists.specs.Loops.{any_keep}
use Rattle.base_lists.specs.First.{first_of, first_most, first_some, first_set}
use Rattle.spec_model.specs.Names.{same, is_nobody}
use Rattle.spec_model.specs.Entries.{free_entry, is_held, is_named}
use Rattle.spec_model.specs.declared.Name.{Name}
use Rattle.spec_model.specs.declared.Entry.{Entry}
use Rattle.spec_model.specs.declared.Table.{Table}
use Rattle.spec_model.specs.Tables.{held_of}
use Rattle.spec_rules.specs.Calls.{holds}
use Rattle.spec_rules.specs.Reading.{entry_for}
use Rattle.spec_rules.specs.WellFormed.{Once}
use Rattle.law_model.specs.Names.{same_true}

abbrev pub is_held_as : Name → Entry → Bool
is_held_as n e = is_held e && is_named n e

-- the place p, where it is one of n
abbrev pub found : (n p : ℕ) → Option ℕ
found n p = cond (ltb p n) (Some p) None

-- the first place that the name holds
abbrev pub place_of : Name → List Entry → Option ℕ
place_of n es = found (length es) (first_of (is_held_as n) es)

-- where it is known to be one, and where not
pub found_inside : {n p i : ℕ} → i ≡ p → i < n → Some i ≡ found n p
found_inside {n} {p} {i} e h = rw (← e, lt-ltb i n h)

pub found_past : {n p : ℕ} → n ≤ p → None ≡ found n p
found_past {n} {p} h = rw (le-ltb p n h)

-- one place more, p being the first among i: with a place that passes a test, or not
pub found_more : (b : Bool) (p i : ℕ) → p ≤ i
    → cond b (option_or (found i p) (Some i)) (found i p) ≡ found (i + 1) (cond b p (cond (eqb p i) (i + 1) p))
found_more b p i h = go b (either (ltb p i))
  where
    go : (b : Bool) → (ltb p i ≡ true) ⊎ (ltb p i ≡ false)
        → cond b (option_or (found i p) (Some i)) (found i p) ≡ found (i + 1) (cond b p (cond (eqb p i) (i + 1) p))
    go true (inl q) = let k = ltb-true p i q in rw (q, lt-ltb p (i + 1) (omega arith))
    go true (inr q) = let k : p ≡ i = omega (arith, ltb-false p i q) in rw (q, lt-ltb p (i + 1) (omega arith), k)
    go false (inl q) = let k = ltb-true p i q in rw (q, ne_eqb p i (λ z. absurd (omega arith)), lt-ltb p (i + 1) (omega arith))
    go false (inr q) =
        let k : p ≡ i = omega (arith, ltb-false p i q) in rw (q, eq-eqb p i k, le-ltb (i + 1) (i + 1) (omega arith))

pub found_some : {n p k : ℕ} → found n p ≡ Some k → (k < n) × (k ≡ p)
found_some {n} {p} {k} e =
    let c = cond_some (ltb p n) p k e in
    let inside = ltb-true p n c.0 in
    (omega (arith, c.1), sym c.1)

pub none_found : (n p : ℕ) → is_none (found n p) ≡ leb n p
none_found n p = go (either (ltb p n))
  where
    go : (ltb p n ≡ true) ⊎ (ltb p n ≡ false) → is_none (found n p) ≡ leb n p
    go (inl q) = rw (q, lt-leb n p (ltb-true p n q))
    go (inr q) = rw (q, le-leb n p (ltb-false p n q))

pub found_none : {n p : ℕ} → None ≡ found n p → n ≤ p
found_none {n} {p} e = ltb-false p n (go (ltb p n) e)
  where
    go : (b : Bool) → None ≡ cond b (Some p) None → b ≡ false
    go true h = absurd (none-some p h)
    go false h = refl

pub held_as : (t : Table) (n : Name) → any_of (is_held_as n) t.entries ≡ holds t n
held_as t n = sym (any_keep (is_named n) is_held t.entries)

pub place_held : (t : Table) (n : Name) → ltb (first_of (is_held_as n) t.entries) (length t.entries) ≡ holds t n
place_held t n = first_some (is_held_as n) t.entries ∙ held_as t n

entry_cons : (n : Name) (e : Entry) (es : List Entry)
    → cond (is_held_as n e) e (entry_for n (keep is_held es)) ≡ entry_for n (keep is_held (e ∷ es))
unfolding entry_for
entry_cons n e es = go (is_held e)
  where
    go : (b : Bool) → cond (b && is_named n e) e (entry_for n (keep is_held es)) ≡ entry_for n (cons_if b e (keep is_held es))
    go true = refl
    go false = refl

-- the entry there, and the free one where there is none
pub place_entry : (n : Name) (d : Entry) (es : List Entry) → first_of (is_held_as n) es < length es
    → get_or es (first_of (is_held_as n) es) d ≡ entry_for n (keep is_held es)
unfolding first_of
place_entry n d [] h = absurd (not-suc-le-zero h)
place_entry n d (e ∷ es) h = go (is_held_as n e) h (λ k. place_entry n d es k) ∙ entry_cons n e es
  where
    go : (b : Bool) → cond b 0 (suc (first_of (is_held_as n) es)) < suc (length es)
        → (first_of (is_held_as n) es < length es → get_or es (first_of (is_held_as n) es) d ≡ entry_for n (keep is_held es))
        → get_or (e ∷ es) (cond b 0 (suc (first_of (is_held_as n) es))) d ≡ cond b e (entry_for n (keep is_held es))
    go true h r = refl
    go false h r = r (le_of_suc-le-suc h)

pub place_none : (n : Name) (es : List Entry) → length es ≤ first_of (is_held_as n) es → free_entry ≡ entry_for n (keep is_held es)
unfolding first_of entry_for
place_none n [] h = refl
place_none n (e ∷ es) h = go (is_held_as n e) h (λ k. place_none n es k) ∙ entry_cons n e es
  where
    go : (b : Bool) → suc (length es) ≤ cond b 0 (suc (first_of (is_held_as n) es))
        → (length es ≤ first_of (is_held_as n) es → free_entry ≡ entry_for n (keep is_held es))
        → free_entry ≡ cond b e (entry_for n (keep is_held es))
    go true h r = absurd (not-suc-le-zero h)
    go false h r = r (le_of_suc-le-suc h)

-- a name that is not nobody's: whoever has it holds its place
pub held_by_name : (n : Name) → is_nobody n ≡ false → (e : Entry) → is_held_as n e ≡ is_named n e
held_by_name n some e = go (is_named n e) refl
  where
    go : (b : Bool) → is_named n e ≡ b → (is_held e && b) ≡ b
    go true q = ap (λ m. not (is_nobody m) && true) (same_true e.name n q) ∙ ap (λ b. not b && true) some
    go false q = and_false (is_held e)

pub eq_held : (n : Name) → is_nobody n ≡ false → (e : Entry) → same e.name n ≡ is_held_as n e
eq_held n some e = sym (held_by_name n some e)

module _ (n : Name) (z : is_nobody n ≡ true) where
  nobody_as : (e : Entry) → is_held_as n e ≡ false
  nobody_as e = go (is_named n e) refl
    where
      go : (b : Bool) → is_named n e ≡ b → (is_held e && b) ≡ false
      go true q = ap (λ m. not (is_nobody m) && true) (same_true e.name n q) ∙ ap (λ b. not b && true) z
      go false q = and_false (is_held e)

  nobody_held : (es : List Entry) → any_of (is_held_as n) es ≡ false
  nobody_held [] = refl
  nobody_held (e ∷ es) = ap (λ b. b || any_of (is_held_as n) es) (nobody_as e) ∙ nobody_held es

  -- nobody's place is none
  pub place_nobody : (es : List Entry) → first_of (is_held_as n) es ≡ length es
  place_nobody es =
      let over = ltb-false (first_of (is_held_as n) es) (length es) (first_some (is_held_as n) es ∙ nobody_held es) in
      omega (arith, first_most (is_held_as n) es)

held_once : (n : Name) (es : List Entry) → Once (keep is_held es) → sum_of (λ e. one_if (is_held_as n e)) es ≤ 1
held_once n es w =
    omega (
      arith,
      w n,
      sum_keep (λ e. one_if (is_named n e)) is_held es,
      sum_ext (λ e. one_if (is_held_as n e)) (λ e. cond (is_held e) (one_if (is_named n e)) 0)
          (all_of es (λ e. both (is_held e) (is_named n e))),
    )
  where
    both : (b c : Bool) → one_if (b && c) ≡ cond b (one_if c) 0
    both true c = refl
    both false c = refl

-- that place becomes free
pub place_freed : (t : Table) (n : Name) → Once (held_of t) → holds t n ≡ true
    → set t.entries (first_of (is_held_as n) t.entries) free_entry ≡ map (λ e. cond (is_named n e) free_entry e) t.entries
place_freed t n w h =
    first_set (is_held_as n) free_entry t.entries (held_once n t.entries w)
    ∙ map_ext (λ e. cond (is_held_as n e) free_entry e) (λ e. cond (is_named n e) free_entry e)
    (all_of t.entries (λ e. ap (λ b. cond b free_entry e) (held_by_name n somebody e)))
  where
    somebody : is_nobody n ≡ false
    somebody =
        elim (either (is_nobody n)) [
          | inl z ↦ absurd (clash (holds t n) h (sym (held_as t n) ∙ nobody_held n z t.entries))
          | inr z ↦ z
        ]
