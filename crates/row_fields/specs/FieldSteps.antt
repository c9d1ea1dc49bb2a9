-- One step at a time: commas by their places in a text, digits, the fields of a form, and the values that a loop keeps. Assumes nothing.
use Rattle.std.specs.Prelude.{◌≡◌, refl, Bool, true, false, cond, ◌&&◌, List, [], ◌∷◌, ◌++◌, ℕ, suc, ◌+◌, ◌*◌, ◌-◌, ◌≤◌, ◌<◌, length, drop, set, get_or, Option, Some, None}
use Rattle.std.specs.Option.{is_some}
use Rattle.std.proofs.Common.{sym, ap, ap₂, ◌∙◌, append-nil, length-drop, drop_of_length-le, take_all, drop-drop, add-one}
use Rattle.std.proofs.Math.ListN.{take}
use Rattle.std.proofs.Math.Seq.{take-suc-set, append_snoc}
use native.Mathlib.Omega.{arith}
use borrow.Author.Tests.{eq-eqb, ne_eqb, le-leb, lt-leb}
use Rattle.spec_lists.specs.Lists.{within}
use Rattle.base_lists.specs.Loops.{left_next}
use Rattle.base_lists.specs.Tests.{and_false, both_within}
use Rattle.spec_text.specs.declared.Field.{Field}
use Rattle.spec_text.specs.declared.Field.TheVariants.{Needed}
use Rattle.spec_text.specs.Fields.{comma, value_of, all_digits, spelt, is_number, fits, has_fields, number_in, numbers_of}
use Rattle.row_fields.specs.FieldLaws.{to_comma, fields_after, fields_first, to_comma_most, part, part_rest}
use Rattle.row_fields.specs.FieldReads.{field_read, fields_read}
use Rattle.row_fields.specs.ReadLaws.{spells}

-- ---- commas
pub after_end_lem : (xs : List ℕ) (at : ℕ) → length xs ≤ at → fields_after (drop at xs) ≡ []
unfolding fields_after
after_end_lem xs at h = rw (drop_of_length-le xs h)

-- a comma at place at, and so many bytes to the next
module _ (xs : List ℕ) (at size : ℕ) (h : at < length xs) (e : size ≡ to_comma (part (at + 1) (length xs) xs)) where
  is_size : to_comma (drop (at + 1) xs) ≡ size
  is_size = sym (ap to_comma (part_rest xs (at + 1))) ∙ sym e

  pub part_most : at + 1 + size ≤ length xs
  part_most = omega (arith, is_size, to_comma_most (drop (at + 1) xs), length-drop (at + 1) xs)

  pub part_next : fields_after (drop at xs) ≡ part (at + 1) (at + 1 + size) xs ∷ fields_after (drop (at + 1 + size) xs)
  unfolding fields_after
  part_next =
      let k : at + 1 + size - (at + 1) ≡ size = omega arith in
      rw (left_next xs at 0 h, k, fields_first (drop (at + 1) xs), is_size, drop-drop)

-- a loop that looks for the comma, at place i
module _ (xs : List ℕ) (i : ℕ) where
  pub comma_here : i < length xs → get_or xs i 0 ≡ comma → to_comma (drop i xs) ≡ 0
  unfolding to_comma
  comma_here h e = rw (left_next xs i 0 h, eq-eqb _ _ e)

  pub comma_later : i < length xs → (get_or xs i 0 ≡ comma → ⊥) → to_comma (drop i xs) ≡ suc (to_comma (drop (i + 1) xs))
  unfolding to_comma
  comma_later h n = rw (left_next xs i 0 h, ne_eqb _ _ n)

  pub comma_nowhere : length xs ≤ i → to_comma (drop i xs) ≡ 0
  unfolding to_comma
  comma_nowhere h = rw (drop_of_length-le xs h)

-- ---- digits
pub is_number_lem : (f : List ℕ) → is_number f ≡ (within 1 10 (length f) && spells 0 f)
unfolding is_number spells
is_number_lem f = refl

spelt_grows : (v : ℕ) (bs : List ℕ) → v ≤ spelt v bs
unfolding spelt
spelt_grows v [] = omega arith
spelt_grows v (b ∷ bs) = omega (arith, spelt_grows (10 * v + (b - 48)) bs)

pub too_large : (v : ℕ) (bs : List ℕ) → 4294967295 < v → spells v bs ≡ false
unfolding spells
too_large v bs h = rw (lt-leb (spelt v bs) 4294967295 (omega (arith, spelt_grows v bs))) (and_false (all_digits bs))

-- a loop over the digits, at place i
module _ (xs : List ℕ) (i v : ℕ) where
  pub no_digit : i < length xs → within 48 57 (get_or xs i 0) ≡ false → spells v (drop i xs) ≡ false
  unfolding spells all_digits
  no_digit h e = rw (left_next xs i 0 h, e)

  pub digit_next : i < length xs → within 48 57 (get_or xs i 0) ≡ true
      → spells v (drop i xs) ≡ spells (10 * v + (get_or xs i 0 - 48)) (drop (i + 1) xs)
  unfolding spells all_digits spelt
  digit_next h e = rw (left_next xs i 0 h, e)

  pub spelt_next : i < length xs → spelt v (drop i xs) ≡ spelt (10 * v + (get_or xs i 0 - 48)) (drop (i + 1) xs)
  unfolding spelt
  spelt_next h = rw (left_next xs i 0 h)

  pub digits_end : length xs ≤ i → v ≤ 4294967295 → spells v (drop i xs) ≡ true
  unfolding spells all_digits spelt
  digits_end h k = rw (drop_of_length-le xs h, le-leb v 4294967295 k)

  pub spelt_end : length xs ≤ i → spelt v (drop i xs) ≡ v
  unfolding spelt
  spelt_end h = rw (drop_of_length-le xs h)

-- ---- fields, one by one, against what is left of a form
module _ (k : Field) (ks : List Field) (f : List ℕ) (fs : List (List ℕ)) where
  pub fit_passed : fits k f ≡ true → has_fields (k ∷ ks) (f ∷ fs) ≡ has_fields ks fs
  unfolding has_fields
  fit_passed h = rw h

  pub fit_refused : fits k f ≡ false → has_fields (k ∷ ks) (f ∷ fs) ≡ false
  unfolding has_fields
  fit_refused h = rw h

-- a field too few
pub fit_none : (ks : List Field) (i : ℕ) → i < length ks → has_fields (drop i ks) [] ≡ false
unfolding has_fields
fit_none ks i h = rw (left_next ks i Needed h)

pub fit_done : (ks : List Field) (i : ℕ) → length ks ≤ i → has_fields (drop i ks) [] ≡ true
unfolding has_fields
fit_done ks i h = rw (drop_of_length-le ks h)

-- a comma after the last field
pub fit_over : (ks : List Field) (i : ℕ) (xs : List ℕ) (at : ℕ) → length ks ≤ i → at < length xs
    → has_fields (drop i ks) (fields_after (drop at xs)) ≡ false
unfolding fields_after has_fields
fit_over ks i xs at h k = rw (drop_of_length-le ks h, left_next xs at 0 k, fields_first (drop (at + 1) xs))

-- ---- a field that is needed
module _ (f : List ℕ) where
  none : {t : Bool} → is_number f ≡ t → t ≡ false → None ≡ field_read Needed f
  unfolding field_read fits
  none e h = rw (e, h)

  pub too_short : length f < 1 → None ≡ field_read Needed f
  too_short h = none (is_number_lem f) (rw (lt-leb 1 (length f) h))

  pub too_long : 10 < length f → None ≡ field_read Needed f
  too_long h = none (is_number_lem f) (rw (lt-leb (length f) 10 h, and_false))

  pub not_spelt : spells 0 f ≡ false → None ≡ field_read Needed f
  not_spelt h = none (is_number_lem f) (rw (h, and_false))

  pub well_spelt : {v : ℕ} → 1 ≤ length f → length f ≤ 10 → spells 0 f ≡ true → v ≡ value_of f → Some v ≡ field_read Needed f
  unfolding field_read fits
  well_spelt h k e q = rw (is_number_lem f, both_within 1 10 (length f) h k, e, q)

-- ---- what a field's answer says
module _ (k : Field) (f : List ℕ) {r : Option ℕ} (e : r ≡ field_read k f) where
  pub good_fits : is_some r ≡ fits k f
  unfolding field_read
  good_fits = ap is_some e ∙ told (fits k f)
    where
      told : (t : Bool) → is_some (cond t (Some (number_in k f)) None) ≡ t
      told true = refl
      told false = refl

  pub good_value : {v : ℕ} → r ≡ Some v → v ≡ number_in k f
  unfolding field_read
  good_value {v} h = told (fits k f) (sym e ∙ h)
    where
      told : (t : Bool) → cond t (Some (number_in k f)) None ≡ Some v → v ≡ number_in k f
      told true q = cc
      told false q = cc

-- ---- all fields
module _ (ks : List Field) (fs : List (List ℕ)) where
  pub fields_bad : has_fields ks fs ≡ false → None ≡ fields_read ks fs
  unfolding fields_read
  fields_bad h = rw h

  pub fields_good : {vs : List ℕ} → has_fields ks fs ≡ true → vs ≡ numbers_of ks fs → Some vs ≡ fields_read ks fs
  unfolding fields_read
  fields_good h e = rw (h, e)

-- a loop that keeps the values: the first i stand in vs, the others are in what is left
module _ {m : List ℕ} (ks : List Field) (vs : List ℕ) (i : ℕ) (gs : List (List ℕ)) where
  pub value_kept : {v : ℕ} (f : List ℕ) (fs : List (List ℕ)) → i < length ks → i < length vs
      → v ≡ number_in (get_or ks i Needed) f → gs ≡ f ∷ fs
      → take i vs ++ numbers_of (drop i ks) gs ≡ m → take (i + 1) (set vs i v) ++ numbers_of (drop (i + 1) ks) fs ≡ m
  unfolding numbers_of
  value_kept {v} f fs l h e g k =
      let q = sym (ap₂ (λ o l. take i vs ++ numbers_of o l) (left_next ks i Needed l) g) ∙ k in
      rw (add-one i, take-suc-set vs i v h) (append_snoc (take i vs) v (numbers_of (drop (suc i) ks) fs) ∙ rw e (rw (add-one i) at q))

  pub values_kept : length ks ≤ i → length vs ≤ i → take i vs ++ numbers_of (drop i ks) gs ≡ m → vs ≡ m
  unfolding numbers_of
  values_kept l h k = sym (append-nil vs) ∙ sym (ap₂ (λ r o. r ++ numbers_of o gs) (take_all i vs h) (drop_of_length-le ks l)) ∙ k
