-- What is read of a field and of all, by what a loop over them has seen. Assumes nothing.
use Rattle.std.specs.Prelude.{◌≡◌, Bool, cond, ◌&&◌, leb, List, [], ◌∷◌, ◌++◌, ℕ, suc, ◌+◌, ◌-◌, ◌*◌, ◌≤◌, ◌<◌, eqb, length, drop, set, get_or, Option, Some, None}
use Rattle.std.proofs.Math.Path.{refl, sym, ap}
use Rattle.std.proofs.Common.{ap₂, ◌∙◌, append-nil, drop_of_length-le, take_all, add-one, arith, le-leb, ne_eqb}
use Rattle.std.proofs.Math.Bool.{true, false}
use Rattle.std.proofs.Math.ListN.{take}
use Rattle.std.proofs.Math.Seq.{take-suc-set, append_snoc}
use Rattle.std.proofs.lemmas.Bool.{lt-leb}
use Rattle.std.specs.Bool.{then_some}
use Rattle.std.specs.Option.{option_map, option_and_then}
use Rattle.spec_lists.specs.Lists.{within}
use Rattle.base_lists.specs.Loops.{left_next}
use Rattle.base_lists.specs.Tests.{and_false}
use Rattle.spec_text.specs.declared.Field.{Field}
use Rattle.spec_text.specs.declared.Field.TheVariants.{Needed, MayBeEmpty, Empty}
use Rattle.spec_text.specs.Fields.{all_digits, spelt, is_number, is_empty, fits, has_fields, number_or, number_in, numbers_of}
use Rattle.row_fields.specs.FieldLaws.{to_comma, fields_after, fields_first, part, part_rest}
use Rattle.row_fields.specs.FieldReads.{field_read, fields_read}

-- ---- digits
-- digits, after which the number v becomes one that is not too large
unfoldable pub spells : ℕ → List ℕ → Bool
spells v bs = all_digits bs && leb (spelt v bs) 4294967295

-- the number that digits go on to spell after v
unfoldable pub digits_read : ℕ → List ℕ → Option ℕ
digits_read v bs = cond (spells v bs) (Some (spelt v bs)) None

spelt_grows : (v : ℕ) (bs : List ℕ) → v ≤ spelt v bs
unfolding spelt
spelt_grows v [] = omega arith
spelt_grows v (b ∷ bs) = omega (arith, spelt_grows (10 * v + (b - 48)) bs)

pub too_large : (v : ℕ) (bs : List ℕ) → 4294967295 < v → digits_read v bs ≡ None
unfolding digits_read spells
too_large v bs h = rw (lt-leb (spelt v bs) 4294967295 (omega (arith, spelt_grows v bs)), and_false (all_digits bs))

-- a loop over the digits, at place i
module _ (xs : List ℕ) (i v : ℕ) where
  pub no_digit : i < length xs → within 48 57 (get_or xs i 0) ≡ false → digits_read v (drop i xs) ≡ None
  unfolding digits_read spells all_digits
  no_digit h e = rw (left_next xs i 0 h, e)

  pub digit_next : i < length xs → within 48 57 (get_or xs i 0) ≡ true
      → digits_read v (drop i xs) ≡ digits_read (10 * v + (get_or xs i 0 - 48)) (drop (i + 1) xs)
  unfolding digits_read spells all_digits spelt
  digit_next h e = rw (left_next xs i 0 h, e)

  pub digits_end : length xs ≤ i → v ≤ 4294967295 → digits_read v (drop i xs) ≡ Some v
  unfolding digits_read spells all_digits spelt
  digits_end h k = rw (drop_of_length-le xs h, le-leb v 4294967295 k)

-- a field that is needed
pub needed_read : (f : List ℕ) → field_read Needed f ≡ cond (within 1 10 (length f)) (digits_read 0 f) None
unfolding field_read fits is_number digits_read spells
needed_read f = go (within 1 10 (length f))
  where
    go : (t : Bool) → cond (t && (all_digits f && leb (spelt 0 f) 4294967295)) (Some (spelt 0 f)) None
        ≡ cond t (cond (all_digits f && leb (spelt 0 f) 4294967295) (Some (spelt 0 f)) None) None
    go true = refl
    go false = refl

pub not_read : (f : List ℕ) → digits_read 0 f ≡ None → field_read Needed f ≡ None
not_read f h = rw (needed_read f, h) (go (within 1 10 (length f)))
  where
    go : (t : Bool) → cond {A = Option ℕ} t None None ≡ None
    go true = refl
    go false = refl

-- ---- a field that may be empty: an empty one, and another
pub may_be_empty : (d : ℕ) (f : List ℕ) → length f ≡ 0 → Some d ≡ field_read (MayBeEmpty d) f
unfolding field_read fits is_empty number_or
may_be_empty d [] h = refl
may_be_empty d (b ∷ bs) h = absurd (omega arith)

pub not_empty : (d : ℕ) (f : List ℕ) {r : Option ℕ} → (length f ≡ 0 → ⊥) → r ≡ field_read Needed f → r ≡ field_read (MayBeEmpty d) f
unfolding field_read fits is_empty number_or
not_empty d [] n e = absurd (n refl)
not_empty d (b ∷ bs) n e = e

-- ---- a field that must be empty
pub empty_read : (f : List ℕ) → then_some (eqb (length f) 0) 0 ≡ field_read Empty f
unfolding field_read fits is_empty
empty_read [] = refl
empty_read (b ∷ bs) = rw (ne_eqb (suc (length bs)) 0 (λ e. omega arith))

-- ---- all fields: the numbers read so far, before those of what is left
abbrev pub joined : List ℕ → Option (List ℕ) → Option (List ℕ)
joined vs rest = option_map (λ ws. vs ++ ws) rest

module _ (k : Field) (ks : List Field) (f : List ℕ) (fs : List (List ℕ)) where
  next : (t u : Bool) → cond (t && u) (Some (number_in k f ∷ numbers_of ks fs)) None
      ≡ option_and_then (λ v. joined (v ∷ []) (cond u (Some (numbers_of ks fs)) None)) (cond t (Some (number_in k f)) None)
  next true true = refl
  next true false = refl
  next false u = refl

  read_next : {r : Option ℕ} → r ≡ field_read k f → fields_read (k ∷ ks) (f ∷ fs) ≡ option_and_then (λ v. joined (v ∷ []) (fields_read ks fs)) r
  unfolding fields_read field_read has_fields numbers_of
  read_next e = rw e (next (fits k f) (has_fields ks fs))

-- a loop over a form and a text of fields, with the values so far: a field too few
pub too_few : (form : List Field) (i : ℕ) (vs rest : List ℕ) {whole : Option (List ℕ)} → i < length form → length rest ≡ 0
    → joined (take i vs) (fields_read (drop i form) (fields_after rest)) ≡ whole → None ≡ whole
unfolding fields_read has_fields fields_after
too_few form i vs [] h n k = rw (left_next form i Needed h) at k
too_few form i vs (b ∷ bs) h n k = absurd (omega arith)

-- a comma, a field of so many bytes, and what is behind it
module _ (form : List Field) (i : ℕ) (vs after : List ℕ) {whole : Option (List ℕ)} {rest : List ℕ} {r : Option ℕ} {b size : ℕ} (h : i < length form)
    (s : rest ≡ b ∷ after) (e : size ≡ to_comma after) (q : r ≡ field_read (get_or form i Needed) (take size after))
    (k : joined (take i vs) (fields_read (drop i form) (fields_after rest)) ≡ whole) where
  turn : joined (take i vs) (option_and_then (λ v. joined (v ∷ []) (fields_read (drop (i + 1) form) (fields_after (drop size after)))) r) ≡ whole
  unfolding fields_after
  turn =
      let f : fields_after rest ≡ take size after ∷ fields_after (drop size after) = rw (s, e) (fields_first after) in
      sym (ap₂ (λ o l. joined (take i vs) (fields_read o l)) (left_next form i Needed h) f
      ∙ ap (joined (take i vs)) (read_next (get_or form i Needed) (drop (i + 1) form) (take size after) (fields_after (drop size after)) q)) ∙ k

  pub refused : r ≡ None → None ≡ whole
  refused n = rw n at turn

  pub kept : (v : ℕ) → i < length vs → r ≡ Some v
      → joined (take (i + 1) (set vs i v)) (fields_read (drop (i + 1) form) (fields_after (part size (length after) after))) ≡ whole
  kept v l n = rw part_rest (go (fields_read (drop (i + 1) form) (fields_after (drop size after))) ∙ (rw n at turn))
    where
      go : (o : Option (List ℕ)) → joined (take (i + 1) (set vs i v)) o ≡ joined (take i vs) (joined (v ∷ []) o)
      go None = refl
      go (Some ws) = rw (add-one i, take-suc-set vs i v l) (ap Some (append_snoc (take i vs) v ws))

-- the loop is done: nothing may be left
pub all_read : (form : List Field) (i : ℕ) (vs rest : List ℕ) {whole : Option (List ℕ)} → length form ≤ i → length vs ≤ i
    → joined (take i vs) (fields_read (drop i form) (fields_after rest)) ≡ whole → then_some (eqb (length rest) 0) vs ≡ whole
unfolding fields_read has_fields numbers_of fields_after
all_read form i vs [] h l k = sym (ap Some (append-nil (take i vs) ∙ take_all i vs l)) ∙ (rw (drop_of_length-le form h) at k)
all_read form i vs (b ∷ bs) h l k = rw (ne_eqb (suc (length bs)) 0 (λ e. omega arith)) (rw (drop_of_length-le form h, fields_first bs) at k)
