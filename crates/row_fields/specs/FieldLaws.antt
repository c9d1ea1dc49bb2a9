-- Laws of fields: where they begin and end, one comma at a time. Assumes nothing.
use Rattle.std.specs.Prelude.{◌≡◌, refl, Bool, true, false, cond, List, [], ◌∷◌, ℕ, suc, ◌-◌, ◌≤◌, eqb, length, take, drop}
use Rattle.std.proofs.Common.{ap, length-drop, take_all}
use native.Mathlib.Omega.{arith}
use Rattle.spec_text.specs.Rows.{on_first}
use Rattle.spec_text.specs.Fields.{comma, fields_of}

-- the bytes before the first comma
unfoldable pub to_comma : List ℕ → ℕ
to_comma [] = 0
to_comma (b ∷ bs) = let n = to_comma bs in cond (eqb b comma) 0 (suc n)

-- the fields after the comma that the text begins with; no text, no field
unfoldable pub fields_after : List ℕ → List (List ℕ)
fields_after [] = []
fields_after (b ∷ bs) = fields_of bs

pub fields_first : (bs : List ℕ) → fields_of bs ≡ take (to_comma bs) bs ∷ fields_after (drop (to_comma bs) bs)
unfolding fields_of to_comma fields_after on_first
fields_first [] = refl
fields_first (b ∷ bs) = go (eqb b comma) (fields_first bs)
  where
    go : (t : Bool) → fields_of bs ≡ take (to_comma bs) bs ∷ fields_after (drop (to_comma bs) bs)
        → cond t ([] ∷ fields_of bs) (on_first b (fields_of bs))
        ≡ take (cond t 0 (suc (to_comma bs))) (b ∷ bs) ∷ fields_after (drop (cond t 0 (suc (to_comma bs))) (b ∷ bs))
    go true e = refl
    go false e = ap (on_first b) e

pub to_comma_most : (bs : List ℕ) → to_comma bs ≤ length bs
unfolding to_comma
to_comma_most [] = omega arith
to_comma_most (b ∷ bs) = go (eqb b comma) (to_comma_most bs)
  where
    go : (t : Bool) → to_comma bs ≤ length bs → cond t 0 (suc (to_comma bs)) ≤ suc (length bs)
    go true h = omega arith
    go false h = omega arith

-- what a part of a text holds
abbrev pub part : (from end : ℕ) → List ℕ → List ℕ
part from end xs = take (end - from) (drop from xs)

pub part_rest : (xs : List ℕ) (n : ℕ) → part n (length xs) xs ≡ drop n xs
part_rest xs n = take_all (length xs - n) (drop n xs) (omega (arith, length-drop n xs))
