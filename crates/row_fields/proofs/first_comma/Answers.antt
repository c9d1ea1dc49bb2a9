-- `row_fields::first_comma` meets its contract. Assumes nothing.
use Rattle.std.proofs.Common.{◌≡◌, rules, tests, arith, ℕ, ◌≤◌, List, Some, None, ltb, eqb, cond, refl, ap, ◌∙◌}
use Rattle.std.specs.Option.{unwrap_or}
use Rattle.std.proofs.lemmas.Bool.Decides.{nat_tests}
use Rattle.std.proofs.lemmas.Iterator.{YieldsList-from_slice}
use Rattle.std.proofs.lemmas.Iterator.Search.{position_from_yields_List}
use Rattle.std.proofs.lemmas.List.Recursion.{is_position_or_len}
use Rattle.std.specs.List.{position_or_len}
use Rattle.spec_text.specs.Fields.{comma}
use Rattle.row_fields.specs.FieldLaws.{to_comma, to_comma_most}
use Rattle.row_fields.proofs.first_comma.Goals as goal

place_or : (p n : ℕ) → p ≤ n → unwrap_or (cond (ltb p n) (Some p) None) n ≡ p
place_or p n h = grind (arith, nat_tests)

is_to_comma : (xs : List ℕ) → to_comma xs ≡ position_or_len (λ b. eqb b comma) xs
unfolding to_comma
is_to_comma xs = is_position_or_len to_comma (λ b. eqb b comma) refl (λ x l. ap (cond (eqb x comma) 0) (omega arith)) xs

pub returns : goal.returns
returns c =
    let xs = c.args.text.now in
    let e = position_from_yields_List (λ b. eqb b comma) _ _ c.position.result c.position.ensures.ran (YieldsList-from_slice xs cc) (λ x b q k. search (rules, tests)) in
    let k : c.unwrap_or.result ≡ to_comma xs = c.unwrap_or.ensures ∙ rw (e, ← is_to_comma xs) (place_or _ _ (to_comma_most xs)) in
    record { value = k; inside = rw k (to_comma_most xs) }
