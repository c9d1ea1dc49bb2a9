-- The first free place of a table, and that place taken. Assumes nothing.
use Rattle.std.specs.Prelude.{◌≡◌, refl, Bool, true, false, cond, not, List, [], ◌∷◌, suc, ◌≤◌, leb, length, set}
use Rattle.std.proofs.Common.{ap, arith, leb-true, le-leb}
use Rattle.spec_lists.specs.Lists.{keep}
use Rattle.base_lists.specs.Tests.{same_test}
use Rattle.base_lists.specs.First.{first_of, first_kept, kept_first}
use Rattle.spec_model.specs.Entries.{is_held}
use Rattle.spec_model.specs.declared.Entry.{Entry}
use Rattle.spec_model.specs.Tables.{places}
use Rattle.spec_rules.specs.Calls.{placed}

abbrev pub is_free : Entry → Bool
is_free e = not (is_held e)

pub place_taken : (e : Entry) (es : List Entry) → set es (first_of is_free es) e ≡ placed e es
unfolding first_of placed
place_taken e [] = refl
place_taken e (f ∷ fs) = go (is_held f) (place_taken e fs)
  where
    go : (b : Bool) → set fs (first_of is_free fs) e ≡ placed e fs
        → set (f ∷ fs) (cond (not b) 0 (suc (first_of is_free fs))) e ≡ cond b (f ∷ placed e fs) (e ∷ fs)
    go true h = ap (λ l. f ∷ l) h
    go false h = refl

pub place_full : (es : List Entry) → length es ≡ places → leb places (first_of is_free es) ≡ leb places (length (keep is_held es))
place_full es l =
    same_test (leb places (first_of is_free es)) (leb places (length (keep is_held es)))
    (λ h. let k = leb-true places (first_of is_free es) h in le-leb places (length (keep is_held es)) (omega (arith, first_kept is_held es)))
    (λ h. let k = leb-true places (length (keep is_held es)) h in let m : length es ≤ length (keep is_held es) = omega arith in
    le-leb places (first_of is_free es) (omega (arith, kept_first is_held es m)))
