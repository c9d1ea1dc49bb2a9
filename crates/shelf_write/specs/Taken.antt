-- What a writer holds after bytes were handed to it, where it says what it holds. Assumes nothing.
use Rattle.std.specs.Prelude.{◌≡◌, ℕ, ◌+◌, ◌≤◌, Bool, true, refl, Option, List, [], ◌++◌, length, take}
use Rattle.std.proofs.Common.{sym, subst, arith, length-append, take_at}
use Rattle.std.proofs.Math.Seq.{take_all, take-append-add}
use Rattle.std.specs.Io.KnownBytes.{Appends}
use Rattle.std.proofs.KnownBytes.{Appends-nil, Appends-trans}
use Rattle.spec_shelf.specs.Bytes.{written}

-- so many of the bytes, from the first on, and nothing else: all of them where it took them all
pub record Took (before after : Option (List ℕ)) (well : Bool) (bytes : List ℕ) : Type 0 where
  pub count : ℕ
  pub held : Appends before after (take count bytes)
  pub whole : well ≡ true → length bytes ≤ count

-- ---- laws
pub took_none : (held : Option (List ℕ)) → Took held held true []
took_none held = record { count = 0; held = Appends-nil held; whole = λ _. omega arith }

-- all of the bytes
pub took_whole : {before after : Option (List ℕ)} {well : Bool} {bytes : List ℕ} → Took before after well bytes → well ≡ true
    → Appends before after bytes
took_whole {before} {after} {bytes = bytes} t e = subst (Appends before after) (take_all t.count bytes (t.whole e)) t.held

-- some bytes, all of which were taken, and then others
pub took_then : {before between after : Option (List ℕ)} {ok well : Bool} {xs ys : List ℕ} → ok ≡ true → Took before between ok xs
    → Took between after well ys → Took before after well (xs ++ ys)
took_then {before} {between} {after} {xs = xs} {ys} e s t =
    record {
      count = length xs + t.count;
      held = subst (Appends before after) (sym (take-append-add xs ys t.count))
          (Appends-trans before between after xs (take t.count ys) (took_whole s e) t.held);
      whole = λ w. let h = t.whole w in omega (arith, length-append xs ys);
    }

-- rows that stand at the start of lent memory
pub first_written : (out rows : List ℕ) → take (length rows) (written out 0 rows) ≡ rows
unfolding written
first_written out rows = take_at rows _ (length rows) refl

pub took_rows : (out : List ℕ) {before after : Option (List ℕ)} {well : Bool} {n : ℕ} {bytes rows : List ℕ}
    → Took before after well (take n bytes) → n ≡ length rows → bytes ≡ written out 0 rows → Took before after well rows
took_rows out {before} {after} {well} {rows = rows} t e w = subst (Took before after well) (rw (e, w) (first_written out rows)) t
