-- What the jobs of rows need, by two lists: so many jobs of one need in each row of sixteen, and loops that fill the rows. Assumes nothing.
use Rattle.std.specs.Prelude.{◌≡◌, refl, List, [], ◌∷◌, ◌++◌, map, ℕ, zero, suc, ◌+◌, ◌-◌, ◌≤◌, ◌<◌, length, get_or, set, take, replicate}
use Rattle.std.proofs.Common.{sym, ap, ap₂, ◌∙◌, not-suc-le-zero, le_of_suc-le-suc, add-one, arith, length-append, length-take-le}
use Rattle.std.proofs.lemmas.List.{length-replicate}
use Rattle.spec_lists.specs.All.{All, stop, and}
use Rattle.base_lists.specs.Spare.{Filling}
use Rattle.spec_model.specs.Tables.{places}
use Rattle.beacon_plan.specs.RowLaws.{Wide}
use Rattle.beacon_plan.specs.Needs.{needs_row, length_row}

-- a row for each count
unfoldable pub need_rows : (counts each : List ℕ) → List (List ℕ)
need_rows [] ns = []
need_rows (c ∷ cs) [] = []
need_rows (c ∷ cs) (n ∷ ns) = needs_row c n ∷ need_rows cs ns

-- at most sixteen jobs in each row
pub record Counted (counts each : List ℕ) : Type 0 where
  pub counts_sized : length counts ≡ places
  pub each_sized : length each ≡ places
  pub few : All (λ c. c ≤ 16) counts

-- ---- one row
-- one job more
row_more : (j m v : ℕ) → set (replicate j v ++ replicate (suc m) 0) j v ≡ replicate (suc j) v ++ replicate m 0
row_more zero m v = refl
row_more (suc j) m v = ap (λ l. v ∷ l) (row_more j m v)

needs_more : (j v : ℕ) → j < 16 → set (needs_row j v) j v ≡ needs_row (j + 1) v
needs_more j v h =
    let up : 16 - j ≡ suc (16 - (j + 1)) = omega arith in
    ap (λ m. set (replicate j v ++ replicate m 0) j v) up
    ∙ row_more j (16 - (j + 1)) v
    ∙ ap (λ k. replicate k v ++ replicate (16 - (j + 1)) 0) (sym (add-one j))

-- in row k
pub fill_more : (nss : List (List ℕ)) (k j v : ℕ) → k < length nss → j < 16 → let filled = set nss k (needs_row j v) in
    set filled k (set (get_or filled k []) j v) ≡ set nss k (needs_row (j + 1) v)
fill_more [] k j v h l = absurd (not-suc-le-zero h)
fill_more (ns ∷ nss) zero j v h l = ap (λ r. r ∷ nss) (needs_more j v l)
fill_more (ns ∷ nss) (suc k) j v h l = ap (λ r. ns ∷ r) (fill_more nss k j v (le_of_suc-le-suc h) l)

-- ---- all rows
pub needs_at : (cs ns : List ℕ) (i : ℕ) → i < length cs → i < length ns → get_or (need_rows cs ns) i [] ≡ needs_row (get_or cs i 0) (get_or ns i 0)
unfolding need_rows
needs_at [] ns i h k = absurd (not-suc-le-zero h)
needs_at (c ∷ cs) [] i h k = absurd (not-suc-le-zero k)
needs_at (c ∷ cs) (n ∷ ns) zero h k = refl
needs_at (c ∷ cs) (n ∷ ns) (suc i) h k = needs_at cs ns i (le_of_suc-le-suc h) (le_of_suc-le-suc k)

length_rows : (cs ns : List ℕ) → length cs ≡ length ns → length (need_rows cs ns) ≡ length cs
unfolding need_rows
length_rows [] ns e = refl
length_rows (c ∷ cs) [] e = absurd (omega arith)
length_rows (c ∷ cs) (n ∷ ns) e = omega (arith, length_rows cs ns (omega arith))

wide_rows : {cs : List ℕ} → All (λ c. c ≤ 16) cs → (ns : List ℕ) → Wide (need_rows cs ns)
unfolding need_rows
wide_rows stop ns = stop
wide_rows (and p h) [] = stop
wide_rows (and {x = c} p h) (n ∷ ns) = and (length_row c n p) (wide_rows h ns)

pub counted_sized : {cs ns : List ℕ} → Counted cs ns → (length (need_rows cs ns) ≡ places) × Wide (need_rows cs ns)
counted_sized {cs} {ns} w = (length_rows cs ns (w.counts_sized ∙ sym w.each_sized) ∙ w.counts_sized, wide_rows w.few ns)

-- where both go by one list
pub needs_map : {A : Type 0} (f g : A → ℕ) (xs : List A) → need_rows (map f xs) (map g xs) ≡ map (λ x. needs_row (f x) (g x)) xs
unfolding need_rows
needs_map f g [] = refl
needs_map f g (x ∷ xs) = ap (λ l. needs_row (f x) (g x) ∷ l) (needs_map f g xs)

-- ---- a row that a loop has not filled yet
get_d_seam : {A : Type 0} (xs : List A) (y : A) (ys : List A) (z : A) → get_or (xs ++ y ∷ ys) (length xs) z ≡ y
get_d_seam [] y ys z = refl
get_d_seam (x ∷ xs) y ys z = get_d_seam xs y ys z

pub filling_next : {A : Type 0} {d : A} {xs : List A} {n : ℕ} {ys : List A} {i : ℕ} (z : A) → Filling d xs n ys i → i < length xs
    → (length ys ≡ length xs) × (get_or ys i z ≡ d)
filling_next {A} {d} {xs} {n} {ys} {i} z f h =
    let done : List A = take i xs in
    let size : length done ≡ i = length-take-le i xs (omega arith) in
    let rest : length xs - i ≡ suc (length xs - suc i) = omega arith in (
      ap length f.so_far ∙ length-append done (replicate (length xs - i) d)
          ∙ omega (arith, length-replicate (length xs - i) d, size),
      ap (λ l. get_or l i z) f.so_far ∙ ap₂ (λ k m. get_or (done ++ replicate m d) k z) (sym size) rest
          ∙ get_d_seam done d (replicate (length xs - suc i) d) z,
    )
