-- Within a row only the first unfinished job matters: the choice among the row's jobs is that job, or none where it is not released.
-- Assumes nothing.
use Rattle.std.specs.Prelude.{◌≡◌, refl, Bool, true, false, cond, ◌&&◌, List, [], ◌∷◌, map, ℕ, zero, suc, ◌+◌, ◌*◌, ◌≤◌, ◌<◌, leb, ltb, length, get_or, set, drop, replicate}
use Rattle.std.proofs.Common.{zero-le, ap, sym, ◌∙◌, add-one, one-add, add-zero, suc-add, add-suc, mul-le-mul_right, arith, drop_of_length-le}
use Rattle.std.specs.List.{position_or_len}
use Rattle.std.proofs.Math.Option.{Option, none, some}
use Rattle.std.proofs.lemmas.List.Recursion.{is_position_or_len}
use Rattle.std.proofs.Math.Dec.{leb-suc-suc}
use Rattle.std.proofs.lemmas.List.{length-map}
use Rattle.std.proofs.Math.ListN.{get_or-map}
use Rattle.std.proofs.Math.Seq.{drop-cons}
use borrow.Author.Tests.{lt-ltb, le-ltb, le-leb, leb-false}
use Rattle.base_lists.specs.Tests.{and_false, and_true}
use Rattle.spec_lists.specs.All.{All, stop}
use Rattle.base_lists.specs.All.{all_map, all_of_map}
use Rattle.base_lists.specs.Picked.{picked_one}
use Rattle.spec_model.specs.declared.Name.{Name}
use Rattle.spec_rules.specs.Slots.{Job, job_at, due_first, choose}
use Rattle.law_slots.specs.Choice.{Choice, takes}
use Rattle.law_slots.proofs.Choice.{chooses, ready_both}
use Rattle.beacon_plan.specs.Rows.{row_from, Padded}
use Rattle.beacon_plan.specs.RowLaws.{row_all}

-- the number of the first job that needs something; past the last where none does
unfoldable pub first_left : List ℕ → ℕ
first_left [] = 0
first_left (n ∷ ns) = cond (ltb 0 n) 0 (suc (first_left ns))

pub left_most : (ns : List ℕ) → first_left ns ≤ length ns
unfolding first_left
left_most [] = zero-le
left_most (n ∷ ns) = go (ltb 0 n) (left_most ns)
  where
    go : (b : Bool) → first_left ns ≤ length ns → cond b 0 (suc (first_left ns)) ≤ suc (length ns)
    go true h = zero-le
    go false h = omega arith

-- ---- the choice among a row's jobs
-- before jobs that are due later, a job is due first
due_first_lem : (t : ℕ) (j : Job) {js : List Job} → All (λ k. j.due ≤ k.due) js → due_first j (choose t js) ≡ some j
due_first_lem t j {js} h = go (choose t js) (chooses t js)
  where
    go : (c : Option Job) → Choice t js c → due_first j c ≡ some j
    go none w = refl
    go (some k) (takes pick r a) = ap (λ b. cond b (some j) (some k)) (le-leb j.due k.due (picked_one pick h))

-- of jobs that are released later none is chosen
none_yet : (t : ℕ) {js : List Job} → All (λ k. t < k.release) js → choose t js ≡ none
none_yet t {js} h = go (choose t js) (chooses t js)
  where
    go : (c : Option Job) → Choice t js c → c ≡ none
    go none w = refl
    go (some k) (takes pick r a) = absurd (omega (arith, ready_both t k r, picked_one pick h))

-- job j of T slots, if it is released
abbrev pub released : (t : ℕ) (s : Name) (T n j : ℕ) → Option Job
released t s T n j = cond (leb (j * T) t) (some (job_at s T n j)) none

-- By the row: a first job that needs nothing is not ready, and then it goes by the others. One that needs something is due before
-- the others and released before them.
pub row_choice : (t : ℕ) (s : Name) (T j : ℕ) (ns : List ℕ)
    → choose t (row_from s T j ns)
    ≡ cond (ltb (first_left ns) (length ns)) (released t s T (get_or ns (first_left ns) 0) (j + first_left ns)) none
unfolding row_from first_left choose
row_choice t s T j [] = refl
row_choice t s T j (n ∷ ns) = go (ltb 0 n) (row_choice t s T (suc j) ns)
  where
    h : ℕ
    h = first_left ns

    here : (b : Bool) → leb (j * T) t ≡ b → let r = choose t (row_from s T (suc j) ns) in
        cond b (due_first (job_at s T n j) r) r ≡ cond b (some (job_at s T n j)) none
    here true e = due_first_lem t (job_at s T n j) (row_all s T (suc j) ns (λ m i l. mul-le-mul_right T (omega arith)))
    here false e =
        none_yet t
        (row_all s T (suc j) ns (λ m i l. let q : j ≤ i = omega arith in omega (arith, leb-false (j * T) t e, mul-le-mul_right T q)))

    go : (b : Bool) → choose t (row_from s T (suc j) ns) ≡ cond (ltb h (length ns)) (released t s T (get_or ns h 0) (suc j + h)) none
        → let r = choose t (row_from s T (suc j) ns) in cond (leb (j * T) t && b) (due_first (job_at s T n j) r) r
        ≡ cond (ltb (cond b 0 (suc h)) (suc (length ns)))
        (released t s T (get_or (n ∷ ns) (cond b 0 (suc h)) 0) (j + cond b 0 (suc h))) none
    go true w =
        rw (and_true (leb (j * T) t), lt-ltb 0 (suc (length ns)) (omega arith), add-zero j) (here (leb (j * T) t) refl)
    go false w = rw (and_false (leb (j * T) t), leb-suc-suc (suc h) (length ns), add-suc j h, ← suc-add j h) w

-- it is the first place at which something is needed
pub left_found : (ns : List ℕ) → first_left ns ≡ position_or_len (λ n. ltb 0 n) ns
unfolding first_left
left_found ns = is_position_or_len first_left (λ n. ltb 0 n) refl (λ n ms. ap (cond (ltb 0 n) 0) (sym (one-add (first_left ms)))) ns

-- ---- the search for it, one job at a time
module _ (ns : List ℕ) (j : ℕ) where
  pub left_here : j < length ns → 0 < get_or ns j 0 → j ≡ j + first_left (drop j ns)
  unfolding first_left
  left_here h k = rw (drop-cons ns j 0 h, lt-ltb 0 (get_or ns j 0) k) (omega arith)

  pub left_later : j < length ns → get_or ns j 0 ≤ 0 → j + first_left (drop j ns) ≡ j + 1 + first_left (drop (j + 1) ns)
  unfolding first_left
  left_later h k = rw (add-one j, drop-cons ns j 0 h, le-ltb 0 (get_or ns j 0) k) (omega arith)

  pub left_none : length ns ≤ j → j ≡ j + first_left (drop j ns)
  unfolding first_left
  left_none h = rw (drop_of_length-le ns h) (omega arith)

-- ---- a row whose first unfinished job still needs something
pub left_stays : (ns : List ℕ) (v : ℕ) → 1 ≤ v → first_left (set ns (first_left ns) v) ≡ first_left ns
unfolding first_left
left_stays [] v h = refl
left_stays (n ∷ ns) v h = go (ltb 0 n) refl (left_stays ns v h)
  where
    go : (b : Bool) → ltb 0 n ≡ b → first_left (set ns (first_left ns) v) ≡ first_left ns
        → first_left (set (n ∷ ns) (cond b 0 (suc (first_left ns))) v) ≡ cond b 0 (suc (first_left ns))
    go true e w = rw (lt-ltb 0 v h)
    go false e w = rw e (ap suc w)

-- ---- of every row
-- one of them
pub head_at : (nss : List (List ℕ)) (i : ℕ) → get_or (map first_left nss) i 0 ≡ first_left (get_or nss i [])
unfolding first_left
head_at nss i = get_or-map first_left nss i []

-- one row changed
pub heads_set : (nss : List (List ℕ)) (i : ℕ) (ns : List ℕ) → map first_left (set nss i ns) ≡ set (map first_left nss) i (first_left ns)
heads_set [] i ns = refl
heads_set (x ∷ nss) zero ns = refl
heads_set (x ∷ nss) (suc i) ns = ap (λ l. first_left x ∷ l) (heads_set nss i ns)

-- a row that needs nothing has none
pub heads_spare : (rows : ℕ) (nss : List (List ℕ)) → All (λ ns. ns ≡ replicate 16 0) (drop rows nss)
    → All (λ h. h ≡ 16) (drop rows (map first_left nss))
unfolding first_left
heads_spare zero nss q = all_of_map first_left (all_map (λ ns e. ap first_left e) q)
heads_spare (suc r) [] q = stop
heads_spare (suc r) (ns ∷ nss) q = heads_spare r nss q

pub heads_padded : (rows : ℕ) (nss : List (List ℕ)) → Padded rows (replicate 16 0) nss → Padded rows 16 (map first_left nss)
heads_padded rows nss q = (length-map nss first_left ∙ q.0, (q.1.0, heads_spare rows nss q.1.1))
