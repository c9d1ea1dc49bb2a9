-- What is kept of each row as its jobs run: what each still needs, and its first unfinished job, with when that is released and due. And
-- the choice among these, which is that among the rows by place. Assumes nothing.
use Rattle.std.specs.Prelude.{◌≡◌, refl, Bool, true, false, cond, ◌&&◌, Option, None, Some, List, [], ◌∷◌, map, ℕ, zero, suc, ◌+◌, ◌*◌, ◌≤◌, ◌<◌, leb, ltb, position, length, get_or, set, drop}
use Rattle.std.proofs.Common.{ap, ap₂, le-leb, drop_of_length-le, add-one, arith, lt-ltb, le-ltb, ltb-true, ltb-false}
use Rattle.std.proofs.lemmas.Bool.{lt-leb}
use Rattle.std.proofs.Math.Seq.{drop-cons}
use Rattle.std.proofs.Math.ListN.{get_or-map}
use Rattle.std.proofs.lemmas.List.{length-map}
use Rattle.std.proofs.Math.Option as choice
use Rattle.spec_model.specs.Tables.{places}
use Rattle.spec_rules.specs.Slots.{Job}
use Rattle.beacon_plan.specs.declared.JobRow.{JobRow}
use Rattle.beacon_plan.specs.declared.Head.{Head}
use Rattle.beacon_plan.specs.declared.Progress.{Progress}
use Rattle.beacon_plan.specs.Needs.{needs_row, lengths_of, needs_of}
use Rattle.beacon_plan.specs.Heads.{first_left, left_found, left_most, left_stays}
use Rattle.beacon_plan.specs.Places.{no_release, release_of, releases_of, place_from, held_by}

-- ---- one row
-- when job h of T slots is due; h is 16 where a row has none left
unfoldable pub due_of : (T h : ℕ) → ℕ
due_of T h = cond (leb 16 h) no_release (h * T + T)

-- job h of T slots, with these
abbrev pub head_at : (T h : ℕ) → Head
head_at T h = record { job = h; release = record { 0 = release_of T h }; due = record { 0 = due_of T h } }

-- the first unfinished one, by what each needs
abbrev pub head_of : (T : ℕ) → List ℕ → Head
head_of T ns = head_at T (first_left ns)

-- and what that needs
abbrev pub head_need : List ℕ → ℕ
head_need ns = get_or ns (first_left ns) 0

-- it is the first place at which something is needed
abbrev pub found_at : (T : ℕ) → Option ℕ → Head
found_at T None = record { job = 16; release = record { 0 = no_release }; due = record { 0 = no_release } }
found_at T (Some h) = record { job = h; release = record { 0 = h * T }; due = record { 0 = h * T + T } }

pub head_found : (T : ℕ) (ns : List ℕ) → length ns ≡ 16 → found_at T (position (λ n. ltb 0 n) ns) ≡ head_of T ns
unfolding release_of due_of
head_found T ns e = rw (← left_found ns, e) (go (ltb (first_left ns) 16) refl)
  where
    go : (b : Bool) → ltb (first_left ns) 16 ≡ b → found_at T (cond b (Some (first_left ns)) None) ≡ head_of T ns
    go true q = rw (lt-leb 16 (first_left ns) (ltb-true (first_left ns) 16 q))
    go false q =
        let h : first_left ns ≡ 16 = omega (arith, left_most ns, ltb-false (first_left ns) 16 q) in
        rw h

-- a row of jobs of T slots, which still need so much
abbrev pub row_of : (T : ℕ) → List ℕ → Progress
row_of T ns = record { left = ns; head = head_of T ns }

-- a row, and every row, before any job has run
abbrev pub begun : JobRow → Progress
begun r = row_of r.length.0 (needs_row r.count r.need.0)

abbrev pub begun_rows : List JobRow → List Progress
begun_rows rs = map begun rs

pub row_made : (T : ℕ) {ns ms : List ℕ} {h : Head} → ns ≡ ms → h ≡ head_of T ms → record { left = ns; head = h } ≡ row_of T ms
row_made T e f = ap₂ (λ l h. record { left = l; head = h }) e f

-- while the first unfinished job needs something it is the first
pub row_stays : (T : ℕ) (ns : List ℕ) (v : ℕ) → 1 ≤ v → head_of T (set ns (first_left ns) v) ≡ head_of T ns
row_stays T ns v h = ap (head_at T) (left_stays ns v h)

-- ---- every row
unfoldable pub rows_of : (lengths : List ℕ) (needs : List (List ℕ)) → List Progress
rows_of [] nss = []
rows_of (T ∷ Ts) [] = []
rows_of (T ∷ Ts) (ns ∷ nss) = row_of T ns ∷ rows_of Ts nss

abbrev pub left_in : List Progress → List (List ℕ)
left_in ps = map (λ p. p.left) ps

abbrev pub heads_in : List Progress → List Head
heads_in ps = map (λ p. p.head) ps

-- one row changed
pub rows_set : (Ts : List ℕ) (nss : List (List ℕ)) (i : ℕ) (ns : List ℕ) → rows_of Ts (set nss i ns) ≡ set (rows_of Ts nss) i (row_of (get_or Ts i 0) ns)
unfolding rows_of
rows_set [] nss i ns = refl
rows_set (T ∷ Ts) [] i ns = refl
rows_set (T ∷ Ts) (x ∷ nss) zero ns = refl
rows_set (T ∷ Ts) (x ∷ nss) (suc i) ns = ap (λ l. row_of T x ∷ l) (rows_set Ts nss i ns)

-- what they need
pub left_rows : (Ts : List ℕ) (nss : List (List ℕ)) → length nss ≡ length Ts → left_in (rows_of Ts nss) ≡ nss
unfolding rows_of
left_rows [] [] e = refl
left_rows [] (ns ∷ nss) e = absurd (omega arith)
left_rows (T ∷ Ts) [] e = refl
left_rows (T ∷ Ts) (ns ∷ nss) e = ap (λ l. ns ∷ l) (left_rows Ts nss (omega arith))

-- one of them
pub row_at : (Ts : List ℕ) (nss : List (List ℕ)) (i : ℕ) (d : Progress) → i < length Ts → i < length nss
    → get_or (rows_of Ts nss) i d ≡ row_of (get_or Ts i 0) (get_or nss i [])
unfolding rows_of
row_at [] nss i d h k = absurd (omega arith)
row_at (T ∷ Ts) [] i d h k = absurd (omega arith)
row_at (T ∷ Ts) (ns ∷ nss) zero d h k = refl
row_at (T ∷ Ts) (ns ∷ nss) (suc i) d h k = row_at Ts nss i d (omega arith) (omega arith)

pub rows_begun : (rs : List JobRow) → begun_rows rs ≡ rows_of (lengths_of rs) (needs_of rs)
unfolding rows_of
rows_begun [] = refl
rows_begun (r ∷ rs) = ap (λ l. begun r ∷ l) (rows_begun rs)

-- ---- the choice
-- the job is released by t and due before d
abbrev pub is_sooner : (t d : ℕ) → Head → Bool
is_sooner t d h = leb h.release.0 t && ltb h.due.0 d

-- of the rows from place i on, the place of the first of those due first; so far it is p, due at d
unfoldable pub chosen_from : (t i : ℕ) → Option ℕ → (d : ℕ) → List Head → Option ℕ
chosen_from t i p d [] = p
chosen_from t i p d (h ∷ hs) =
    let b = is_sooner t d h in
    chosen_from t (suc i) (cond b (Some i) p) (cond b h.due.0 d) hs

-- what is read past the last row
abbrev pub no_progress : Progress
no_progress = record { left = []; head = record { job = 0; release = record { 0 = 0 }; due = record { 0 = 0 } } }

pub left_at : (ps : List Progress) (i : ℕ) → get_or (left_in ps) i [] ≡ (get_or ps i no_progress).left
left_at ps i = get_or-map (λ (p : Progress). p.left) ps i no_progress

-- one row at a time
module _ (t i : ℕ) (p : Option ℕ) (d : ℕ) (ps : List Progress) (k : i < length ps) where
  abbrev now : Head
  now = (get_or ps i no_progress).head

  chosen_step : let b = is_sooner t d now in
      chosen_from t i p d (drop i (heads_in ps)) ≡ chosen_from t (i + 1) (cond b (Some i) p) (cond b now.due.0 d) (drop (i + 1) (heads_in ps))
  unfolding chosen_from
  chosen_step =
      let m : i < length (heads_in ps) = simp length-map k in
      rw (add-one i, drop-cons (heads_in ps) i no_progress.head m, get_or-map (λ (q : Progress). q.head) ps i no_progress)

  pub chosen_taken : now.release.0 ≤ t → now.due.0 < d
      → chosen_from t i p d (drop i (heads_in ps)) ≡ chosen_from t (i + 1) (Some i) now.due.0 (drop (i + 1) (heads_in ps))
  chosen_taken a b = rw (le-leb now.release.0 t a, lt-ltb now.due.0 d b) at chosen_step

  pub chosen_early : t < now.release.0 → chosen_from t i p d (drop i (heads_in ps)) ≡ chosen_from t (i + 1) p d (drop (i + 1) (heads_in ps))
  chosen_early a = rw (lt-leb now.release.0 t a) at chosen_step

  pub chosen_due : now.release.0 ≤ t → d ≤ now.due.0
      → chosen_from t i p d (drop i (heads_in ps)) ≡ chosen_from t (i + 1) p d (drop (i + 1) (heads_in ps))
  chosen_due a b = rw (le-leb now.release.0 t a, le-ltb now.due.0 d b) at chosen_step

pub chosen_end : (t i : ℕ) (p : Option ℕ) (d : ℕ) (ps : List Progress) → length ps ≤ i → chosen_from t i p d (drop i (heads_in ps)) ≡ p
unfolding chosen_from
chosen_end t i p d ps h =
    let m : length (heads_in ps) ≤ i = simp length-map h in
    rw (drop_of_length-le (heads_in ps) m)

-- a place of those there are
abbrev pub placed : ℕ → Option ℕ
placed p = cond (ltb p places) (Some p) None

-- By the rows: where the two choices go on alike.
module _ (t i p d T j : ℕ) (hs : List Head) (Ts rs : List ℕ) (h : t < no_release) (l : d ≤ no_release) (k : i < places)
    (rest : (q e : ℕ) → e ≤ no_release → chosen_from t (suc i) (placed q) e hs ≡ placed (place_from t (suc i) q e Ts rs)) where
  -- where the row's job is released, and due at u
  soon : (u : ℕ) (a : Bool) → ltb u d ≡ a
      → chosen_from t (suc i) (cond a (Some i) (placed p)) (cond a u d) hs ≡ placed (place_from t (suc i) (cond a i p) (cond a u d) Ts rs)
  soon u true e = rw (lt-ltb i places k) at (rest i u (omega (arith, ltb-true u d e)))
  soon u false e = rest p d l

  -- where it is not
  late : let a = ltb no_release d in
      chosen_from t (suc i) (placed p) d hs ≡ placed (place_from t (suc i) (cond a i p) (cond a no_release d) Ts rs)
  late = rw (le-ltb no_release d l) (rest p d l)

  by : (b : Bool) → let a = b && ltb (j * T + T) d in let x = cond b (j * T + T) no_release in
      chosen_from t (suc i) (cond a (Some i) (placed p)) (cond a (j * T + T) d) hs
      ≡ placed (place_from t (suc i) (cond (ltb x d) i p) (cond (ltb x d) x d) Ts rs)
  by true = soon (j * T + T) (ltb (j * T + T) d) refl
  by false = late

  alike : (c : Bool) → let r = cond c no_release (j * T) in let u = cond c no_release (j * T + T) in
      let a = leb r t && ltb u d in let x = cond (leb r t) (r + T) no_release in
      chosen_from t (suc i) (cond a (Some i) (placed p)) (cond a u d) hs
      ≡ placed (place_from t (suc i) (cond (ltb x d) i p) (cond (ltb x d) x d) Ts rs)
  alike true = rw (lt-leb no_release t h) late
  alike false = by (leb (j * T) t)

-- the law: it is the choice by place
pub chosen_placed : (t i p d : ℕ) (Ts : List ℕ) (nss : List (List ℕ)) → t < no_release → d ≤ no_release → i + length Ts ≤ places
    → chosen_from t i (placed p) d (heads_in (rows_of Ts nss)) ≡ placed (place_from t i p d Ts (releases_of Ts (map first_left nss)))
unfolding chosen_from place_from rows_of releases_of release_of due_of
chosen_placed t i p d [] nss h l k = refl
chosen_placed t i p d (T ∷ Ts) [] h l k = refl
chosen_placed t i p d (T ∷ Ts) (ns ∷ nss) h l k =
    alike t i p d T (first_left ns) (heads_in (rows_of Ts nss)) Ts (releases_of Ts (map first_left nss)) h l (omega arith)
    (λ q e m. chosen_placed t (suc i) q e Ts nss h m (omega arith)) (leb 16 (first_left ns))

-- whose it is
abbrev pub job_of : (ℕ → Job) → Option ℕ → choice.Option Job
job_of who None = choice.none
job_of who (Some p) = choice.some (who p)

pub job_placed : (who : ℕ → Job) (p : ℕ) → job_of who (placed p) ≡ held_by who p
job_placed who p = go (ltb p places)
  where
    go : (b : Bool) → job_of who (cond b (Some p) None) ≡ cond b (choice.some (who p)) choice.none
    go true = refl
    go false = refl
