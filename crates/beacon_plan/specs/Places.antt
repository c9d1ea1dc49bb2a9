-- The choice among the rows, by place: of the rows' first unfinished jobs that are released, the first of those due first.
-- It is the choice among all jobs. Assumes nothing.
use Rattle.std.specs.Prelude.{◌≡◌, refl, Bool, true, false, cond, List, [], ◌∷◌, ◌++◌, map, ℕ, suc, ◌+◌, ◌*◌, ◌≤◌, ◌<◌, leb, ltb, length, get_or, drop}
use Rattle.std.proofs.Common.{sym, ap, subst, ◌∙◌, add-zero, zero-add, suc-add, add-suc, suc-mul, mul-le-mul, add-one, arith, lt-ltb, le-ltb, le-leb, leb-true, leb-false, ltb-true, ltb-false}
use Rattle.std.proofs.Math.Option.{Option, none, some}
use Rattle.std.proofs.Math.Seq.{drop-cons}
use Rattle.std.proofs.lemmas.Bool.{lt-leb}
use Rattle.spec_lists.specs.All.{All, stop, and}
use Rattle.base_lists.specs.All.{head, tail, all_map}
use Rattle.spec_rules.specs.Slots.{Job, job_at, is_ready, due_first, choose}
use Rattle.law_model.specs.Frames.{most_slots}
use Rattle.spec_model.specs.Tables.{places, no_place}
use Rattle.spec_model.specs.declared.Name.{Name}
use Rattle.beacon_plan.specs.Rows.{row_from, row_jobs, Length}
use Rattle.beacon_plan.specs.RowLaws.{Wide, job_in}
use Rattle.beacon_plan.specs.Heads.{first_left, released, row_choice}

-- ---- two lists of jobs
-- of two choices the one due first
abbrev pub sooner : Option Job → Option Job → Option Job
sooner none c = c
sooner (some j) c = due_first j c

due_sooner : (j : Job) (c d : Option Job) → due_first j (sooner c d) ≡ sooner (due_first j c) d
due_sooner j none d = refl
due_sooner j (some k) none = go (leb j.due k.due)
  where
    go : (a : Bool) → cond a (some j) (some k) ≡ sooner (cond a (some j) (some k)) none
    go true = refl
    go false = refl
due_sooner j (some k) (some m) = go (leb j.due k.due) refl (leb k.due m.due) refl
  where
    go : (a : Bool) → leb j.due k.due ≡ a → (b : Bool) → leb k.due m.due ≡ b
        → due_first j (cond b (some k) (some m)) ≡ sooner (cond a (some j) (some k)) (some m)
    go true x true y = rw (x, le-leb j.due m.due (omega (arith, leb-true j.due k.due x, leb-true k.due m.due y)))
    go true x false y = refl
    go false x true y = rw (x, y)
    go false x false y = rw (y, lt-leb j.due m.due (omega (arith, leb-false j.due k.due x, leb-false k.due m.due y)))

sooner_sooner : (c d e : Option Job) → sooner c (sooner d e) ≡ sooner (sooner c d) e
sooner_sooner none d e = refl
sooner_sooner (some j) d e = due_sooner j d e

choose_append : (t : ℕ) (js ks : List Job) → choose t (js ++ ks) ≡ sooner (choose t js) (choose t ks)
unfolding choose
choose_append t [] ks = refl
choose_append t (j ∷ js) ks =
    ap (λ c. cond (is_ready t j) (due_first j c) c) (choose_append t js ks) ∙ go (is_ready t j) (choose t js) (choose t ks)
  where
    go : (b : Bool) (c d : Option Job) → cond b (due_first j (sooner c d)) (sooner c d) ≡ sooner (cond b (due_first j c) c) d
    go true c d = due_sooner j c d
    go false c d = refl

-- ---- by place
-- later than any job of an interval is due
abbrev pub no_release : ℕ
no_release = 4294967295

-- lengths of an interval of at most 1,000 time units
abbrev pub Short : List ℕ → Type 0
Short Ts = All (λ (T : ℕ). T ≤ most_slots) Ts

pub short : {b : ℕ} {Ts : List ℕ} → b ≤ most_slots → All (Length b) Ts → Short Ts
short h q = all_map (λ T p. omega arith) q

-- when job h of T slots is released; h is 16 where a row has none left
unfoldable pub release_of : (T h : ℕ) → ℕ
release_of T h = cond (leb 16 h) no_release (h * T)

-- of each row
unfoldable pub releases_of : (lengths heads : List ℕ) → List ℕ
releases_of [] hs = []
releases_of (T ∷ Ts) [] = []
releases_of (T ∷ Ts) (h ∷ hs) = release_of T h ∷ releases_of Ts hs

-- when a job of T slots that is released at r is due, if that is by t
abbrev due_by : (t T r : ℕ) → ℕ
due_by t T r = cond (leb r t) (r + T) no_release

-- of the rows from place i on, the place of the first of those due first; so far it is p, due at d
unfoldable pub place_from : (t i p d : ℕ) (lengths releases : List ℕ) → ℕ
place_from t i p d [] rs = p
place_from t i p d (T ∷ Ts) [] = p
place_from t i p d (T ∷ Ts) (r ∷ rs) =
    let x = due_by t T r in
    place_from t (suc i) (cond (ltb x d) i p) (cond (ltb x d) x d) Ts rs

abbrev pub chosen_at : (t : ℕ) (lengths releases : List ℕ) → ℕ
chosen_at t Ts rs = place_from t 0 no_place no_release Ts rs

-- a row's choice, with when it is due
data Offer (j : Job) : ℕ → Option Job → Type 0 where
  nothing : Offer j no_release none
  one : j.due < no_release → Offer j j.due (some j)

row_offers : (t : ℕ) (s : Name) (T : ℕ) (ns : List ℕ) → length ns ≡ 16 → T ≤ most_slots → t < no_release
    → Offer (job_at s T (get_or ns (first_left ns) 0) (first_left ns)) (due_by t T (release_of T (first_left ns))) (choose t (row_from s T 0 ns))
unfolding release_of
row_offers t s T ns e l k =
    rw (row_choice t s T 0 ns, e, zero-add (first_left ns))
    (go (first_left ns) (get_or ns (first_left ns) 0) (leb 16 (first_left ns)) refl)
  where
    here : (h n : ℕ) → h < 16 → (b : Bool)
        → Offer (job_at s T n h) (cond b (h * T + T) no_release) (cond b (some (job_at s T n h)) none)
    here h n q true = rw (← suc-mul h T) (one (omega (arith, mul-le-mul q l)))
    here h n q false = nothing

    go : (h n : ℕ) (a : Bool) → leb 16 h ≡ a
        → Offer (job_at s T n h) (due_by t T (cond a no_release (h * T))) (cond (ltb h 16) (released t s T n h) none)
    go h n true x = rw (le-ltb h 16 (leb-true 16 h x), lt-leb no_release t k) nothing
    go h n false x = rw (lt-ltb h 16 (leb-false 16 h x)) (here h n (leb-false 16 h x) (leb (h * T) t))

-- the choice so far, which stands at place p and is due at d
data Best (who : ℕ → Job) : ℕ → ℕ → Option Job → Type 0 where
  nobody : Best who no_place no_release none
  somebody : {i : ℕ} → i < places → (who i).due < no_release → Best who i (who i).due (some (who i))

best_more : {who : ℕ → Job} {i p d x : ℕ} {c o : Option Job} → i < places → Best who p d c → Offer (who i) x o
    → Best who (cond (ltb x d) i p) (cond (ltb x d) x d) (sooner c o)
best_more h nobody nothing = nobody
best_more {who} {i} h nobody (one l) = rw (lt-ltb (who i).due no_release l) (somebody h l)
best_more {who} h (somebody {i = k} q m) nothing = rw (le-ltb no_release (who k).due (omega arith)) (somebody q m)
best_more {who} {i} h (somebody {i = k} q m) (one l) = go (ltb (who i).due (who k).due) refl
  where
    go : (b : Bool) → ltb (who i).due (who k).due ≡ b
        → Best who (cond b i k) (cond b (who i).due (who k).due) (cond (leb (who k).due (who i).due) (some (who k)) (some (who i)))
    go true e = rw (lt-leb (who k).due (who i).due (ltb-true _ _ e)) (somebody h l)
    go false e = rw (le-leb (who k).due (who i).due (ltb-false _ _ e)) (somebody q m)

-- whose a place is
abbrev pub held_by : (ℕ → Job) → ℕ → Option Job
held_by who p = cond (ltb p places) (some (who p)) none

best_held : {who : ℕ → Job} {p d : ℕ} {c : Option Job} → Best who p d c → held_by who p ≡ sooner c none
best_held nobody = refl
best_held {who} (somebody {i = i} q m) = ap (λ b. cond b (some (who i)) none) (lt-ltb i places q)

-- the first unfinished job of each row
abbrev pub head_in : List Name → (lengths : List ℕ) (needs : List (List ℕ)) → ℕ → Job
head_in ss Ts nss i = job_in ss Ts nss i (first_left (get_or nss i []))

-- By the rows: the choice so far against the row's, and on with the others.
places_choose : (who : ℕ → Job) (t i : ℕ) (ss : List Name) (Ts : List ℕ) (nss : List (List ℕ)) {p d : ℕ} {c : Option Job} → Best who p d c
    → length ss ≡ length Ts → length nss ≡ length Ts → i + length Ts ≤ places → Wide nss → Short Ts → t < no_release
    → ((k : ℕ) → who (i + k) ≡ head_in ss Ts nss k)
    → held_by who (place_from t i p d Ts (releases_of Ts (map first_left nss))) ≡ sooner c (choose t (row_jobs ss Ts nss))
unfolding place_from releases_of row_jobs choose
places_choose who t i [] [] nss b u v r w l f h = best_held b
places_choose who t i (s ∷ ss) [] nss b u v r w l f h = best_held b
places_choose who t i [] (T ∷ Ts) nss b u v r w l f h = absurd (omega arith)
places_choose who t i (s ∷ ss) (T ∷ Ts) [] b u v r w l f h = absurd (omega arith)
places_choose who t i (s ∷ ss) (T ∷ Ts) (ns ∷ nss) {c = c} b u v r w l f h =
    let e : who i ≡ job_at s T (get_or ns (first_left ns) 0) (first_left ns) = ap who (sym (add-zero i)) ∙ h 0 in
    let x : ℕ = due_by t T (release_of T (first_left ns)) in
    let o : Offer (who i) x (choose t (row_from s T 0 ns)) =
    subst (λ j. Offer j x (choose t (row_from s T 0 ns))) (sym e) (row_offers t s T ns (head w) (head l) f) in
    places_choose who t (suc i) ss Ts nss (best_more (omega arith) b o) (omega arith) (omega arith) (omega arith) (tail w) (tail l) f
    (λ k. ap who (suc-add i k ∙ sym (add-suc i k)) ∙ h (suc k))
    ∙ sym (sooner_sooner c (choose t (row_from s T 0 ns)) (choose t (row_jobs ss Ts nss)))
    ∙ ap (sooner c) (sym (choose_append t (row_from s T 0 ns) (row_jobs ss Ts nss)))

-- the law: the place chosen holds the chosen job
pub place_chosen : (t : ℕ) (ss : List Name) (Ts : List ℕ) (nss : List (List ℕ)) → length ss ≡ length Ts → length nss ≡ length Ts
    → length Ts ≤ places → Wide nss → Short Ts → t < no_release
    → held_by (head_in ss Ts nss) (chosen_at t Ts (releases_of Ts (map first_left nss))) ≡ choose t (row_jobs ss Ts nss)
place_chosen t ss Ts nss u v r w l f =
    places_choose (head_in ss Ts nss) t 0 ss Ts nss nobody u v (omega arith) w l f
    (λ k. ap (head_in ss Ts nss) (zero-add k))

-- ---- one row at a time, whose job is due at x
module _ (t i p d x : ℕ) (Ts rs : List ℕ) (h : i < length Ts) (k : i < length rs) (e : due_by t (get_or Ts i 0) (get_or rs i 0) ≡ x) where
  place_step : place_from t i p d (drop i Ts) (drop i rs)
      ≡ place_from t (i + 1) (cond (ltb x d) i p) (cond (ltb x d) x d) (drop (i + 1) Ts) (drop (i + 1) rs)
  unfolding place_from
  place_step =
      rw (add-one i, drop-cons Ts i 0 h, drop-cons rs i 0 k)
      (ap (λ y. place_from t (suc i) (cond (ltb y d) i p) (cond (ltb y d) y d) (drop (suc i) Ts) (drop (suc i) rs)) e)

  pub place_better : x < d
      → place_from t i p d (drop i Ts) (drop i rs) ≡ place_from t (i + 1) i x (drop (i + 1) Ts) (drop (i + 1) rs)
  place_better q = rw (lt-ltb x d q) at place_step

  pub place_kept : d ≤ x
      → place_from t i p d (drop i Ts) (drop i rs) ≡ place_from t (i + 1) p d (drop (i + 1) Ts) (drop (i + 1) rs)
  place_kept q = rw (le-ltb x d q) at place_step

pub due_soon : (t T r : ℕ) → r ≤ t → due_by t T r ≡ r + T
due_soon t T r h = rw (le-leb r t h)

pub due_never : (t T r : ℕ) → t < r → due_by t T r ≡ no_release
due_never t T r h = rw (lt-leb r t h)

-- rows that have no job left change nothing
pub place_end : (t i p d : ℕ) (Ts : List ℕ) {rs : List ℕ} → t < no_release → d ≤ no_release → All (λ r. r ≡ no_release) rs
    → place_from t i p d Ts rs ≡ p
unfolding place_from
place_end t i p d [] h l q = refl
place_end t i p d (T ∷ Ts) h l stop = refl
place_end t i p d (T ∷ Ts) h l (and e q) = rw (e, lt-leb no_release t h, le-ltb no_release d l) (place_end t (suc i) p d Ts h l q)
