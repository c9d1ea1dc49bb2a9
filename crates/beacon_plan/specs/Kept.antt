-- What is kept of each row as its jobs run: its first unfinished job, and when that is released. Assumes nothing.
use Rattle.std.specs.Prelude.{◌≡◌, refl, List, [], ◌∷◌, map, ℕ, zero, suc, ◌-◌, ◌≤◌, ◌<◌, length, get_or, set, drop, replicate}
use Rattle.std.proofs.Common.{sym, ap, ◌∙◌, arith, get_or-set_same}
use Rattle.std.proofs.lemmas.List.{length-map}
use Rattle.std.proofs.Math.Seq.{map-set_same}
use Rattle.spec_lists.specs.All.{All, stop, and}
use Rattle.base_lists.specs.All.{head, tail}
use Rattle.spec_model.specs.Tables.{places}
use Rattle.beacon_plan.specs.Rows.{Padded}
use Rattle.beacon_plan.specs.RowLaws.{need_at, with_need, spare_set}
use Rattle.beacon_plan.specs.Heads.{first_left, left_stays, head_at, heads_set, heads_spare}
use Rattle.beacon_plan.specs.Places.{no_release, release_of, releases_of}

-- ---- the releases of the rows
pub length_releases : (Ts hs : List ℕ) → length Ts ≡ length hs → length (releases_of Ts hs) ≡ length hs
unfolding releases_of
length_releases [] [] e = refl
length_releases [] (h ∷ hs) e = absurd (omega arith)
length_releases (T ∷ Ts) [] e = refl
length_releases (T ∷ Ts) (h ∷ hs) e = omega (arith, length_releases Ts hs (omega arith))

pub release_at : (Ts hs : List ℕ) (i : ℕ) → i < length Ts → i < length hs
    → get_or (releases_of Ts hs) i 0 ≡ release_of (get_or Ts i 0) (get_or hs i 0)
unfolding releases_of
release_at [] hs i h k = absurd (omega arith)
release_at (T ∷ Ts) [] i h k = absurd (omega arith)
release_at (T ∷ Ts) (x ∷ hs) zero h k = refl
release_at (T ∷ Ts) (x ∷ hs) (suc i) h k = release_at Ts hs i (omega arith) (omega arith)

releases_set : (Ts hs : List ℕ) (i h : ℕ) → releases_of Ts (set hs i h) ≡ set (releases_of Ts hs) i (release_of (get_or Ts i 0) h)
unfolding releases_of
releases_set [] hs i h = refl
releases_set (T ∷ Ts) [] i h = refl
releases_set (T ∷ Ts) (x ∷ hs) zero h = refl
releases_set (T ∷ Ts) (x ∷ hs) (suc i) h = ap (λ l. release_of T x ∷ l) (releases_set Ts hs i h)

-- where no job is left
pub releases_spare : (rows : ℕ) (Ts hs : List ℕ) → All (λ h. h ≡ 16) (drop rows hs) → All (λ r. r ≡ no_release) (drop rows (releases_of Ts hs))
unfolding releases_of release_of
releases_spare zero [] hs q = stop
releases_spare zero (T ∷ Ts) [] q = stop
releases_spare zero (T ∷ Ts) (h ∷ hs) q = and (ap (release_of T) (head q)) (releases_spare zero Ts hs (tail q))
releases_spare (suc n) [] hs q = stop
releases_spare (suc n) (T ∷ Ts) [] q = stop
releases_spare (suc n) (T ∷ Ts) (h ∷ hs) q = releases_spare n Ts hs q

-- ---- heads and releases as the jobs run
pub record Firsts (Ts : List ℕ) (nss : List (List ℕ)) (hs rs : List ℕ) : Type 0 where
  pub heads : hs ≡ map first_left nss
  pub releases : rs ≡ releases_of Ts hs

-- the rows from `rows` on need nothing
abbrev pub Spared : (rows : ℕ) → List (List ℕ) → Type 0
Spared rows nss = All (λ ns. ns ≡ replicate 16 0) (drop rows nss)

-- and no job of theirs runs
pub spared_less : (rows : ℕ) (nss : List (List ℕ)) (i j n : ℕ) → 1 ≤ need_at nss i j → Spared rows nss
    → Spared rows (with_need nss i j (need_at nss i j - n))
spared_less rows nss i j n = spare_set rows nss i j (set (get_or nss i []) j (need_at nss i j - n))

-- what the first unfinished job of a row needs
abbrev pub head_need : List (List ℕ) → List ℕ → ℕ → ℕ
head_need nss hs i = need_at nss i (get_or hs i 0)

module _ {Ts : List ℕ} {nss : List (List ℕ)} {hs rs : List ℕ} (k : Firsts Ts nss hs rs) where
  pub heads_sized : length hs ≡ length nss
  heads_sized = ap length k.heads ∙ length-map nss first_left

  pub firsts_padded : {rows : ℕ} → Spared rows nss → length Ts ≡ places → length nss ≡ places → rows ≤ places
      → Padded rows no_release rs
  firsts_padded {rows} q u v l = (
    ap length k.releases ∙ length_releases Ts hs (u ∙ sym v ∙ sym heads_sized) ∙ heads_sized ∙ v,
    (l, rw (k.releases, k.heads) (releases_spare rows Ts (map first_left nss) (heads_spare rows nss q))),
  )

  -- Job j of row i has run, and v slots of it are left; hs' and rs' are the heads and the releases then.
  module _ (i j v : ℕ) {hs' rs' : List ℕ} where
    -- the first unfinished job of the row is looked for
    pub firsts_changed : {h r : ℕ} → i < length nss → h ≡ first_left (get_or (with_need nss i j v) i [])
        → r ≡ release_of (get_or Ts i 0) h → hs' ≡ set hs i h → rs' ≡ set rs i r → Firsts Ts (with_need nss i j v) hs' rs'
    firsts_changed {h} {r} l e f x y =
        let ns : List ℕ = set (get_or nss i []) j v in
        let head : h ≡ first_left ns = e ∙ ap first_left (get_or-set_same nss i ns [] l) in
        record {
          heads = x ∙ rw (k.heads, head) (sym (heads_set nss i ns));
          releases = y ∙ rw (k.releases, f, x) (sym (releases_set Ts hs i h));
        }

    -- where it still needs something it is the first
    pub firsts_same : j ≡ get_or hs i 0 → 1 ≤ v → hs' ≡ hs → rs' ≡ rs → Firsts Ts (with_need nss i j v) hs' rs'
    firsts_same e l x y =
        let ns : List ℕ = get_or nss i [] in
        let first : j ≡ first_left ns = e ∙ ap (λ xs. get_or xs i 0) k.heads ∙ head_at nss i in
        let same : first_left (set ns j v) ≡ first_left ns = rw first (left_stays ns v l) in
        record {
          heads = x ∙ k.heads ∙ sym (map-set_same first_left nss i (set ns j v) [] same);
          releases = y ∙ k.releases ∙ ap (releases_of Ts) (sym x);
        }
