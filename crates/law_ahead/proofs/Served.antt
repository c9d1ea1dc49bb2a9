-- Entries some intervals on, where neither a life nor a period ends by then: what is shared in them can be shared as one. An entry takes
-- of the slots of all of them what it takes of each in turn, since the order stays, and those before it take first. Assumes nothing.
use Rattle.std.specs.Prelude.{◌≡◌, ◌⊎◌, Bool, List, ltb, eqb}
use Rattle.std.proofs.Math.Path.{refl, ap}
use Rattle.std.proofs.Common.{sym, ◌∙◌, inl, inr, ⊎_elim, arith, eq-eqb, ne_eqb, lt-ltb, le-ltb}
use Rattle.std.proofs.Math.Bool.{true, false, cond}
use Rattle.std.proofs.lemmas.Simd.{map-map}
use Prim.Native.Nat.{ℕ, ◌+◌, ◌-◌, ◌≤◌, min}
use Rattle.std.proofs.Math.Decide.{dec_le, ℕ_discrete}
use Rattle.spec_lists.specs.Lists.{keep, sum_of}
use Rattle.spec_lists.specs.All.{All}
use Rattle.base_lists.specs.Tests.{clash}
use Rattle.base_lists.specs.All.{all_map, all_zip, all_keep, all_of, map_ext}
use Rattle.base_lists.specs.Sums.{sum_ext, sum_add, sum_keep, sum_map, sum_same}
use Rattle.spec_model.specs.Entries.{is_piece}
use Rattle.spec_model.specs.declared.Entry.{Entry}
use Rattle.spec_model.specs.declared.Table.{Table}
use Rattle.spec_model.specs.Tables.{held_of}
use Rattle.spec_rules.specs.Share.{sooner}
use Rattle.spec_rules.specs.Ahead.{standing}
use Rattle.spec_rules.specs.WellFormed.{Once, Tidy}
use Rattle.law_steps.proofs.Grants.{once_keep}
use Rattle.law_steps.proofs.Order.{sooner_trans}
use Rattle.law_steps.specs.StepB.{turns_of, owed_before}
use Rattle.law_steps.proofs.StepB.{turns_total, turns_closed}
use Rattle.law_steps.proofs.Held.{held_kinds, piece_of_lem}
use Rattle.law_steps.proofs.Places.{tidy_held, held_sum, owed_places}
use Rattle.law_steps.specs.Closed.{takes}
use Rattle.law_steps.proofs.Closed.{takes_owed, at_places}
use Rattle.law_ahead.specs.Served.{later, served, Lasts}

-- ---- those before x together take all that they are owed, or all there is
module _ (c : ℕ) (es : List Entry) (w : Once es) (x : Entry) where
  abbrev fs : List Entry
  fs = keep (λ f. sooner f x) es

  same_before : (f : Entry) → sooner f x ≡ true → owed_before f fs ≡ owed_before f es
  same_before f h = sum_keep _ (λ g. sooner g x) es ∙ sum_same _ _ es one
    where
      one : (g : Entry) → cond (sooner g x) (cond (is_piece g) (cond (sooner g f) g.owed.0 0) 0) 0
          ≡ cond (is_piece g) (cond (sooner g f) g.owed.0 0) 0
      one g = go (sooner g x) (sooner g f) (is_piece g) (λ k. sooner_trans g f x k h)
        where
          go : (a b p : Bool) → (b ≡ true → a ≡ true)
              → cond a (cond p (cond b g.owed.0 0) 0) 0 ≡ cond p (cond b g.owed.0 0) 0
          go true b p k = refl
          go false true p k = absurd (clash false (k refl) refl)
          go false false true k = refl
          go false false false k = refl

  each_before : All (λ f. cond (is_piece f) (turns_of c fs f) 0 ≡ cond (is_piece f) (takes c es f) 0) fs
  unfolding takes
  each_before =
      all_zip (λ f h k. go f (is_piece f) (same_before f h) k)
      (all_keep {P = λ f. f ≡ f} (λ f. sooner f x) (λ f h z. h) (all_of es (λ f. refl)))
      (turns_closed c fs (once_keep (λ f. sooner f x) es w))
    where
      go : (f : Entry) (b : Bool) → owed_before f fs ≡ owed_before f es
          → (b ≡ true → turns_of c fs f ≡ min f.owed.0 (c - owed_before f fs))
          → cond b (turns_of c fs f) 0 ≡ cond b (min f.owed.0 (c - owed_before f es)) 0
      go f true h k = omega (arith, k refl)
      go f false h k = refl

  before_total : sum_of (λ f. cond (is_piece f) (cond (sooner f x) (takes c es f) 0) 0) es ≡ min c (owed_before x es)
  before_total =
      omega (
        arith,
        turned (takes c es),
        sum_keep (λ f. cond (is_piece f) (takes c es f) 0) (λ f. sooner f x) es,
        sum_ext (λ f. cond (is_piece f) (turns_of c fs f) 0) (λ f. cond (is_piece f) (takes c es f) 0) each_before,
        turns_total c fs (once_keep (λ f. sooner f x) es w),
        sum_keep (λ (f : Entry). cond (is_piece f) f.owed.0 0) (λ f. sooner f x) es,
        turned (λ f. f.owed.0),
      )
    where
      both_ways : (a b : Bool) (v : ℕ) → cond a (cond b v 0) 0 ≡ cond b (cond a v 0) 0
      both_ways true b v = refl
      both_ways false true v = refl
      both_ways false false v = refl

      turned : (v : Entry → ℕ) → sum_of (λ f. cond (is_piece f) (cond (sooner f x) (v f) 0) 0) es
          ≡ sum_of (λ f. cond (sooner f x) (cond (is_piece f) (v f) 0) 0) es
      turned v = sum_same _ _ es (λ f. both_ways (is_piece f) (sooner f x) (v f))

pub standing_same : (e : Entry) {l o g k l' o' g' k' : ℕ} → l ≡ l' → o ≡ o' → g ≡ g' → k ≡ k' → standing e l o g k ≡ standing e l' o' g' k'
standing_same e p q r s = λ i. standing e (p i) (q i) (r i) (s i)

later_later : (m n a b : ℕ) (e : Entry) → later n b (later m a e) ≡ later (m + n) (a + b) e
later_later m n a b e = standing_same e (omega arith) (omega arith) (omega arith) (omega arith)

-- the order is that of before
less_test : (n x y : ℕ) → n ≤ x → n ≤ y → ltb (x - n) (y - n) ≡ ltb x y
less_test n x y h k =
    elim (dec_le y x) [
      | yes l ↦ le-ltb (x - n) (y - n) (omega arith) ∙ sym (le-ltb x y l)
      | no l ↦ lt-ltb (x - n) (y - n) (omega arith) ∙ sym (lt-ltb x y (omega arith))
    ]

same_test : (n x y : ℕ) → n ≤ x → n ≤ y → eqb (x - n) (y - n) ≡ eqb x y
same_test n x y h k =
    elim (ℕ_discrete x y) [
      | yes l ↦ eq-eqb (x - n) (y - n) (omega arith) ∙ sym (eq-eqb x y l)
      | no l ↦ ne_eqb (x - n) (y - n) (λ z. l (omega arith)) ∙ sym (ne_eqb x y l)
    ]

later_sooner : (n a b : ℕ) (e f : Entry) → n ≤ e.left.0 → n ≤ f.left.0 → sooner (later n a e) (later n b f) ≡ sooner e f
later_sooner n a b e f h k = rw (less_test n e.left.0 f.left.0 h k, same_test n e.left.0 f.left.0 h k)

-- ---- o of c slots and then of d, where b go first to others
turns_none : (o x y z : ℕ) → o ≡ 0 → min o x + min (o - min o x) y ≡ min o z
turns_none o x y z h = omega arith

turns_add : (o b c d : ℕ) → min o (c - b) + min (o - min o (c - b)) (d - (b - c)) ≡ min o (c + d - b)
turns_add o b c d =
    elim (dec_le b c) [
      | yes h ↦ some (c - b) (b - c) (c + d - b) (omega arith) (omega arith)
      | no h ↦ none (c - b) (b - c) (c + d - b) (omega arith) (omega arith)
    ]
  where
    some : (x y z : ℕ) → y ≡ 0 → z ≡ x + d → min o x + min (o - min o x) (d - y) ≡ min o z
    some x y z h k = omega arith

    none : (x y z : ℕ) → x ≡ 0 → z ≡ d - y → min o x + min (o - min o x) (d - y) ≡ min o z
    none x y z h k = omega arith

-- at the places of a table, of which those that are owed something are pieces
module _ (t : Table) (w : Tidy t) (c : ℕ) where
  takes_places : (f : Entry) → takes c t.entries f ≡ takes c (held_of t) f
  unfolding takes
  takes_places f = ap (λ v. min f.owed.0 (c - v)) (owed_places t w f)

  pub before_places : (x : Entry) → sum_of (λ f. cond (is_piece f) (cond (sooner f x) (takes c t.entries f) 0) 0) t.entries
      ≡ min c (owed_before x t.entries)
  before_places x =
      sum_same (λ f. cond (is_piece f) (cond (sooner f x) (takes c t.entries f) 0) 0)
      (λ f. cond (is_piece f) (cond (sooner f x) (takes c (held_of t) f) 0) 0) t.entries
      (λ f. ap (λ v. cond (is_piece f) (cond (sooner f x) v 0) 0) (takes_places f))
      ∙ held_sum (λ f. cond (is_piece f) (cond (sooner f x) (takes c (held_of t) f) 0) 0) refl w.entries
      ∙ before_total c (held_of t) w.once x
      ∙ ap (min c) (sym (owed_places t w x))

module _ (t : Table) (w : Tidy t) (n c : ℕ) (q : All (Lasts n) t.entries) where
  abbrev ps : List Entry
  ps = t.entries

  -- what is owed to those before x falls by the c slots
  later_before : (b : ℕ) (x : Entry) → n ≤ x.left.0 → owed_before (later n b x) (served n c ps) ≡ owed_before x ps - c
  later_before b x l =
      omega (
        arith,
        sum_map (λ (f : Entry). cond (is_piece f) (cond (sooner f (later n b x)) f.owed.0 0) 0) (λ f. later n (takes c ps f) f) ps,
        sum_add owes has ps,
        sum_ext (λ f. owes f + has f) (λ (f : Entry). cond (is_piece f) (cond (sooner f x) f.owed.0 0) 0) (all_map one q),
        before_places t w c x,
      )
    where
      owes : Entry → ℕ
      owes f = cond (is_piece f) (cond (sooner (later n (takes c ps f) f) (later n b x)) (f.owed.0 - takes c ps f) 0) 0

      has : Entry → ℕ
      has f = cond (is_piece f) (cond (sooner f x) (takes c ps f) 0) 0

      go : (p s r : Bool) (o v : ℕ) → v ≤ o → (p ≡ true → r ≡ s)
          → cond p (cond r (o - v) 0) 0 + cond p (cond s v 0) 0 ≡ cond p (cond s o 0) 0
      go false s r o v h k = refl
      go true s r o v h k = rw (k refl) (all s)
        where
          all : (s : Bool) → cond s (o - v) 0 + cond s v 0 ≡ cond s o 0
          all true = omega arith
          all false = refl

      one : (f : Entry) → Lasts n f → owes f + has f ≡ cond (is_piece f) (cond (sooner f x) f.owed.0 0) 0
      one f k =
          go (is_piece f) (sooner f x) _ f.owed.0 (takes c ps f) (takes_owed c ps f)
          (λ p. later_sooner n (takes c ps f) b f x (k p) l)

  -- who is owed something is a piece
  owed_piece : All (λ e. (e.owed.0 ≡ 0) ⊎ (is_piece e ≡ true)) ps
  owed_piece =
      at_places t w (λ e. (e.owed.0 ≡ 0) ⊎ (is_piece e ≡ true)) (inl refl)
      (all_map (λ e h. ⊎_elim (λ f. inl f.owed) (λ p. inr (piece_of_lem e p.kind)) (held_kinds h)) (tidy_held w))

  -- of c slots and then of d an entry takes what it takes of c + d
  pub takes_more : (d : ℕ) → All (λ e. takes c ps e + takes d (served n c ps) (later n (takes c ps e) e) ≡ takes (c + d) ps e) ps
  unfolding takes
  takes_more d = all_zip one q owed_piece
    where
      one : (e : Entry) → Lasts n e → (e.owed.0 ≡ 0) ⊎ (is_piece e ≡ true)
          → takes c ps e + takes d (served n c ps) (later n (takes c ps e) e) ≡ takes (c + d) ps e
      one e k (inl z) = turns_none e.owed.0 _ _ _ z
      one e k (inr p) =
          ap (λ v. takes c ps e + min (e.owed.0 - takes c ps e) (d - v)) (later_before (takes c ps e) e (k p))
          ∙ turns_add e.owed.0 (owed_before e ps) c d

  -- n intervals and then m are n + m
  pub served_more : (m d : ℕ) → served m d (served n c ps) ≡ served (n + m) (c + d) ps
  served_more m d =
      map-map (λ e. later m (takes d (served n c ps) e) e) (λ e. later n (takes c ps e) e) ps
      ∙ map_ext (λ e. later m (takes d (served n c ps) (later n (takes c ps e) e)) (later n (takes c ps e) e))
      (λ e. later (n + m) (takes (c + d) ps e) e)
      (all_map
      (λ e h. later_later n m (takes c ps e) (takes d (served n c ps) (later n (takes c ps e) e)) e ∙ ap (λ b. later (n + m) b e) h)
      (takes_more d))
