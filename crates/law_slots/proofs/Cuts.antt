-- A list of slots cut into its longest runs of slots of one job: that is what step E does, slot by slot from the end.
-- Assumes nothing.
use Rattle.std.specs.Prelude.{◌≡◌, ◌≢◌, Bool, cond, ◌&&◌, eqb, get_or}
use Rattle.std.proofs.Math.Path.{refl}
use Rattle.std.proofs.Common.{sym, ap, ap₂, subst, ◌∙◌, le_refl, arith, eqb-true}
use Rattle.std.proofs.Math.Bool.{true, false}
use mathlib.Core.List.{List, [], ◌∷◌}
use Rattle.std.proofs.Math.Option.{none, some, none-ne-some, some-injective}
use Prim.Native.Nat.{ℕ, suc, ◌+◌, ◌-◌, ◌≤◌, ◌<◌}
use Rattle.std.proofs.Math.Decide.{dec_le}
use Rattle.spec_lists.specs.All.{All, stop, and}
use Rattle.base_lists.specs.Tests.{clash, and_both, eqb_refl}
use Rattle.base_lists.specs.All.{head, all_map}
use Rattle.spec_model.specs.Names.{same}
use Rattle.spec_rules.specs.Slots.{JobName, Slot, Run, run, goes_on, prepend, runs_from}
use Rattle.law_model.specs.Names.{same_refl, same_true}
use Rattle.law_slots.specs.Cuts.{name_in, slot, Cuts, over, skip, cut}

-- ---- a record that slot s goes on into: it is job k's, and starts in the next slot
goes_self : (k : JobName) (s n : ℕ) → goes_on k s (run k (suc s) n) ≡ true
goes_self k s n = ap₂ ◌&&◌ (same_refl k.name) (ap₂ ◌&&◌ (eqb_refl k.number) (eqb_refl (suc s)))

pub prepend_on : (s : ℕ) (k : JobName) (n : ℕ) (rs : List Run) → prepend s (some k) (run k (suc s) n ∷ rs) ≡ run k s (suc n) ∷ rs
unfolding prepend
prepend_on s k n rs = ap (λ b. cond b (run k s (suc n) ∷ rs) (run k s 1 ∷ run k (suc s) n ∷ rs)) (goes_self k s n)

goes_on_lem : (k : JobName) (s : ℕ) (r : Run) → goes_on k s r ≡ true → r ≡ run k (suc s) r.length
goes_on_lem k s r h =
    let p : (same r.name k.name ≡ true) × ((eqb r.job k.number && eqb r.start (suc s)) ≡ true) =
    and_both (same r.name k.name) (eqb r.job k.number && eqb r.start (suc s)) h in
    let q : (eqb r.job k.number ≡ true) × (eqb r.start (suc s) ≡ true) =
    and_both (eqb r.job k.number) (eqb r.start (suc s)) p.1 in
    λ i. record {
      name = same_true r.name k.name p.0 i;
      job = eqb-true r.job k.number q.0 i;
      start = eqb-true r.start (suc s) q.1 i;
      length = r.length;
    }

-- an idle slot is no job's
pub no_job : {c : Slot} {k : JobName} → c ≡ none → c ≡ some k → ⊥
no_job {k = k} e h = none-ne-some k (sym e ∙ h)

-- the first run is job k's and starts in slot s
Starts : ℕ → JobName → List Run → Type 0
Starts s k [] = ⊥
Starts s k (r ∷ rs) = r ≡ run k s r.length

module _ (cs : List Slot) where
  pub same_slot : (x y : ℕ) {c : Slot} → x ≡ y → (slot cs) y ≡ c → (slot cs) x ≡ c
  same_slot x y e h = ap (slot cs) e ∙ h

  -- they start from s on
  pub cuts_from : {s : ℕ} {rs : List Run} → (Cuts cs) s rs → All (λ r. s ≤ r.start) rs
  cuts_from (over h) = stop
  cuts_from (skip e w) = all_map (λ r h. omega arith) (cuts_from w)
  cuts_from (cut {r = r} e l a z w) = and {x = r} (omega arith) (all_map (λ q h. omega arith) (cuts_from w))

  -- where slot s is job k's, so is the first run
  cuts_start : {s : ℕ} {k : JobName} {rs : List Run} → (slot cs) s ≡ some k → (Cuts cs) s rs → Starts s k rs
  unfolding Starts
  cuts_start {s} h (over e) = absurd (no_job (e s (le_refl s)) h)
  cuts_start h (skip e w) = absurd (no_job e h)
  cuts_start {s} {k} h (cut {r = r} e l a z w) =
      let n : name_in r ≡ k = some-injective (name_in r) k (sym (a s (omega arith) (omega arith)) ∙ h) in
      λ i. record { name = (n i).name; job = (n i).number; start = e i; length = r.length }

  -- a run of the one slot s
  alone : (s : ℕ) (k : JobName) {rs : List Run} → (slot cs) s ≡ some k → (slot cs) (suc s) ≢ some k → (Cuts cs) (suc s) rs → (Cuts cs) s (run k s 1 ∷ rs)
  alone s k {rs} h n w =
      let e : suc s ≡ s + 1 = omega arith in
      cut {r = run k s 1} refl (le_refl 1) (λ x l m. same_slot x s (omega arith) h) (subst (λ v. (slot cs) v ≢ some k) e n)
      (subst (λ v. (Cuts cs) v rs) e w)

  -- a run from the next slot on, with slot s before it
  longer : (s : ℕ) (k : JobName) (n : ℕ) {rs : List Run} → (slot cs) s ≡ some k → (Cuts cs) (suc s) (run k (suc s) n ∷ rs)
      → (Cuts cs) s (run k s (suc n) ∷ rs)
  longer s k n h (skip z w) = absurd (omega (arith, head (cuts_from w)))
  longer s k n {rs} h (cut f l a z w) =
      let e : suc s + n ≡ s + suc n = omega arith in
      cut {r = run k s (suc n)} refl (omega arith) every (subst (λ v. (slot cs) v ≢ some k) e z) (subst (λ v. (Cuts cs) v rs) e w)
    where
      every : (x : ℕ) → s ≤ x → x < s + suc n → (slot cs) x ≡ some k
      every x u v = elim (dec_le (suc s) x) [ yes q ↦ a x q (omega arith) | no q ↦ same_slot x s (omega arith) h ]

  -- a slot of job k before what follows: it goes on into the first run, or is a run of its own
  cuts_prepend : (s : ℕ) (k : JobName) (rs : List Run) → (slot cs) s ≡ some k → (Cuts cs) (suc s) rs → (Cuts cs) s (prepend s (some k) rs)
  unfolding prepend Starts
  cuts_prepend s k [] h w = alone s k h (λ z. cuts_start z w) w
  cuts_prepend s k (r ∷ rs) h w = go (goes_on k s r) refl
    where
      go : (b : Bool) → goes_on k s r ≡ b → (Cuts cs) s (cond b (run k s (suc r.length) ∷ rs) (run k s 1 ∷ r ∷ rs))
      go true e = longer s k r.length h (subst (λ q. (Cuts cs) (suc s) (q ∷ rs)) (goes_on_lem k s r e) w)
      go false e = alone s k h (λ z. clash (goes_on k s r) (ap (goes_on k s) (cuts_start z w) ∙ goes_self k s r.length) e) w

  -- what step E makes of the slots from slot s on
  cuts : (s : ℕ) (ds : List Slot) → ((x : ℕ) → (slot cs) (s + x) ≡ get_or ds x none) → (Cuts cs) s (runs_from s ds)
  unfolding runs_from prepend
  cuts s [] h = over idles
    where
      idles : (x : ℕ) → s ≤ x → (slot cs) x ≡ none
      idles x l = same_slot x (s + (x - s)) (omega arith) (h (x - s))
  cuts s (d ∷ ds) h =
      go d (same_slot s (s + 0) (omega arith) (h 0))
      (cuts (suc s) ds (λ x. same_slot (suc s + x) (s + suc x) (omega arith) (h (suc x))))
    where
      go : (c : Slot) → (slot cs) s ≡ c → (Cuts cs) (suc s) (runs_from (suc s) ds) → (Cuts cs) s (prepend s c (runs_from (suc s) ds))
      go none e w = skip e w
      go (some k) e w = cuts_prepend s k (runs_from (suc s) ds) e w

  pub cuts_all : (Cuts cs) 0 (runs_from 0 cs)
  cuts_all = cuts 0 cs (λ x. same_slot (0 + x) x (omega arith) refl)
