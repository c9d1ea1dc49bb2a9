-- The pen: the run that may still grow, and what is written where it ends, one record more. Assumes nothing.
use Rattle.std.specs.Prelude.{◌≡◌, refl, Bool, true, false, cond, ◌&&◌, List, [], ◌∷◌, ℕ, ◌+◌, ◌≤◌, eqb, length}
use Rattle.std.proofs.Common.{Option, None, Some, sym, eq-eqb, ne_eqb}
use native.Mathlib.Omega.{arith}
use Rattle.spec_model.specs.Names.{same}
use Rattle.spec_model.specs.declared.Name.{Name}
use Rattle.spec_rules.specs.Slots.{JobName, Run}
use Rattle.plan_record.specs.declared.Record.{Record}
use Rattle.plan_record.specs.declared.Pen.{Pen}
use Rattle.plan_record.specs.Recorded.{run_of, recorded, recorded_none}

abbrev pub named : Name → (job : ℕ) → JobName
named n j = record { name = n; number = j }

-- so many slots of a job from one on, and whose they are
abbrev pub slots_of : JobName → (start slots : ℕ) → Record
slots_of k s n = record { name = k.name; job = k.number; start = record { 0 = s }; length = record { 0 = n } }

abbrev pub owner : Record → JobName
owner r = named r.name r.job

abbrev pub blank : Pen
blank = record { count = 0; run = None }

-- the pen's run, as a list of at most one: a run of no slots is none
abbrev pub run_in : Option Record → List Run
run_in None = []
run_in (Some r) = cond (eqb r.length.0 0) [] (run_of r ∷ [])

-- how many slots it has
abbrev pub slots_in : Option Record → ℕ
slots_in None = 0
slots_in (Some r) = r.length.0

unfoldable pub open_run : Pen → List Run
open_run p = run_in p.run

-- the slot after the last of a run
abbrev pub end_of : Option Record → ℕ
end_of None = 0
end_of (Some r) = r.start.0 + r.length.0

-- a run goes on in slot t, which is k's
abbrev pub grows : Option Record → JobName → ℕ → Bool
grows None k t = false
grows (Some r) k t = same k.name r.name && (eqb k.number r.job && eqb t (r.start.0 + r.length.0))

-- the run that ends where slot t is k's, as a list of at most one
unfoldable pub closed : Pen → JobName → ℕ → List Run
closed p k t = cond (grows p.run k t) [] (open_run p)

-- the run that slots begin: none where there are none
abbrev pub begun : Record → Option Record
begun r = cond (eqb r.length.0 0) None (Some r)

-- the pen after n slots from t on, which are k's
abbrev pub longer : Option Record → ℕ → Option Record
longer None n = None
longer (Some r) n = Some (slots_of (owner r) r.start.0 (r.length.0 + n))

abbrev pub onward : Pen → ℕ → Pen
onward p n = record { count = p.count; run = longer p.run n }

abbrev pub anew : ℕ → JobName → ℕ → ℕ → Pen
anew c k t n = record { count = c; run = begun (slots_of k t n) }

unfoldable pub extended : Pen → JobName → ℕ → ℕ → Pen
extended p k t n = cond (grows p.run k t) (onward p n) (anew (p.count + length (open_run p)) k t n)

-- ---- what a pen writes, by cases
module _ (p : Pen) where
  pub put_one : {r : Record} (old ws : List ℕ) → p.run ≡ Some r → (r.length.0 ≡ 0 → ⊥) → ws ≡ recorded p.count (run_of r ∷ []) old
      → (p.count + 1 ≡ p.count + length (open_run p)) × (ws ≡ recorded p.count (open_run p) old)
  unfolding open_run
  put_one {r = r} old ws i n e = rw (i, ne_eqb r.length.0 0 n) (refl, e)

  pub put_none : (old : List ℕ) → slots_in p.run ≡ 0 → (p.count ≡ p.count + length (open_run p)) × (old ≡ recorded p.count (open_run p) old)
  unfolding open_run
  put_none old e = rw (none p.run e) (omega arith, sym (recorded_none p.count old))
    where
      none : (r : Option Record) → slots_in r ≡ 0 → run_in r ≡ []
      none None z = refl
      none (Some r) z = rw (eq-eqb r.length.0 0 z)

  pub on_grown : (k : JobName) (t n : ℕ) (old : List ℕ) → grows p.run k t ≡ true
      → (onward p n ≡ extended p k t n) × (old ≡ recorded p.count (closed p k t) old)
  unfolding extended closed
  on_grown k t n old e = rw e (refl, sym (recorded_none p.count old))

  pub on_anew : (k : JobName) (t n c : ℕ) (old ws : List ℕ) → grows p.run k t ≡ false → c ≡ p.count + length (open_run p)
      → ws ≡ recorded p.count (open_run p) old → (anew c k t n ≡ extended p k t n) × (ws ≡ recorded p.count (closed p k t) old)
  unfolding extended closed
  on_anew k t n c old ws e f g = rw e (rw f, g)

-- ---- how many records there are then, and where the run ends
pub extended_count : (p : Pen) (k : JobName) (t n : ℕ) → (extended p k t n).count ≡ p.count + length (closed p k t)
unfolding closed extended
extended_count p k t n = go (grows p.run k t)
  where
    go : (b : Bool) → (cond b (onward p n) (anew (p.count + length (open_run p)) k t n)).count ≡ p.count + length (cond b [] (open_run p))
    go true = omega arith
    go false = refl

pub extended_ends : (p : Pen) (k : JobName) (t n : ℕ) → end_of p.run ≤ t
    → end_of (extended p k t n).run ≤ t + n
unfolding extended
extended_ends p k t n h = go (grows p.run k t) p.run h
  where
    other : (b : Bool) → end_of (cond b None (Some (slots_of k t n))) ≤ t + n
    other true = omega arith
    other false = omega arith

    on : (r : Option Record) → end_of r ≤ t → end_of (longer r n) ≤ t + n
    on None l = omega arith
    on (Some r) l = omega arith

    go : (b : Bool) (r : Option Record) → end_of r ≤ t
        → let q = cond b (record { count = p.count; run = longer r n }) (anew (p.count + length (open_run p)) k t n) in end_of q.run ≤ t + n
    go true r l = on r l
    go false r l = other (eqb n 0)
