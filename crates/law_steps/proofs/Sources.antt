-- An entry as a source of the theory, a unit of whose time is an interval: a held piece asks what it is owed by its deadline and
-- then its minimum in each period that follows; a fraction stream asks nothing. Each takes its load of the capacity while it lives.
-- An interval makes of the entry what a step of the theory makes of its source. Assumes nothing.
use Rattle.std.specs.Prelude.{◌≡◌, refl, true, false, cond}
use Rattle.std.proofs.Math.Path.{sym, ap}
use Rattle.std.proofs.Common.{ap₂, ◌∙◌, ⊎_elim, mul-div_cancel, eq-eqb}
use Prim.Native.Nat.{ℕ, zero, suc, ◌+◌, ◌*◌, ◌-◌, ◌/◌, ◌≤◌}
use Rattle.std.proofs.Math.Decide.{dec_le}
use native.Mathlib.Omega.{arith}
use Rattle.base_edf.specs.Time.{due, due_le, due_in_lem, due_out, due_zero}
use Rattle.base_edf.specs.Edf.{source, rem, left, gone, next}
use Rattle.base_edf.specs.Converse.{Sound}
use Rattle.spec_model.specs.Entries.{free_entry, is_kind, is_piece, asks}
use Rattle.spec_model.specs.declared.Entry.{Entry}
use Rattle.spec_model.specs.declared.Frame.{Frame}
use Rattle.spec_rules.specs.Ahead.{passed, renewed}
use Rattle.spec_rules.specs.WellFormed.{Held}
use Rattle.spec_rules.specs.Share.{load_of}
use Rattle.law_model.specs.Loads.{load_of_fraction, load_of_none, load_of_free}
use Rattle.law_steps.specs.Held.{Fraction, Piece}
use Rattle.law_steps.proofs.Held.{held_kinds, piece_of_lem, not_fraction, fraction_not}
use Rattle.law_steps.specs.Settled.{after, aged, FractionFate, ended, ages, PieceFate}
use Rattle.law_steps.proofs.Settled.{after_last, after_life, after_load, fraction_fate}
use Rattle.law_steps.specs.Settled.{over, anew, on}
use Rattle.law_steps.proofs.Settled.{piece_fate}
use Rattle.law_steps.specs.Sources.{source_of, load_at}

-- ---- the source of an entry, by kind
pub free_source : source_of free_entry ≡ gone
unfolding source_of
free_source = refl

pub fraction_source : (e : Entry) → e.kind ≡ 1 → source_of e ≡ gone
unfolding source_of
fraction_source e k = rw (fraction_not e k)

-- a piece with n periods after the one that runs
source_with : (e : Entry) (n : ℕ) → is_piece e ≡ true → 1 ≤ e.period.0 → e.life_left.0 ≡ e.left.0 + n * e.period.0
    → source_of e ≡ source e.owed.0 e.left.0 (asks e) e.period.0 n
unfolding source_of
source_with e n k h l =
    let j : (e.life_left.0 - e.left.0) / e.period.0 ≡ n =
    ap (λ v. v / e.period.0) (omega arith) ∙ mul-div_cancel n h in
    rw (k, j)

module _ {F : Frame} {e : Entry} (p : Piece F e) where
  pub piece_source : source_of e ≡ source e.owed.0 e.left.0 (asks e) e.period.0 p.following
  piece_source = source_with e p.following (piece_of_lem e p.kind) p.period_least p.lives

  pub source_rem : rem (source_of e) ≡ e.owed.0
  source_rem = ap rem piece_source

  pub source_left : left (source_of e) ≡ e.left.0
  source_left = ap left piece_source

-- ---- an interval
module _ (b c : ℕ) {F : Frame} {e : Entry} where
  -- a fraction stream has no job before and none after, whatever it is given
  fraction_next : (x : ℕ) → Fraction F e → source_of (after b c e) ≡ next (source_of e) x
  fraction_next x f = go (fraction_fate b c f) ∙ sym (ap (λ a. next a x) (fraction_source e f.kind))
    where
      go : FractionFate b c e → source_of (after b c e) ≡ gone
      go (ended l q) = ap source_of q ∙ free_source
      go (ages l q) = ap source_of q ∙ fraction_source (aged e) f.kind

  -- A piece. At its last deadline nothing is left of it. At the end of a period the next one asks the minimum. Within a period it is owed
  -- less what it was given.
  piece_next : Piece F e → source_of (after b c e) ≡ next (source_of e) b
  unfolding passed renewed
  piece_next p = go (piece_fate b c p) ∙ sym (ap (λ a. next a b) (piece_source p))
    where
      go : PieceFate b c p → source_of (after b c e) ≡ next (source e.owed.0 e.left.0 (asks e) e.period.0 p.following) b
      go (over l a j q) = ap source_of q ∙ rw (l, j) free_source
      go (anew j k l f q) =
          ap source_of q
          ∙ source_with (renewed (passed b c e)) j (piece_of_lem e p.kind) p.period_least
          (omega (arith, p.lives, ap (λ v. v * e.period.0) f))
          ∙ rw (l, f)
      go (on l el q) =
          let one : e.left.0 - 1 ≡ suc l = omega arith in
          ap source_of q
          ∙ source_with (passed b c e) p.following (piece_of_lem e p.kind) p.period_least
          (rw (not_fraction e p.kind) (omega (arith, p.lives)))
          ∙ rw (not_fraction e p.kind, one, el)

-- a step of the theory, in which a fraction stream counts as given nothing
pub source_next : (F : Frame) (b c : ℕ) (e : Entry) → Held F e → source_of (after b c e) ≡ next (source_of e) (cond (is_piece e) b 0)
source_next F b c e h =
    ⊎_elim (fraction_next b c (cond (is_piece e) b 0)) (λ p. piece_next b c p ∙ rw (piece_of_lem e p.kind)) (held_kinds h)

pub held_sound : {F : Frame} {e : Entry} → Held F e → Sound (source_of e)
held_sound {F} {e} h = ⊎_elim (λ f. rw (fraction_source e f.kind) (refl, refl)) piece_sound (held_kinds h)
  where
    piece_sound : Piece F e → Sound (source_of e)
    piece_sound p = rw (piece_source p) (go e.left.0 p.ahead)
      where
        go : (l : ℕ) → 1 ≤ l → Sound (source e.owed.0 l (asks e) e.period.0 p.following)
        go zero a = absurd (omega arith)
        go (suc l) a = p.period_least

-- ---- the load
pub load_free : (t : ℕ) → load_at free_entry t ≡ 0
unfolding load_at
load_free t = omega (arith, due_zero (suc t) 0 (load_of free_entry) load_of_free, load_of_free)

-- of any kind but 1
pub load_none : (e : Entry) (t : ℕ) → is_kind 1 e ≡ false → load_at e t ≡ 0
unfolding load_at
load_none e t k = omega (arith, due_zero (suc t) e.life_left.0 (load_of e) (load_of_none e k), load_of_none e k)

pub load_fraction : (e : Entry) (t : ℕ) → e.kind ≡ 1 → load_at e t ≡ due (suc t) e.life_left.0 (e.parts * asks e)
unfolding load_at
load_fraction e t k = ap (due (suc t) e.life_left.0) (load_of_fraction e (eq-eqb e.kind 1 k))

-- the load that step A counts is that of the interval at hand
pub load_now : {F : Frame} {e : Entry} → Held F e → load_of e ≡ load_at e 0
unfolding load_at
load_now {e = e} h = sym (due_in_lem 1 e.life_left.0 (load_of e) h.alive)

-- it never grows
pub load_falls : {F : Frame} (t : ℕ) (e : Entry) → Held F e → load_at e t ≤ load_at e 0
unfolding load_at
load_falls t e h =
    omega (arith, due_le (suc t) e.life_left.0 (load_of e), due_in_lem 1 e.life_left.0 (load_of e) h.alive)

-- an entry takes the same load until its life ends, and its life is one shorter
pub load_next : (b c : ℕ) (e : Entry) (t : ℕ) → load_at (after b c e) t ≡ load_at e (suc t)
unfolding load_at
load_next b c e t =
    elim (dec_le e.life_left.0 1) [
      | yes l ↦ ap (λ x. load_at x t) (after_last b c e l) ∙ load_free t
          ∙ sym (due_out (suc (suc t)) e.life_left.0 (load_of e) (omega arith))
      | no l ↦ ap₂ (due (suc t)) (after_life b c e) (after_load b c e (omega arith))
          ∙ ap (λ n. due (suc (suc t)) n (load_of e)) (one (omega arith))
    ]
  where
    one : 2 ≤ e.life_left.0 → suc (e.life_left.0 - 1) ≡ e.life_left.0
    one h = omega arith
