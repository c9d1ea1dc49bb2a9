-- One entry over one interval, in which it has b slots of step B and c slots of step C: what becomes of it, and that a held
-- entry stays held or leaves, so that what is owed stays the minimum less what was had, and what was had within the maximum.
-- Assumes nothing.
use Rattle.std.specs.Prelude.{◌≡◌, ◌⊎◌, ◌≢◌, Bool, true, false, ◌&&◌, ℕ, zero, suc, ◌+◌, ◌*◌, ◌-◌, ◌≤◌, eqb}
use Rattle.std.proofs.Math.Path.{refl, ap}
use Rattle.std.proofs.Common.{sym, ◌∙◌, zero-le, arith, eq-eqb, ne_eqb}
use Rattle.std.proofs.Math.Logic.{inl, inr}
use Rattle.std.proofs.Math.Bool.{cond}
use Rattle.std.proofs.Math.Nat.{le_refl}
use Rattle.std.proofs.Math.Decide.{dec_le, ℕ_discrete}
use Rattle.base_lists.specs.Tests.{and_false}
use Rattle.spec_model.specs.Answers.{fields_answer, request_of}
use Rattle.spec_model.specs.Entries.{free_entry, is_kind}
use Rattle.spec_model.specs.declared.Entry.{Entry}
use Rattle.spec_model.specs.declared.Request.{Request}
use Rattle.spec_model.specs.Names.{name_in_range}
use Rattle.spec_model.specs.declared.Frame.{Frame}
use Rattle.spec_rules.specs.Share.{load_of, headroom}
use Rattle.spec_rules.specs.Ahead.{standing, passed, renewed, settled}
use Rattle.spec_rules.specs.WellFormed.{Held, Running}
use Rattle.law_model.specs.Loads.{load_of_standing}
use Rattle.law_steps.specs.Held.{Fraction, Piece}
use Rattle.law_steps.proofs.Held.{held_kinds, piece_of_lem, piece_other, not_fraction}
use Rattle.law_steps.specs.Settled.{after, Granted, aged, FractionFate, ended, ages, PieceFate, over, anew, on, Stays}

-- ---- any entry
pub after_free : (b c : ℕ) → after b c free_entry ≡ free_entry
unfolding settled passed
after_free b c = refl

-- a period of kind 2 is over
abbrev renews : (b c : ℕ) → Entry → Bool
renews b c e = is_kind 2 e && eqb (passed b c e).left.0 0

module _ (b c : ℕ) (e : Entry) where
  -- an entry in the last interval of its life leaves
  pub after_last : e.life_left.0 ≤ 1 → after b c e ≡ free_entry
  unfolding settled passed
  after_last h = rw (eq-eqb (e.life_left.0 - 1) 0 (omega arith))

  -- with life left it stays
  after_stays : (x : Bool) → 2 ≤ e.life_left.0 → renews b c e ≡ x → after b c e ≡ cond x (renewed (passed b c e)) (passed b c e)
  unfolding settled passed
  after_stays x h q = rw (ne_eqb (e.life_left.0 - 1) 0 (λ z. omega arith), q)

  -- and has what a renewed entry and one that is not both have
  after_kept : {A : Type 0} (f : Entry → A) (v : A) → f (renewed (passed b c e)) ≡ v → f (passed b c e) ≡ v → 2 ≤ e.life_left.0
      → f (after b c e) ≡ v
  after_kept f v r p h = ap f (after_stays (renews b c e) h refl) ∙ go (renews b c e)
    where
      go : (x : Bool) → f (cond x (renewed (passed b c e)) (passed b c e)) ≡ v
      go true = r
      go false = p

  -- of any entry: its life is one shorter, and it leaves or keeps its request
  pub after_life : (after b c e).life_left.0 ≡ e.life_left.0 - 1
  unfolding renewed passed
  after_life =
      elim (dec_le e.life_left.0 1) [
        | yes h ↦ omega (arith, ap (λ (x : Entry). x.life_left.0) (after_last h))
        | no h ↦ after_kept (λ x. x.life_left.0) (e.life_left.0 - 1) refl refl (omega arith)
      ]

  -- what stays takes of an interval what it took
  pub after_load : 2 ≤ e.life_left.0 → load_of (after b c e) ≡ load_of e
  unfolding renewed passed
  after_load h = after_kept load_of (load_of e) (load_of_standing e _ _ _ _) (load_of_standing e _ _ _ _) h

  pub after_request : (after b c e ≡ free_entry) ⊎ (request_of (after b c e) ≡ request_of e)
  unfolding renewed passed request_of
  after_request =
      elim (dec_le e.life_left.0 1) [
        | yes h ↦ inl (after_last h)
        | no h ↦ inr (after_kept request_of (request_of e) refl refl (omega arith))
      ]

module _ (b c : ℕ) {F : Frame} {e : Entry} (f : Fraction F e) where
  -- the slots of an interval count for nothing after it
  fraction_passed : passed b c e ≡ aged e
  unfolding passed
  fraction_passed =
      λ i. standing e (e.life_left.0 - 1) (none (e.owed.0 - b) f.owed i) (none (e.given.0 + b + c) f.given i)
      (none (e.left.0 - 1) f.left i)
    where
      none : (x : ℕ) {y : ℕ} → y ≡ 0 → cond (is_kind 1 e) 0 x ≡ y
      none x h = rw (eq-eqb e.kind 1 f.kind) (sym h)

  pub fraction_fate : FractionFate b c e
  fraction_fate =
      elim (ℕ_discrete e.life_left.0 1) [
        | yes h ↦ ended h (after_last b c e (omega arith))
        | no h ↦ ages (omega arith) (after_stays b c e false (omega arith) (rw f.kind) ∙ fraction_passed)
      ]

module _ (b c : ℕ) {F : Frame} {e : Entry} (p : Piece F e) where
  -- its intervals left are one fewer
  piece_left : (passed b c e).left.0 ≡ e.left.0 - 1
  unfolding passed
  piece_left = rw (not_fraction e p.kind)

  -- where a period follows, it is of kind 2
  piece_whole : (j : ℕ) → p.following ≡ suc j → (e.kind ≡ 2) ⊎ (e.kind ≡ 3) → e.kind ≡ 2
  piece_whole j q (inl k) = k
  piece_whole j q (inr k) = absurd (omega (arith, p.once k))

  -- By its intervals left and the periods that follow. In the last interval of its period its life is that interval, where none
  -- follows, and else longer, since a period is not empty. Before that its life is as long as the intervals left at least.
  pub piece_fate : PieceFate b c p
  piece_fate = go e.left.0 p.following refl refl
    where
      go : (l j : ℕ) → e.left.0 ≡ l → p.following ≡ j → PieceFate b c p
      go zero j el ej = absurd (omega (arith, p.ahead))
      go (suc zero) zero el ej =
          let life : e.life_left.0 ≡ 1 = omega (arith, p.lives, ap (λ v. v * e.period.0) ej) in
          over el life ej (after_last b c e (omega arith))
      go (suc zero) (suc j) el ej =
          let k = piece_whole j ej p.kind in
          let life : 2 ≤ e.life_left.0 = omega (arith, p.lives, p.period_least, ap (λ v. v * e.period.0) ej) in
          anew j k el ej (after_stays b c e true life (rw (piece_left, el, k)))
      go (suc (suc l)) j el ej =
          let life : 2 ≤ e.life_left.0 = omega (arith, p.lives) in
          on l el (after_stays b c e false life (rw (piece_left, ne_eqb (e.left.0 - 1) 0 (λ z. omega arith)) (and_false (is_kind 2 e))))

-- ---- a held entry stays held
pub headroom_fraction : (e : Entry) (b : ℕ) → e.kind ≡ 1 → headroom e b ≡ e.max.0 - e.min.0
headroom_fraction e b k = rw k

pub headroom_whole : (e : Entry) (b : ℕ) → e.kind ≡ 2 → headroom e b ≡ e.max.0 - e.given.0 - b
headroom_whole e b k = rw k

pub headroom_transfer : (e : Entry) (b : ℕ) → e.kind ≡ 3 → headroom e b ≡ 0
headroom_transfer e b k = rw k

module _ (b c : ℕ) {F : Frame} {e : Entry} (p : Piece F e) where
  -- what is owed after a grant is the minimum less what was had
  owed_after : Granted b c e → e.owed.0 - b ≡ e.min.0 - (e.given.0 + b + c)
  owed_after g = go (g.last (piece_of_lem e p.kind))
    where
      go : (c ≡ 0) ⊎ (b ≡ e.owed.0) → e.owed.0 - b ≡ e.min.0 - (e.given.0 + b + c)
      go (inl z) = omega (arith, p.owed)
      go (inr z) = omega (arith, p.owed)

  -- a piece whose period goes on
  passed_running : (l : ℕ) → e.left.0 ≡ suc (suc l) → Granted b c e → Running (passed b c e)
  unfolding passed
  passed_running l el g =
      let few = g.owed (piece_of_lem e p.kind) in
      rw (not_fraction e p.kind)
      (record {
        parts = p.parts;
        ahead = omega arith;
        short = omega (arith, p.short);
        following = p.following;
        lives = omega (arith, p.lives);
        owed = owed_after g;
        whole = λ k. omega (arith, p.owed, p.least k, p.given_whole k, g.extra, headroom_whole e b k);
        transfer = λ k. omega (arith, p.owed, p.given_transfer k, g.extra, headroom_transfer e b k);
      })

  -- a piece that begins its next period
  renewed_running : (j : ℕ) → e.left.0 ≡ 1 → p.following ≡ suc j → Running (renewed (passed b c e))
  unfolding passed renewed
  renewed_running j el ej =
      record {
        parts = p.parts;
        ahead = p.period_least;
        short = le_refl e.period.0;
        following = j;
        lives = omega (arith, p.lives, ap (λ v. v * e.period.0) ej);
        owed = omega arith;
        whole = λ k. zero-le;
        transfer = λ k. zero-le;
      }

-- an entry with the request of a held one and no more life than that, and with what entries of its kind have besides
still_held : {F : Frame} {e : Entry} → Held F e → (x : Entry) → request_of x ≡ request_of e → 1 ≤ x.life_left.0
    → x.life_left.0 ≤ e.life_left.0
    → (x.kind ≡ 1 → (x.period.0 ≡ 0) × (x.owed.0 ≡ 0) × (x.given.0 ≡ 0) × (x.left.0 ≡ 0)) → (x.kind ≢ 1 → Running x) → Held F x
unfolding request_of
still_held {F} {e} h x q a l f r =
    record {
      name = ap (λ (v : Request). name_in_range v.name) q ∙ h.name;
      fields = ap (fields_answer F) q ∙ h.fields;
      alive = a;
      life = omega (arith, h.life, ap (λ (v : Request). v.life) q);
      fraction = f;
      running = r;
    }

-- By what becomes of the entry. No field that was offered changes and the life gets shorter, so what is to be seen is that a
-- piece still stands rightly in its period.
pub settled_held : (F : Frame) (b c : ℕ) (e : Entry) → Held F e → Granted b c e → Stays F e (after b c e)
unfolding passed renewed request_of
settled_held F b c e h g = elim (held_kinds h) [
  | inl f ↦ fraction_stays f (fraction_fate b c f)
  | inr p ↦ piece_stays p (piece_fate b c p)
]
  where
    fraction_stays : Fraction F e → FractionFate b c e → Stays F e (after b c e)
    fraction_stays f (ended l q) = inl q
    fraction_stays f (ages l q) =
        rw q (inr (refl, still_held h (aged e) refl (omega arith) (omega arith) h.fraction (λ n. absurd (n f.kind))))

    piece_stays : (p : Piece F e) → PieceFate b c p → Stays F e (after b c e)
    piece_stays p (over l a j q) = inl q
    piece_stays p (anew j k l f q) =
        let r = renewed_running b c p j l f in
        rw q (inr (refl, still_held h (renewed (passed b c e)) refl (omega arith) (omega arith) (λ z. absurd (omega arith)) (λ n. r)))
    piece_stays p (on l el q) =
        let r = passed_running b c p l el g in
        rw q (inr (refl, still_held h (passed b c e) refl (omega arith) (omega arith) (λ k. absurd (piece_other p k)) (λ k. r)))
