-- What a held entry is, by kind, as plain facts of its own fields; the tests of kind; and that the entry of a request whose
-- fields pass the checks is held. Assumes nothing.
use Rattle.std.specs.Prelude.{◌≡◌, ◌⊎◌, ◌≢◌, Bool, true, false, cond, not, ℕ, zero, suc, ◌+◌, ◌*◌, ◌≤◌, eqb}
use Rattle.std.proofs.Math.Path.{refl, ap}
use Rattle.std.proofs.Common.{◌∙◌, zero-le, arith, eq-eqb, ne_eqb}
use Rattle.std.proofs.Math.Logic.{inl, inr}
use Rattle.std.proofs.Math.Nat.{le_refl}
use Rattle.std.proofs.lemmas.Bool.{eqb-false}
use Rattle.spec_model.specs.Answers.{fields_answer, request_of}
use Rattle.spec_model.specs.Entries.{is_held, is_kind, is_piece, entry_of}
use Rattle.spec_model.specs.declared.Entry.{Entry}
use Rattle.spec_model.specs.declared.Request.{Request}
use Rattle.spec_model.specs.Names.{name_in_range}
use Rattle.spec_model.specs.declared.Frame.{Frame}
use Rattle.spec_model.specs.Frames.{slots_in}
use Rattle.spec_rules.specs.WellFormed.{Held, Running}
use Rattle.law_model.specs.Names.{in_range_some}
use Rattle.law_steps.specs.Fields.{FractionFields, Fields, fraction, whole, transfer}
use Rattle.law_steps.proofs.Fields.{fields_of_lem}
use Rattle.law_steps.specs.Held.{Fraction, Piece}

-- ---- the tests of kind
pub piece_of_lem : (e : Entry) → (e.kind ≡ 2) ⊎ (e.kind ≡ 3) → is_piece e ≡ true
piece_of_lem e (inl k) = rw k
piece_of_lem e (inr k) = rw k

pub not_fraction : (e : Entry) → (e.kind ≡ 2) ⊎ (e.kind ≡ 3) → is_kind 1 e ≡ false
not_fraction e (inl k) = rw k
not_fraction e (inr k) = rw k

pub fraction_not : (e : Entry) → e.kind ≡ 1 → is_piece e ≡ false
fraction_not e k = rw k

pub held_is : {F : Frame} {e : Entry} → Held F e → is_held e ≡ true
held_is {e = e} h = ap not (in_range_some e.name h.name)

-- ---- a held entry, by kind
-- in a life of one period no period follows the one that runs
only : (n p l : ℕ) → l + n * p ≤ p → 1 ≤ l → n ≡ 0
only zero p l h k = refl
only (suc n) p l h k = omega arith

module _ {F : Frame} {e : Entry} (h : Held F e) where
  held_fraction : FractionFields F (request_of e) → Fraction F e
  unfolding request_of
  held_fraction f =
      let g = rw (eq-eqb e.kind 1 f.kind) at f in
      let z = h.fraction f.kind in
      record {
        kind = f.kind;
        name = h.name;
        alive = h.alive;
        life_left = h.life;
        life_most = omega arith;
        parts_least = omega arith;
        parts_most = omega arith;
        whole = g.whole;
        min_least = omega arith;
        least = omega arith;
        most = omega arith;
        period = z.0;
        owed = z.1;
        given = z.2;
        left = z.3;
      }

  -- From the ranges that both kinds have and what is special to each: the rest is what the entry keeps while it runs. A transfer
  -- has no period to follow, since its life is one period and is not over.
  held_piece : (e.kind ≡ 2) ⊎ (e.kind ≡ 3) → is_kind 1 e ≡ false
      → (1 ≤ e.period.0) × (e.period.0 ≤ 65535) × (1 ≤ e.min.0) × (e.life.0 ≤ 65535)
      → (e.kind ≡ 2 → (e.period.0 ≤ 255) × (e.min.0 ≤ e.max.0) × (e.max.0 ≤ e.period.0 * slots_in F))
      → (e.kind ≡ 3 → e.life.0 ≡ e.period.0) → Piece F e
  held_piece k n f two three =
      let r = h.running (eqb-false e.kind 1 n) in
      record {
        kind = k;
        name = h.name;
        alive = h.alive;
        life_left = h.life;
        life_most = f.3;
        parts = r.parts;
        period_least = f.0;
        period_most = f.1;
        ahead = r.ahead;
        short = r.short;
        following = r.following;
        lives = r.lives;
        once = λ z. only r.following e.period.0 e.left.0 (omega (arith, three z)) r.ahead;
        life_once = three;
        owed = r.owed;
        min_least = f.2;
        period_whole = λ z. (two z).0;
        least = λ z. (two z).1;
        most = λ z. (two z).2;
        given_whole = r.whole;
        given_transfer = r.transfer;
      }

  -- by the checks that its request passed
  pub held_kinds : Fraction F e ⊎ Piece F e
  unfolding request_of
  held_kinds = go (fields_of_lem F (request_of e) h.fields)
    where
      go : Fields F (request_of e) → Fraction F e ⊎ Piece F e
      go (fraction f) = inl (held_fraction f)
      go (whole f) =
          let n = not_fraction e (inl f.kind) in
          let g = rw n at f in
          inr (held_piece (inl g.kind) n (omega arith) (omega arith) (omega arith))
      go (transfer f) =
          let n = not_fraction e (inr f.kind) in
          let g = rw n at f in
          inr (held_piece (inr g.kind) n (omega arith) (omega arith) (omega arith))

pub piece_other : {F : Frame} {e : Entry} → Piece F e → e.kind ≢ 1
piece_other {e = e} p = eqb-false e.kind 1 (not_fraction e p.kind)

pub other_piece : {F : Frame} {e : Entry} → Held F e → e.kind ≢ 1 → Piece F e
other_piece h n = elim (held_kinds h) [ inl f ↦ absurd (n f.kind) | inr p ↦ p ]

-- ---- the entry of a request
-- it holds the request, whatever the request is
pub request_back : (q : Request) → request_of (entry_of q) ≡ q
unfolding request_of entry_of
request_back q =
    ap (λ p. record { name = q.name; kind = q.kind; period = p; min = q.min; max = q.max; life = q.life })
    (either_way (eqb q.kind 1))
  where
    either_way : (b : Bool) → cond b (cond b q.period 0) (cond b 0 q.period) ≡ q.period
    either_way true = refl
    either_way false = refl

-- where the request passes the checks, the entry is held
module _ (F : Frame) (q : Request) where
  life_some : Fields F q → 1 ≤ q.life
  life_some (fraction f) = f.life_least
  life_some (whole f) = f.life_least
  life_some (transfer f) = omega arith

  -- kinds 2 and 3: the periods that follow the first
  periods : q.kind ≢ 1 → Fields F q → (n : ℕ) × (1 ≤ q.period) × (q.life ≡ q.period + n * q.period)
  periods n (fraction f) = absurd (n f.kind)
  periods n (whole f) = (f.count, f.period_least, omega arith)
  periods n (transfer f) = (0, f.period_least, omega arith)

  entry_running : q.kind ≢ 1 → Fields F q → Running (entry_of q)
  unfolding entry_of
  entry_running n f =
      let p = periods n f in
      rw (ne_eqb q.kind 1 n)
      (record {
        parts = refl;
        ahead = p.1;
        short = le_refl q.period;
        following = p.0;
        lives = p.2;
        owed = omega arith;
        whole = λ k. zero-le;
        transfer = λ k. zero-le;
      })

  pub entry_held : name_in_range q.name ≡ true → fields_answer F q ≡ 0 → Held F (entry_of q)
  unfolding entry_of
  entry_held s h =
      let f = fields_of_lem F q h in
      record {
        name = s;
        fields = ap (fields_answer F) (request_back q) ∙ h;
        alive = life_some f;
        life = le_refl q.life;
        fraction = λ k. rw (eq-eqb q.kind 1 k) (refl, refl, refl, refl);
        running = λ n. entry_running n f;
      }
