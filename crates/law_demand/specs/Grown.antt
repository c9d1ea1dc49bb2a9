-- What an interval does to an admission and its entry: the periods that are completed are kept, the admission lasts exactly where the
-- entry stays held, and then the two still stand to one another as before. Assumes nothing.
use Rattle.std.specs.Prelude.{◌≡◌, ◌⊎◌, ◌≢◌, true, not, List, length}
use Rattle.std.proofs.Math.Path.{sym}
use Rattle.std.proofs.Common.{ap, ◌∙◌, inl, inr, zero-mul, one-mul, arith, lt-ltb, le-ltb}
use Prim.Native.Nat.{ℕ, suc, ◌+◌, ◌*◌, ◌-◌, ◌≤◌, ◌<◌}
use Rattle.std.proofs.Math.Decide.{dec_le, ℕ_discrete}
use Rattle.base_lists.specs.Tests.{clash}
use Rattle.spec_model.specs.Frames.{slots_in, part_of}
use Rattle.spec_model.specs.Names.{is_nobody}
use Rattle.spec_model.specs.Entries.{free_entry, is_held, asks}
use Rattle.spec_model.specs.Answers.{request_of}
use Rattle.spec_model.specs.declared.Frame.{Frame}
use Rattle.spec_model.specs.declared.Entry.{Entry}
use Rattle.spec_rules.specs.Slots.{Run}
use Rattle.spec_rules.specs.Ahead.{passed, renewed}
use Rattle.spec_rules.specs.WellFormed.{Held}
use Rattle.law_steps.specs.Held.{Fraction, Piece}
use Rattle.law_steps.proofs.Held.{held_kinds, held_is, piece_of_lem, not_fraction, piece_other}
use Rattle.law_steps.specs.Settled.{after, Granted}
use Rattle.law_steps.proofs.Settled.{after_last, after_life, after_request}
use Rattle.law_steps.specs.Settled.{PieceFate, over, anew, on}
use Rattle.law_steps.proofs.Settled.{piece_fate, headroom_whole, headroom_transfer, headroom_fraction}
use Rattle.spec_demand.specs.Ledger.{Admission, grown, lasts}
use Rattle.spec_demand.specs.Demand.{slots_of, had, Kept}
use Rattle.law_demand.specs.Had.{grown_length, grown_last, grown_other, had_old, had_new, had_none}
use Rattle.law_demand.specs.Link.{Runs, Linked, same_fields, run_begun, run_open, run_only, run_transfer}

-- what the plan rs of an interval gives an entry, in which it has b slots of step B and c slots of step C: a fraction stream has its
-- minimum and c in each part of the interval, a piece has b and c in all, and a piece whose deadline it is has all that it is owed
pub record Gets (F : Frame) (b c : ℕ) (rs : List Run) (e : Entry) : Type 0 where
  pub fraction :
      e.kind ≡ 1 → (j : ℕ) → j < e.parts
      → slots_of e.name (j * part_of F e.parts) (suc j * part_of F e.parts) rs ≡ e.min.0 + c
  pub piece : e.kind ≢ 1 → slots_of e.name 0 (slots_in F) rs ≡ b + c
  pub granted : Granted b c e
  pub meets : e.kind ≢ 1 → e.left.0 ≡ 1 → e.owed.0 ≤ b

-- ---- whether it lasts
module _ (b c : ℕ) {F : Frame} {h : Admission} {e : Entry} (l : Linked F h e) where
  -- an entry that is not at the end of its life keeps its request, and so stays held
  keeps_request : 2 ≤ e.life_left.0 → request_of (after b c e) ≡ h.request
  keeps_request w = go (after_request b c e)
    where
      go : (after b c e ≡ free_entry) ⊎ (request_of (after b c e) ≡ request_of e) → request_of (after b c e) ≡ h.request
      go (inl q) = absurd (omega (arith, after_life b c e, ap (λ (x : Entry). x.life_left.0) q))
      go (inr q) = q ∙ l.request

  stays : Held F e → 2 ≤ e.life_left.0 → is_held (after b c e) ≡ true
  stays d w =
      ap (λ n. not (is_nobody n)) ((same_fields (after b c e) (keeps_request w)).name ∙ sym (same_fields e l.request).name) ∙ held_is d

  pub grown_lasts : (rs : List Run) → Held F e → lasts (grown rs h) ≡ is_held (after b c e)
  grown_lasts rs d =
      let n = length (grown rs h).plans in
      let one = grown_length rs h in
      elim (dec_le 2 e.life_left.0) [
        | yes w ↦ lt-ltb n h.request.life (omega (arith, l.life)) ∙ sym (stays d w)
        | no w ↦ le-ltb n h.request.life (omega (arith, l.life)) ∙ sym (ap is_held (after_last b c e (omega arith)))
      ]

-- ---- a piece in the period that runs
module _ {F : Frame} {b c : ℕ} {rs : List Run} {h : Admission} {e : Entry} (p : Piece F e) (l : Linked F h e) (g : Gets F b c rs e) where
  abbrev other : e.kind ≢ 1
  other = piece_other p

  -- with this interval the period has had b and c more
  run_has : (r : Runs F h e) → had F (grown rs h) (r.nth * e.period.0) (suc r.nth * e.period.0) ≡ e.given.0 + b + c
  run_has r =
      omega (
        arith,
        had_new F h rs (r.nth * e.period.0) (suc r.nth * e.period.0) (run_begun p r) (run_open p r),
        r.given,
        g.piece other,
        ap (λ s. slots_of s 0 (slots_in F) rs) (same_fields e l.request).name,
      )

  -- that is at most its maximum, at its end at least its minimum, and of a transfer its minimum
  run_most : e.kind ≡ 2 → e.given.0 + b + c ≤ e.max.0
  run_most k =
      let few = g.granted.owed (piece_of_lem e p.kind) in
      omega (arith, p.owed, p.least k, p.given_whole k, g.granted.extra, headroom_whole e b k)

  run_least : e.left.0 ≡ 1 → e.min.0 ≤ e.given.0 + b + c
  run_least w = omega (arith, p.owed, g.meets other w)

  run_exact : e.kind ≡ 3 → e.left.0 ≡ 1 → e.given.0 + b + c ≡ asks e
  run_exact k w =
      let few = g.granted.owed (piece_of_lem e p.kind) in
      omega (arith, p.owed, p.given_transfer k, g.meets other w, g.granted.extra, headroom_transfer e b k)

  -- ---- the completed periods of a piece
  -- a period that this interval completes is the one that runs
  new_whole : e.kind ≡ 2 → (i : ℕ) → suc i * e.period.0 ≡ suc (length h.plans)
      → let n = had F (grown rs h) (i * e.period.0) (suc i * e.period.0) in
      (e.min.0 ≤ n) × (n ≤ e.max.0)
  new_whole k i w =
      let r = l.runs other in
      let same : i ≡ r.nth = run_only p r i (omega arith) (omega arith) in
      rw same (omega (arith, run_has r, run_most k, run_least (omega (arith, rw same at w))))

  -- a transfer has one period, the one that runs
  kept_transfer : Held F e → e.kind ≡ 3 → e.period.0 ≤ suc (length h.plans) → had F (grown rs h) 0 e.period.0 ≡ asks e
  kept_transfer d k w =
      let r = l.runs other in
      let z = run_transfer p r l k in
      let ends : length h.plans + e.left.0 ≡ e.period.0 = omega (arith, rw z at r.ends) in
      rw (zero-mul e.period.0, one-mul e.period.0) at (rw z at (run_has r)) ∙ run_exact k (omega (arith, p.ahead))

  piece_kept : Held F e → Kept F h → Kept F (grown rs h)
  piece_kept d kp =
      let s = same_fields e l.request in
      let one = grown_length rs h in
      record {
        fractions = λ k. absurd (other (s.kind ∙ k));
        wholes = λ k i w. elim (dec_le (suc i * h.request.period) (length h.plans)) [
          | yes q ↦ rw (had_old F h rs (i * h.request.period) (suc i * h.request.period) q) (kp.wholes k i q)
          | no q ↦ omega (
            arith,
            rw (s.period other, s.least, s.most) at (new_whole (s.kind ∙ k) i (rw (s.period other) (omega arith))),
          )
        ];
        transfer = λ k w. omega (arith, rw (s.period other, s.asks) at (kept_transfer d (s.kind ∙ k) (omega (arith, s.period other))));
      }

  -- ---- the period that runs after the interval
  -- the same one, with one interval fewer left, or the next one, which has had nothing
  piece_runs : is_held (after b c e) ≡ true → PieceFate b c p → Runs F (grown rs h) (after b c e)
  unfolding passed renewed
  piece_runs w (over x y z q) = absurd (clash (is_held (after b c e)) w (ap is_held q))
  piece_runs w (anew j k x y q) =
      let r = l.runs other in
      let one = grown_length rs h in
      let n = suc r.nth in
      rw q
      (record {
        nth = n;
        ends = omega arith;
        given = sym (had_none F (grown rs h) (n * e.period.0) (suc n * e.period.0) (omega arith));
      })
  piece_runs w (on m x q) =
      let r = l.runs other in
      let one = grown_length rs h in
      rw (q, not_fraction e p.kind) (record { nth = r.nth; ends = omega arith; given = sym (run_has r) })

-- ---- the completed periods of a fraction stream
module _ {F : Frame} {b c : ℕ} {rs : List Run} {h : Admission} {e : Entry} (f : Fraction F e) (l : Linked F h e) (g : Gets F b c rs e) where
  -- each period of this interval gets the minimum and c
  fraction_new : (j : ℕ) → j < h.request.period
      → slots_of h.request.name (j * part_of F h.request.period) (suc j * part_of F h.request.period) rs ≡ h.request.min + c
  fraction_new =
      let s = same_fields e l.request in
      rw (← s.name, ← s.parts f.kind, ← s.least) (g.fraction f.kind)

  -- c is at most the maximum less the minimum
  fraction_kept : Kept F h → Kept F (grown rs h)
  fraction_kept kp =
      let s = same_fields e l.request in
      record {
        fractions = λ z k j q w. elim (ℕ_discrete k (length h.plans)) [
          | yes x ↦ rw (x, grown_last rs h) (omega (arith, fraction_new j w, g.granted.extra, headroom_fraction e b f.kind))
          | no x ↦ rw (grown_other rs h k x) (kp.fractions z k j (omega (arith, grown_length rs h)) w)
        ];
        wholes = λ k. absurd (omega arith);
        transfer = λ k. absurd (omega arith);
      }

-- ---- a held entry
module _ {F : Frame} {b c : ℕ} {rs : List Run} {h : Admission} {e : Entry} (d : Held F e) (l : Linked F h e) (g : Gets F b c rs e) where
  pub grown_kept : Kept F h → Kept F (grown rs h)
  grown_kept kp = elim (held_kinds d) [ inl f ↦ fraction_kept f l g kp | inr p ↦ piece_kept p l g d kp ]

  -- Its request is kept and its life is one shorter, as any entry's that stays. A fraction stream has no more to show, a piece
  -- stands rightly in its period.
  pub grown_linked : is_held (after b c e) ≡ true → Linked F (grown rs h) (after b c e)
  grown_linked w =
      record {
        request = q;
        life = omega (arith, after_life b c e, l.life, grown_length rs h, two);
        runs = λ n. elim (held_kinds d) [
          | inl f ↦ absurd (n ((same_fields (after b c e) q).kind ∙ sym (same_fields e l.request).kind ∙ f.kind))
          | inr p ↦ piece_runs p l g w (piece_fate b c p)
        ];
      }
    where
      two : 2 ≤ e.life_left.0
      two =
          elim (dec_le 2 e.life_left.0) [
            | yes x ↦ x
            | no x ↦ absurd (clash (is_held (after b c e)) w (ap is_held (after_last b c e (omega arith))))
          ]

      q : request_of (after b c e) ≡ h.request
      q = keeps_request b c l two
