-- Looking ahead but for the header test says yes exactly where the entries can be served in time. Assumes nothing.
use Rattle.std.specs.Prelude.{◌≡◌, refl, Bool, true, false, cond, ◌&&◌, ◌||◌, List, [], ◌∷◌, ℕ, zero, suc, ◌≤◌, ltb, eqb}
use Rattle.std.proofs.Common.{sym, ap, ap₂, ◌∙◌, inl, inr, zero-le, le_refl, arith, eq-eqb, ne_eqb, ltb-false, le-ltb}
use Rattle.std.proofs.Math.Decide.{ℕ_discrete}
use Rattle.spec_lists.specs.Lists.{most_of, any_of}
use Rattle.spec_lists.specs.All.{All}
use Rattle.base_lists.specs.Tests.{clash, and_false}
use Rattle.base_lists.specs.All.{head, all_zip, most_all, any_none, none_any}
use Rattle.base_edf.specs.Edf.{rem, left}
use Rattle.spec_model.specs.Entries.{is_piece}
use Rattle.spec_model.specs.declared.Entry.{Entry}
use Rattle.spec_model.specs.declared.Frame.{Frame}
use Rattle.spec_model.specs.Frames.{room_in}
use Rattle.spec_rules.specs.Share.{load, overfull, step_b}
use Rattle.spec_rules.specs.Ahead.{misses}
use Rattle.spec_rules.specs.WellFormed.{Held}
use Rattle.law_steps.proofs.Held.{held_kinds, piece_of_lem, fraction_not}
use Rattle.law_steps.specs.Sources.{source_of}
use Rattle.law_steps.proofs.Sources.{fraction_source, source_rem, source_left}
use Rattle.law_steps.specs.StepB.{step_b_of}
use Rattle.law_ahead.specs.Moved.{Together, life_of, moved}
use Rattle.law_ahead.proofs.Moved.{no_extras, moved_together, moved_life}
use Rattle.law_ahead.specs.Timely.{Timely, piece_of}
use Rattle.law_ahead.proofs.Timely.{loads_now, timely_meets, timely_on, timely_back}
use Rattle.law_ahead.specs.KeepsUp.{keeps_up, keeps_up_ahead}

-- ---- the test of a miss is the theory's
module _ (F : Frame) (es : List Entry) where
  abbrev Meets : Entry → Type 0
  Meets e = left (source_of e) ≤ 1 → rem (source_of e) ≤ piece_of F es e

  meets_not : (e : Entry) → Held F e → Meets e → misses (step_b F es) e ≡ false
  meets_not e h m = elim (held_kinds h) [
    | inl f ↦ rw (fraction_not e f.kind)
    | inr p ↦ elim (ℕ_discrete e.left.0 1) [
      | yes q ↦
          (let k : e.owed.0 ≤ step_b_of F es e =
          omega (arith, m (omega (arith, source_left p)), source_rem p, ap (λ b. cond b (step_b_of F es e) 0) (piece_of_lem e p.kind)) in
          rw (le-ltb (step_b_of F es e) e.owed.0 k, and_false (eqb e.left.0 1)) (and_false (is_piece e)))
      | no q ↦ rw (ne_eqb e.left.0 1 q) (and_false (is_piece e))
    ]
  ]

  not_misses : (e : Entry) → Held F e → misses (step_b F es) e ≡ false → Meets e
  not_misses e h m l = elim (held_kinds h) [
    | inl f ↦ omega (arith, ap rem (fraction_source e f.kind))
    | inr p ↦
        (let one : e.left.0 ≡ 1 = omega (arith, source_left p, p.ahead) in
        let k : ltb (step_b_of F es e) e.owed.0 ≡ false =
        sym (ap₂ (λ a b. a && (b && ltb (step_b_of F es e) e.owed.0)) (piece_of_lem e p.kind) (eq-eqb e.left.0 1 one)) ∙ m in
        omega (arith, source_rem p, ap (λ b. cond b (step_b_of F es e) 0) (piece_of_lem e p.kind), ltb-false (step_b_of F es e) e.owed.0 k))
  ]

timely_well : (n : ℕ) (F : Frame) (es : List Entry) → Together F es → Timely F es → keeps_up n F es ≡ true
unfolding keeps_up
timely_well zero F es w f = refl
timely_well (suc n) F es w f =
    let x = no_extras F es w.once in
    ap₂ (λ (a b : Bool). cond (a || b) false (keeps_up n F (moved (step_b F es) [] es)))
    (le-ltb (room_in F) (load es) (omega (arith, f.load 0, loads_now F es w)))
    (none_any (misses (step_b F es)) (all_zip (λ e h m. meets_not F es e h m) w.held (timely_meets F [] es w x f)))
    ∙ timely_well n F (moved (step_b F es) [] es) (moved_together F (step_b F es) [] es w x) (timely_on F [] es w x f)

branch : (a b r : Bool) → cond (a || b) false r ≡ true → (a ≡ false) × (b ≡ false) × (r ≡ true)
branch true b r h = absurd (clash false h refl)
branch false true r h = absurd (clash false h refl)
branch false false r h = (refl, refl, h)

-- nothing is held any more
none_left : (F : Frame) (es : List Entry) → Together F es → All (λ e. e.life_left.0 ≤ 0) es → Timely F es
none_left F [] w l = record { load = λ t. zero-le; room = λ s d. zero-le }
none_left F (e ∷ es) w l = absurd (omega (arith, (head w.held).alive, head l))

well_timely : (n : ℕ) (F : Frame) (es : List Entry) → Together F es → All (λ e. e.life_left.0 ≤ n) es → keeps_up n F es ≡ true → Timely F es
unfolding keeps_up
well_timely zero F es w l h = none_left F es w l
well_timely (suc n) F es w l h =
    let x = no_extras F es w.once in
    let p = branch (overfull F es) (any_of (misses (step_b F es)) es) (keeps_up n F (moved (step_b F es) [] es)) h in
    timely_back F [] es w x (ltb-false (room_in F) (load es) p.0)
    (all_zip (λ e h m. not_misses F es e h m) w.held (any_none (misses (step_b F es)) es p.1))
    (well_timely n F (moved (step_b F es) [] es) (moved_together F (step_b F es) [] es w x) (moved_life F (step_b F es) [] es w x n l) p.2)

-- ---- until every life is used up
pub lives_most : (es : List Entry) → All (λ e. e.life_left.0 ≤ most_of life_of es) es
lives_most es = most_all life_of es (most_of life_of es) (le_refl _)

pub ahead_timely : (F : Frame) (es : List Entry) → Together F es → keeps_up_ahead F es ≡ true → Timely F es
unfolding keeps_up_ahead
ahead_timely F es w h = well_timely (most_of life_of es) F es w (lives_most es) h

pub timely_ahead : (F : Frame) (es : List Entry) → Together F es → Timely F es → keeps_up_ahead F es ≡ true
unfolding keeps_up_ahead
timely_ahead F es w f = timely_well (most_of life_of es) F es w f
