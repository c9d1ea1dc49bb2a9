-- Looking ahead says yes exactly where the entries fit: kind 1 passes the header test, and they can be served in time. Kind 1 entries only
-- leave, so where the test passes in the first interval it passes in all: looking ahead is that one test, and looking ahead without it.
-- Assumes nothing.
use Rattle.std.specs.Prelude.{◌≡◌, refl, ◌⊎◌, Bool, true, false, cond, not, ◌&&◌, ◌||◌, List, [], ◌∷◌, map, ℕ, zero, suc, ◌*◌, ◌≤◌, ◌<◌}
use Rattle.std.proofs.Common.{sym, ap, ap₂, ◌∙◌, inl, inr, zero-le, le_refl, arith, eq-eqb, ne_eqb}
use Rattle.std.proofs.Math.Decide.{ℕ_discrete}
use Rattle.spec_lists.specs.Lists.{most_of, any_of}
use Rattle.spec_lists.specs.All.{All, stop}
use Rattle.base_lists.specs.Tests.{clash, and_both, both_and, and_false}
use Rattle.base_lists.specs.All.{head, all_map, all_zip, all_of, all_of_map}
use Rattle.base_lists.specs.Sums.{sum_same, sum_le, sum_map, sum_keep_le}
use Rattle.spec_model.specs.Frames.{slots_in, header_in, part_of}
use Rattle.spec_model.specs.Entries.{free_entry, is_held, is_kind, asks}
use Rattle.spec_model.specs.Answers.{request_of}
use Rattle.spec_model.specs.declared.Frame.{Frame}
use Rattle.spec_model.specs.declared.Entry.{Entry}
use Rattle.spec_model.specs.declared.Request.{Request}
use Rattle.spec_rules.specs.Header.{due_of, due_by, header_test}
use Rattle.spec_rules.specs.Share.{Grant, load_of, load, slots_for, overfull, step_b}
use Rattle.spec_rules.specs.Ahead.{step_f, misses, goes_well, fits_ahead}
use Rattle.law_model.specs.Frames.{room_most}
use Rattle.law_model.specs.Loads.{load_of_fraction, load_of_none}
use Rattle.law_steps.specs.Header.{RoomBy}
use Rattle.law_steps.proofs.Header.{held_whole, no_header, test_says, says_test, test_fewer}
use Rattle.law_steps.specs.Settled.{after}
use Rattle.law_steps.proofs.Settled.{after_request}
use Rattle.law_ahead.specs.Moved.{Together, life_of, step_of, moved, MayGive}
use Rattle.law_ahead.proofs.Timely.{loads_now, timely_on}
use Rattle.law_ahead.specs.KeepsUp.{keeps_up, keeps_up_ahead}
use Rattle.law_ahead.proofs.KeepsUp.{ahead_timely, timely_ahead}
use Rattle.law_ahead.specs.Fits.{Fits}

-- ---- the test after an interval
-- y is no kind 1 entry, or has m and the minimum of e, which is one too
abbrev SameFraction : Entry → Entry → Type 0
SameFraction e y = y.kind ≡ 1 → (e.kind ≡ 1) × (y.parts ≡ e.parts) × (asks y ≡ asks e)

-- the test passes for what becomes of the entries
test_map : (F : Frame) (f : Entry → Entry) (es : List Entry) → All (λ e. SameFraction e (f e)) es → header_test F asks es ≡ true
    → header_test F asks (map f es) ≡ true
unfolding due_by
test_map F f es same q = says_test F asks (map f es) (all_of_map f (all_zip each same (test_says F asks es q)))
  where
    less : (t : ℕ) (e : Entry) → SameFraction e (f e) → due_of F asks t (f e) ≤ due_of F asks t e
    less t e s =
        elim (ℕ_discrete (f e).kind 1) [
          | yes k ↦
              let p = s k in
              rw (eq-eqb (f e).kind 1 k, eq-eqb e.kind 1 p.0, p.1, p.2) (le_refl _)
          | no k ↦ rw (ne_eqb (f e).kind 1 k) zero-le
        ]

    each : (e : Entry) → SameFraction e (f e) → (e.kind ≡ 1 → (j : ℕ) → j < e.parts → RoomBy F asks es (suc j * part_of F e.parts))
        → (f e).kind ≡ 1 → (j : ℕ) → j < (f e).parts → RoomBy F asks (map f es) (suc j * part_of F (f e).parts)
    each e s r k j l =
        let p = s k in
        let t : ℕ = suc j * part_of F e.parts in
        rw p.1
        (omega (
          arith,
          r p.0 j (omega (arith, p.1)),
          sum_map (due_of F asks t) f es,
          sum_le (λ e. due_of F asks t (f e)) (due_of F asks t) (all_map (less t) same),
        ))

-- the request, and so m and the minimum, stay as long as the entry
same_after : (b c : ℕ) (e : Entry) → SameFraction e (after b c e)
unfolding request_of
same_after b c e k = go (after_request b c e)
  where
    y : Entry
    y = after b c e

    go : (y ≡ free_entry) ⊎ (request_of y ≡ request_of e) → (e.kind ≡ 1) × (y.parts ≡ e.parts) × (asks y ≡ asks e)
    go (inl q) = absurd (omega (arith, ap (λ (x : Entry). x.kind) q))
    go (inr q) =
        let z : e.kind ≡ 1 = sym (ap (λ (r : Request). r.kind) q) ∙ k in (
          z,
          sym (ap (λ c. cond c y.parts y.period.0) (eq-eqb y.kind 1 k))
              ∙ ap (λ (r : Request). r.period) q
              ∙ ap (λ c. cond c e.parts e.period.0) (eq-eqb e.kind 1 z),
          ap (λ (r : Request). r.min) q,
        )

-- so it passes in the next interval, whatever was given
pub test_moved : (F : Frame) (bs cs : List Grant) (es : List Entry) → header_test F asks es ≡ true → header_test F asks (moved bs cs es) ≡ true
unfolding step_f
test_moved F bs cs es q =
    test_fewer F asks (map (step_of bs cs) es) (moved bs cs es) (λ f. sum_keep_le f is_held (map (step_of bs cs) es))
    (test_map F (step_of bs cs) es (all_of es (λ e. same_after (slots_for e.name bs) (slots_for e.name cs) e)) q)

-- ---- all intervals
well_test : (n : ℕ) (F : Frame) (es : List Entry) → header_test F asks es ≡ true → goes_well n F es ≡ keeps_up n F es
unfolding goes_well keeps_up
well_test zero F es q = refl
well_test (suc n) F es q =
    ap₂ (λ (a r : Bool). cond (overfull F es || (not a || any_of (misses (step_b F es)) es)) false r) q
    (well_test n F (moved (step_b F es) [] es) (test_moved F (step_b F es) [] es q))

fails_test : (n : ℕ) (F : Frame) (es : List Entry) → header_test F asks es ≡ false → goes_well (suc n) F es ≡ false
unfolding goes_well
fails_test n F es q =
    ap (λ (a : Bool). cond (overfull F es || (not a || any_of (misses (step_b F es)) es)) false (goes_well n F (moved (step_b F es) [] es))) q
    ∙ go (overfull F es)
  where
    go : (a : Bool) → cond (a || true) false (goes_well n F (moved (step_b F es) [] es)) ≡ false
    go true = refl
    go false = refl

-- If the test fails, some entry is alive, so at least one interval is looked at.
pub ahead_once : (F : Frame) (es : List Entry) → Together F es → fits_ahead F es ≡ (header_test F asks es && keeps_up_ahead F es)
unfolding fits_ahead keeps_up_ahead
ahead_once F es w = go (header_test F asks es) refl
  where
    go : (b : Bool) → header_test F asks es ≡ b → goes_well (most_of life_of es) F es ≡ (b && keeps_up (most_of life_of es) F es)
    go true q = well_test (most_of life_of es) F es q
    go false q = one (most_of life_of es) (some es w q)
      where
        one : (n : ℕ) → 1 ≤ n → goes_well n F es ≡ false
        one zero l = absurd (omega arith)
        one (suc n) l = fails_test n F es q

        some : (es : List Entry) → Together F es → header_test F asks es ≡ false → 1 ≤ most_of life_of es
        some [] w q = absurd (clash (header_test F asks []) (says_test F asks [] stop) q)
        some (e ∷ es) w q = omega (arith, (head w.held).alive)

-- Without a header the test adds nothing: where all are served in time, kind 1 fits the interval.
pub ahead_plain : (F : Frame) (es : List Entry) → header_in F ≡ 0 → 1 ≤ slots_in F → Together F es → fits_ahead F es ≡ keeps_up_ahead F es
unfolding load
ahead_plain F es z b w = ahead_once F es w ∙ go (keeps_up_ahead F es) refl
  where
    passes : keeps_up_ahead F es ≡ true → header_test F asks es ≡ true
    passes q =
        no_header F asks es z b (held_whole w.held)
        (omega (
          arith,
          (ahead_timely F es w q).load 0,
          loads_now F es w,
          room_most F,
          sum_same (λ e. cond (is_kind 1 e) (e.parts * asks e) 0) load_of es (λ e. one e (is_kind 1 e) refl),
        ))
      where
        one : (e : Entry) (k : Bool) → is_kind 1 e ≡ k → cond k (e.parts * asks e) 0 ≡ load_of e
        one e true k = sym (load_of_fraction e k)
        one e false k = sym (load_of_none e k)

    go : (c : Bool) → keeps_up_ahead F es ≡ c → (header_test F asks es && c) ≡ c
    go true q = ap (λ c. c && true) (passes q)
    go false q = and_false (header_test F asks es)

pub fits_on : (F : Frame) (cs : List Grant) (es : List Entry) → Together F es → MayGive (step_b F es) cs es
    → Fits F es → Fits F (moved (step_b F es) cs es)
fits_on F cs es w x f =
    record { test = test_moved F (step_b F es) cs es f.test; timely = timely_on F cs es w x f.timely }

pub ahead_fits : (F : Frame) (es : List Entry) → Together F es → fits_ahead F es ≡ true → Fits F es
ahead_fits F es w h =
    let p = and_both (header_test F asks es) (keeps_up_ahead F es) (sym (ahead_once F es w) ∙ h) in
    record { test = p.0; timely = ahead_timely F es w p.1 }

pub fits_ahead_lem : (F : Frame) (es : List Entry) → Together F es → Fits F es → fits_ahead F es ≡ true
fits_ahead_lem F es w f =
    ahead_once F es w ∙ both_and (header_test F asks es) (keeps_up_ahead F es) f.test (timely_ahead F es w f.timely)

-- nothing is held
pub ahead_none : (F : Frame) → fits_ahead F [] ≡ true
unfolding fits_ahead goes_well
ahead_none F = refl
