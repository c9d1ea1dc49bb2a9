-- Step C: the extras stay within what remains and within each stream's headroom; none is given while somebody is owed; and with them
-- all jobs of an interval fit it, where kind 1's minimums do. Assumes nothing.
use Rattle.std.specs.Prelude.{◌≡◌, ◌⊎◌, Bool, true, false, ◌||◌, ℕ, ◌+◌, ◌*◌, ◌/◌, ◌≤◌, ◌<◌, leb}
use Rattle.std.proofs.Math.Path.{refl, ap}
use Rattle.std.proofs.Common.{ap₂, ◌∙◌, inl, inr, zero-le, le_refl, le_of_eq, mul-zero, one-mul, mul_comm, mul-add, mul-le-mul_left, eq-eqb, lt-ltb, le-ltb, le-leb}
use Rattle.std.proofs.Math.Bool.{cond, not}
use mathlib.Core.List.{List}
use Rattle.std.proofs.Math.Nat.{div-le_of_le-mul}
use Rattle.std.proofs.Math.Decide.{ℕ_discrete, dec_le}
use native.Mathlib.Omega.{arith}
use Rattle.std.proofs.lemmas.Bool.{lt-leb}
use Rattle.spec_lists.specs.Lists.{sum_of}
use Rattle.spec_lists.specs.All.{All}
use Rattle.base_lists.specs.All.{all_map, all_zip, all_of}
use Rattle.base_lists.specs.Tests.{cond_le}
use Rattle.base_lists.specs.Sums.{sum_ext, sum_same, sum_le, sum_add, sum_zero, sum_tight}
use Rattle.base_edf.proofs.Share.{shares_fit}
use Rattle.spec_model.specs.Entries.{is_kind, is_piece, asks}
use Rattle.spec_model.specs.declared.Entry.{Entry}
use Rattle.spec_model.specs.Frames.{slots_in, header_in, room_in}
use Rattle.spec_model.specs.declared.Frame.{Frame}
use Rattle.spec_rules.specs.Share.{Grant, load_of, load, slots_for, step_b, remains, job_count, share_of, weight, extra, share_among, everyone}
use Rattle.spec_rules.specs.Share.{need_with, extras_pass, takes_part, step_c}
use Rattle.spec_rules.specs.Header.{header_test}
use Rattle.spec_rules.specs.Slots.{job_need}
use Rattle.spec_rules.specs.WellFormed.{Held, Once}
use Rattle.law_model.specs.Frames.{room_most}
use Rattle.law_model.specs.Loads.{load_of_fraction, load_of_none}
use Rattle.law_steps.proofs.Grants.{slots_map}
use Rattle.law_steps.proofs.Header.{held_whole, no_header, test_less}
use Rattle.law_steps.specs.StepB.{step_b_of}
use Rattle.law_steps.proofs.StepB.{step_b_within, step_b_total, remains_rest}
use Rattle.law_steps.specs.Extras.{Paid, step_c_of, headroom_of}

-- ---- one extra
extra_none : (L W d : ℕ) → L ≡ 0 → extra L W d ≡ 0
unfolding extra
extra_none L W d h = ap (λ b. cond b (cond (leb W L) d (d * L / W)) 0) (le-ltb 0 L (omega arith))

extra_whole : (L W d : ℕ) → 1 ≤ L → W ≤ L → extra L W d ≡ d
unfolding extra
extra_whole L W d h q = ap₂ (λ a b. cond a (cond b d (d * L / W)) 0) (lt-ltb 0 L h) (le-leb W L q)

extra_part : (L W d : ℕ) → 1 ≤ L → L < W → extra L W d ≡ d * L / W
unfolding extra
extra_part L W d h q = ap₂ (λ a b. cond a (cond b d (d * L / W)) 0) (lt-ltb 0 L h) (lt-leb W L q)

pub extra_le : (L W d : ℕ) → extra L W d ≤ d
extra_le L W d =
    elim (ℕ_discrete L 0) [
      | yes z ↦ omega (arith, extra_none L W d z)
      | no z ↦ elim (dec_le W L) [
        | yes q ↦ le_of_eq (extra_whole L W d (omega arith) q)
        | no q ↦ omega (arith, extra_part L W d (omega arith) (omega arith), div-le_of_le-mul W {m = d * L} {n = d} (smaller (omega arith)))
      ]
    ]
  where
    smaller : L ≤ W → d * L ≤ W * d
    smaller h = omega (arith, mul_comm W d, mul-le-mul_left d h)

-- t x jobs of each x get its extra: together no more than L
extras_fit : (L : ℕ) (t d : Entry → ℕ) (es : List Entry) → sum_of (λ e. t e * extra L (sum_of (λ e. t e * d e) es) (d e)) es ≤ L
extras_fit L t d es =
    elim (ℕ_discrete L 0) [
      | yes z ↦ omega (
        arith,
        sum_zero (λ e. t e * extra L W (d e)) (all_of es (λ e. ap (λ v. t e * v) (extra_none L W (d e) z) ∙ mul-zero (t e))),
      )
      | no z ↦ elim (dec_le W L) [
        | yes q ↦ omega (
          arith,
          sum_same (λ e. t e * extra L W (d e)) (λ e. t e * d e) es (λ e. ap (λ v. t e * v) (extra_whole L W (d e) (omega arith) q)),
        )
        | no q ↦ omega (
          arith,
          shares_fit t d L es (omega arith),
          sum_same (λ e. t e * extra L W (d e)) (λ e. t e * (d e * L / W)) es
              (λ e. ap (λ v. t e * v) (extra_part L W (d e) (omega arith) (omega arith))),
        )
      ]
    ]
  where
    W : ℕ
    W = sum_of (λ e. t e * d e) es

-- ---- what remains, shared among those that take part
pub weight_sum : (takes_part : Entry → Bool) (bs : List Grant) (es : List Entry)
    → weight takes_part bs es ≡ sum_of (λ e. job_count e * share_of takes_part bs e) es
unfolding weight
weight_sum takes_part bs es = refl

module _ (takes_part : Entry → Bool) (F : Frame) (es : List Entry) (w : Once es) where
  abbrev W : ℕ
  W = weight takes_part (step_b F es) es

  -- its d
  abbrev d_of : Entry → ℕ
  d_of e = share_of takes_part (step_b F es) e

  abbrev c_of : Entry → ℕ
  c_of e = slots_for e.name (share_among takes_part (remains F es) (step_b F es) es)

  pub among_of : All (λ e. c_of e ≡ extra (remains F es) W (d_of e)) es
  unfolding share_among
  among_of = slots_map (λ e. extra (remains F es) W (d_of e)) es w

  -- an extra stays within d, which is 0 for who takes no part
  pub among_within : All (λ e. c_of e ≤ d_of e) es
  among_within = all_map (λ e h. omega (arith, h, extra_le (remains F es) W (d_of e))) among_of

  -- in all the extras take at most L
  pub among_total : sum_of (λ e. job_count e * c_of e) es ≤ remains F es
  unfolding weight
  among_total =
      omega (
        arith,
        sum_ext (λ e. job_count e * c_of e) (λ e. job_count e * extra (remains F es) W (d_of e))
            (all_map (λ e h. ap (λ v. job_count e * v) h) among_of),
        extras_fit (remains F es) job_count d_of es,
      )

  -- An extra is given only when everything owed is met: where something remains, step B gave the whole of what was owed, and
  -- nobody more than that, so each has what it was owed.
  pub among_last : All (λ e. is_piece e ≡ true → (c_of e ≡ 0) ⊎ Paid (step_b_of F es e) e) es
  among_last =
      elim (ℕ_discrete (remains F es) 0) [
        | yes z ↦ all_map (λ e h q. inl (h ∙ extra_none (remains F es) W (d_of e) z)) among_of
        | no z ↦ all_zip (λ e h t q. inr (paid e q (h q) t)) (step_b_within F es w)
            (sum_tight got owed (all_map (λ e h. cut e (is_piece e) h) (step_b_within F es w))
            (omega (arith, step_b_total F es w, remains_rest F es w)))
      ]
    where
      got : Entry → ℕ
      got e = cond (is_piece e) (step_b_of F es e) 0

      owed : Entry → ℕ
      owed e = cond (is_piece e) e.owed.0 0

      cut : (e : Entry) (b : Bool) → (b ≡ true → step_b_of F es e ≤ e.owed.0) → cond b (step_b_of F es e) 0 ≤ cond b e.owed.0 0
      cut e true h = h refl
      cut e false h = zero-le

      paid : (e : Entry) → is_piece e ≡ true → step_b_of F es e ≤ e.owed.0 → owed e ≤ got e → Paid (step_b_of F es e) e
      paid e q h t = omega (arith, ap (λ b. cond b (step_b_of F es e) 0) q, ap (λ b. cond b e.owed.0 0) q)

-- All jobs together: what every interval takes, what step B gives, and extras cs that take no more than remains, m times each.
pub all_fit : (F : Frame) (cs : List Grant) (es : List Entry) → Once es → All (λ e. is_piece e ≡ not (is_kind 1 e)) es → load es ≤ room_in F
    → sum_of (λ e. job_count e * slots_for e.name cs) es ≤ remains F es
    → sum_of (λ e. job_count e * job_need (step_b F es) cs e) es ≤ room_in F
unfolding load
all_fit F cs es w k l x =
    omega (
      arith,
      sum_ext (λ e. job_count e * job_need (step_b F es) cs e) (λ e. (load_of e + piece e) + extras e)
          (all_map (λ e h. parts e (is_kind 1 e) (is_piece e) refl h) k),
      sum_add (λ e. load_of e + piece e) extras es,
      sum_add load_of piece es,
      step_b_total F es w,
      remains_rest F es w,
    )
  where
    piece : Entry → ℕ
    piece e = cond (is_piece e) (step_b_of F es e) 0

    c : Entry → ℕ
    c e = slots_for e.name cs

    extras : Entry → ℕ
    extras e = job_count e * c e

    parts : (e : Entry) (f p : Bool) → is_kind 1 e ≡ f → p ≡ not f
        → cond f e.parts 1 * cond f (asks e + c e) (step_b_of F es e + c e)
        ≡ (load_of e + cond p (step_b_of F es e) 0) + cond f e.parts 1 * c e
    parts e true p k h =
        omega (arith, load_of_fraction e k, ap (λ b. cond b (step_b_of F es e) 0) h, mul-add e.parts (asks e) (c e))
    parts e false p k h =
        omega (arith, load_of_none e k, ap (λ b. cond b (step_b_of F es e) 0) h, one-mul (step_b_of F es e + c e), one-mul (c e))

-- ---- step C, among those that take part
module _ (F : Frame) (es : List Entry) (w : Once es) where
  pub step_c_of_lem : All (λ e. step_c_of F es e
      ≡ extra (remains F es) (weight (takes_part F es) (step_b F es) es) (share_of (takes_part F es) (step_b F es) e)) es
  unfolding step_c
  step_c_of_lem = among_of (takes_part F es) F es w

  pub step_c_within : All (λ e. step_c_of F es e ≤ headroom_of F es e) es
  unfolding step_c
  step_c_within =
      all_map (λ e h. omega (arith, h, cond_le (takes_part F es e) (headroom_of F es e))) (among_within (takes_part F es) F es w)

  pub step_c_total : sum_of (λ e. job_count e * step_c_of F es e) es ≤ remains F es
  unfolding step_c
  step_c_total = among_total (takes_part F es) F es w

  pub step_c_last : All (λ e. is_piece e ≡ true → (step_c_of F es e ≡ 0) ⊎ (step_b_of F es e ≡ e.owed.0)) es
  unfolding step_c
  step_c_last = among_last (takes_part F es) F es w

  pub needs_fit : All (λ e. is_piece e ≡ not (is_kind 1 e)) es → load es ≤ room_in F
      → sum_of (λ e. job_count e * job_need (step_b F es) (step_c F es) e) es ≤ room_in F
  needs_fit k l = all_fit F (step_c F es) es w k l step_c_total

  -- with what is handed out the header test passes, where it passes with minimums: if it fails with everyone's extras, kind 1 has none
  pub step_c_passes : header_test F asks es ≡ true → header_test F (need_with (step_c F es)) es ≡ true
  unfolding step_c extras_pass
  step_c_passes m = go (extras_pass F es) refl
    where
      others : List Grant
      others = share_among (λ e. not (is_kind 1 e)) (remains F es) (step_b F es) es

      none : (e : Entry) → slots_for e.name others ≤ share_of (λ e. not (is_kind 1 e)) (step_b F es) e → e.kind ≡ 1
          → need_with others e ≤ asks e
      none e h k = omega (arith, h, ap (λ b. cond (not b) (headroom_of F es e) 0) (eq-eqb e.kind 1 k))

      go : (b : Bool) → extras_pass F es ≡ b
          → header_test F (need_with (share_among (λ e. b || not (is_kind 1 e)) (remains F es) (step_b F es) es)) es ≡ true
      go true q = q
      go false q = test_less F asks (need_with others) es (all_map none (among_within (λ e. not (is_kind 1 e)) F es w)) m

  -- without a header everyone takes part
  pub all_take_part : header_in F ≡ 0 → 1 ≤ slots_in F → All (Held F) es → All (λ e. is_piece e ≡ not (is_kind 1 e)) es → load es ≤ room_in F
      → extras_pass F es ≡ true
  unfolding extras_pass
  all_take_part z b h k l =
      no_header F (need_with cs) es z b (held_whole h)
      (omega (
        arith,
        all_fit F cs es w k l (among_total everyone F es w),
        room_most F,
        sum_le (λ e. cond (is_kind 1 e) (e.parts * need_with cs e) 0) (λ e. job_count e * job_need (step_b F es) cs e)
            (all_of es (λ e. one e (is_kind 1 e))),
      ))
    where
      cs : List Grant
      cs = share_among everyone (remains F es) (step_b F es) es

      one : (e : Entry) (f : Bool) → cond f (e.parts * need_with cs e) 0
          ≤ cond f e.parts 1 * cond f (need_with cs e) (slots_for e.name (step_b F es) + slots_for e.name cs)
      one e true = le_refl _
      one e false = zero-le
