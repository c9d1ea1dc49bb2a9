-- The header test, spec_rules/Header: what it says as numbers; that between period ends nothing more is due; that without a header it passes
-- wherever the needs fit the interval; and that it passes on for fewer entries and for smaller needs. Assumes nothing.
use Rattle.std.specs.Prelude.{◌≡◌, ◌⊎◌, Bool, true, false, List}
use Rattle.std.proofs.Common.{sym, subst, ◌∙◌, mul-le-mul_right, le_of_mul-le-mul_right, div-add-mod', mod-lt, div-mul-le_self, ltb-false, le-ltb, eq-eqb, ne_eqb}
use Rattle.std.proofs.Math.Path.{ap}
use Rattle.std.proofs.Math.Logic.{inl, inr}
use Rattle.std.proofs.Math.Bool.{cond, not}
use Prim.Native.Nat.{ℕ, zero, suc, ◌+◌, ◌*◌, ◌/◌, ◌%◌, ◌≤◌, ◌<◌, zero-le}
use Rattle.std.proofs.Math.Nat.{zero-mul, mul-le-mul_left, le_of_mul-le-mul_left, zero-div, div-eq_of_lt-le}
use Rattle.std.proofs.Math.Decide.{ℕ_discrete}
use native.Mathlib.Omega.{arith}
use Rattle.std.proofs.lemmas.Bool.{not-true}
use Rattle.spec_lists.specs.Lists.{one_if, sum_of, any_of}
use Rattle.spec_lists.specs.All.{All, stop, and}
use Rattle.base_lists.specs.Tests.{cond_zero, one_if_false}
use Rattle.base_lists.specs.All.{head, tail, all_map, all_zip, all_of, any_none, none_any}
use Rattle.base_lists.specs.Sums.{sum_ext, sum_le, sum_zero, sum_times, count_none}
use Rattle.spec_model.specs.Frames.{slots_in, header_in, part_of}
use Rattle.spec_model.specs.Entries.{is_kind}
use Rattle.spec_model.specs.declared.Frame.{Frame}
use Rattle.spec_model.specs.declared.Entry.{Entry}
use Rattle.spec_rules.specs.Header.{ends_of, period_ends, due_of, due_by, too_much, header_test}
use Rattle.spec_rules.specs.WellFormed.{Held}
use Rattle.law_steps.specs.Held.{Fraction, Piece}
use Rattle.law_steps.proofs.Held.{held_kinds, piece_other}
use Rattle.law_steps.specs.Header.{Whole, AtEnd, AtEnds, RoomBy}

pub held_whole : {F : Frame} {es : List Entry} → All (Held F) es → All (Whole F) es
held_whole {F} h = all_map (λ e w k. fits e k (held_kinds w)) h
  where
    fits : (e : Entry) → e.kind ≡ 1 → Fraction F e ⊎ Piece F e → part_of F e.parts * e.parts ≡ slots_in F
    fits e k (inl f) = f.whole
    fits e k (inr p) = absurd (piece_other p k)

pub whole_long : (F : Frame) (e : Entry) → 1 ≤ slots_in F → part_of F e.parts * e.parts ≡ slots_in F → 1 ≤ part_of F e.parts
whole_long F e b w = go (part_of F e.parts) w
  where
    go : (T : ℕ) → T * e.parts ≡ slots_in F → 1 ≤ T
    go zero w = absurd (omega (arith, zero-mul e.parts))
    go (suc T) w = omega arith

ends_all : {P : ℕ → Type 0} (T n : ℕ) → ((j : ℕ) → j < n → P (suc j * T)) → All P (ends_of T n)
unfolding ends_of
ends_all T zero h = stop
ends_all T (suc n) h = and (h n (omega arith)) (ends_all T n (λ j l. h j (omega arith)))

ends_each : (P : ℕ → Type 0) (T n : ℕ) → All P (ends_of T n) → (j : ℕ) → j < n → P (suc j * T)
unfolding ends_of
ends_each P T zero h j l = absurd (omega arith)
ends_each P T (suc n) h j l =
    elim (ℕ_discrete n j) [ yes e ↦ rw (← e) (head h) | no e ↦ ends_each P T n (tail h) j (omega arith) ]

module _ (F : Frame) where
  all_ends : (P : ℕ → Type 0) (e : Entry) → AtEnd F P e → All P (period_ends F e)
  all_ends P e f =
      elim (ℕ_discrete e.kind 1) [
        | yes k ↦ rw (eq-eqb e.kind 1 k) (ends_all (part_of F e.parts) e.parts (f k))
        | no k ↦ rw (ne_eqb e.kind 1 k) (ends_all (part_of F e.parts) 0 (λ j l. absurd (omega arith)))
      ]

  each_end : (P : ℕ → Type 0) (e : Entry) → All P (period_ends F e) → AtEnd F P e
  each_end P e q k = ends_each P (part_of F e.parts) e.parts (rw (eq-eqb e.kind 1 k) at q)

module _ (F : Frame) (need : Entry → ℕ) (es : List Entry) where
  abbrev bad : Entry → Bool
  bad e = any_of (too_much F need es) (period_ends F e)

  good_end : (e : Entry) → bad e ≡ false → AtEnd F (RoomBy F need es) e
  good_end e q =
      each_end F (RoomBy F need es) e
      (all_map (λ t z. ltb-false t (due_by F need es t + header_in F) z) (any_none (too_much F need es) (period_ends F e) q))

  end_good : (e : Entry) → AtEnd F (RoomBy F need es) e → bad e ≡ false
  end_good e q =
      none_any (too_much F need es) (all_map (λ t z. le-ltb t (due_by F need es t + header_in F) z) (all_ends F (RoomBy F need es) e q))

  none_bad : header_test F need es ≡ true → All (λ e. bad e ≡ false) es
  unfolding header_test
  none_bad q = any_none bad es (not-true (any_of bad es) q)

  -- the test passes exactly where there is room at every period end
  pub test_says : header_test F need es ≡ true → AtEnds F (RoomBy F need es) es
  test_says q = all_map good_end (none_bad q)

  pub says_test : AtEnds F (RoomBy F need es) es → header_test F need es ≡ true
  unfolding header_test
  says_test q = ap not (none_any bad (all_map end_good q))

-- ---- between the ends
-- one of them gives C, or all give Q
one_or_all : {A C : Type 0} {Q : A → Type 0} {xs : List A} → All (λ x. C ⊎ Q x) xs → C ⊎ All Q xs
one_or_all stop = inr stop
one_or_all (and (inl c) h) = inl c
one_or_all (and (inr q) h) = elim (one_or_all h) [ inl c ↦ inl c | inr r ↦ inr (and q r) ]

-- a period of T slots ends at t + 1, or no more of them end by t + 1 than by t
end_next : (T t : ℕ) → 1 ≤ T → ((j : ℕ) × (suc t ≡ suc j * T)) ⊎ (suc t / T ≡ t / T)
end_next T t h = go (suc t / T) (suc t % T) (div-add-mod' (suc t) T) (mod-lt (suc t) h)
  where
    go : (q r : ℕ) → q * T + r ≡ suc t → r < T → ((j : ℕ) × (suc t ≡ suc j * T)) ⊎ (q ≡ t / T)
    go zero zero e l = absurd (omega arith)
    go (suc q) zero e l = inl (q, omega arith)
    go q (suc r) e l = inr (sym (div-eq_of_lt-le {k = q} T {m = t} (omega arith) (omega arith)))

module _ (F : Frame) (need : Entry → ℕ) (es : List Entry) (b : 1 ≤ slots_in F) (f : All (Whole F) es) where
  -- Where the test passes there is room at every t of the interval, or nothing is due by then.
  -- By t: at a period end the test says it; elsewhere no more is due than a slot before.
  pub test_between : header_test F need es ≡ true → (t : ℕ) → t ≤ slots_in F → (due_by F need es t ≡ 0) ⊎ RoomBy F need es t
  unfolding due_by
  test_between q zero l = inl (sum_zero (due_of F need 0) (all_of es none))
    where
      none : (e : Entry) → due_of F need 0 e ≡ 0
      none e = rw (zero-div (part_of F e.parts), zero-mul (need e)) (cond_zero (is_kind 1 e))
  test_between q (suc t) l =
      elim (one_or_all (all_zip one f (test_says F need es q))) [
        | inl r ↦ inr r
        | inr a ↦ elim (test_between q t (omega arith)) [
          | inl z ↦ inl (sum_ext (due_of F need (suc t)) (due_of F need t) a ∙ z)
          | inr z ↦ inr (omega (arith, sum_ext (due_of F need (suc t)) (due_of F need t) a))
        ]
      ]
    where
      one : (e : Entry) → Whole F e → AtEnd F (RoomBy F need es) e
          → RoomBy F need es (suc t) ⊎ (due_of F need (suc t) e ≡ due_of F need t e)
      one e w s =
          elim (ℕ_discrete e.kind 1) [
            | yes k ↦ elim (end_next (part_of F e.parts) t (whole_long F e b (w k))) [
              | inl p ↦ inl (subst (RoomBy F need es) (sym p.1)
                  (s k p.0 (le_of_mul-le-mul_right {k = part_of F e.parts} (omega (arith, p.1, w k)) (whole_long F e b (w k)))))
              | inr p ↦ inr (ap (λ v. cond (is_kind 1 e) (v * need e) 0) p)
            ]
            | no k ↦ inr (rw (ne_eqb e.kind 1 k))
          ]

-- ---- no header
-- Without a header it passes wherever m times the needs fit the interval: of t slots an entry asks at most the part
-- m need / B, and these parts add up to at most the whole.
module _ (F : Frame) (need : Entry → ℕ) (es : List Entry) where
  abbrev whole_need : Entry → ℕ
  whole_need e = cond (is_kind 1 e) (e.parts * need e) 0

  due_share : (e : Entry) (t : ℕ) → Whole F e → slots_in F * due_of F need t e ≤ t * whole_need e
  due_share e t f =
      elim (ℕ_discrete e.kind 1) [
        | yes k ↦ rw (eq-eqb e.kind 1 k) (part (part_of F e.parts) (f k))
        | no k ↦ rw (ne_eqb e.kind 1 k) (omega arith)
      ]
    where
      part : (T : ℕ) → T * e.parts ≡ slots_in F → slots_in F * (t / T * need e) ≤ t * (e.parts * need e)
      part T w =
          omega (
            arith,
            ap (λ v. v * (t / T * need e)) w,
            mul-le-mul_right (e.parts * need e) (div-mul-le_self t T),
          )

  pub no_header : header_in F ≡ 0 → 1 ≤ slots_in F → All (Whole F) es → sum_of whole_need es ≤ slots_in F → header_test F need es ≡ true
  unfolding due_by
  no_header z b f l = says_test F need es (all_of es (λ e k j q. omega (arith, z, fits (suc j * part_of F e.parts))))
    where
      fits : (t : ℕ) → due_by F need es t ≤ t
      fits t =
          let all : slots_in F * sum_of (due_of F need t) es ≤ slots_in F * t =
          omega (
            arith,
            sum_times (slots_in F) (due_of F need t) es,
            sum_times t whole_need es,
            sum_le (λ e. slots_in F * due_of F need t e) (λ e. t * whole_need e) (all_map (λ e q. due_share e t q) f),
            mul-le-mul_left t l,
          ) in
          le_of_mul-le-mul_left all b

-- ---- fewer entries, smaller needs
-- It passes for entries over which every sum is at most as large: less is due by any t, and there are no other period ends.
pub test_fewer : (F : Frame) (need : Entry → ℕ) (es fs : List Entry) → ((f : Entry → ℕ) → sum_of f fs ≤ sum_of f es)
    → header_test F need es ≡ true → header_test F need fs ≡ true
unfolding due_by
test_fewer F need es fs s q =
    says_test F need fs
    (all_map (λ e z k j l. omega (arith, good_end F need es e z k j l, s (due_of F need (suc j * part_of F e.parts))))
    (count_none (bad F need es) fs (omega (
      arith,
      s (λ e. one_if (bad F need es e)),
      sum_zero (λ e. one_if (bad F need es e)) (all_map (λ e z. one_if_false z) (none_bad F need es q)),
    ))))

-- and for needs that are no larger
pub test_less : (F : Frame) (need less : Entry → ℕ) (es : List Entry) → All (λ e. e.kind ≡ 1 → less e ≤ need e) es
    → header_test F need es ≡ true → header_test F less es ≡ true
unfolding due_by
test_less F need less es s q =
    says_test F less es
    (all_map (λ e f k j l. omega (arith, f k j l, fewer (suc j * part_of F e.parts))) (test_says F need es q))
  where
    one : (t : ℕ) (e : Entry) → (e.kind ≡ 1 → less e ≤ need e) → due_of F less t e ≤ due_of F need t e
    one t e f =
        elim (ℕ_discrete e.kind 1) [
          | yes k ↦ rw (eq-eqb e.kind 1 k) (mul-le-mul_left (t / part_of F e.parts) (f k))
          | no k ↦ rw (ne_eqb e.kind 1 k) zero-le
        ]

    fewer : (t : ℕ) → sum_of (due_of F less t) es ≤ sum_of (due_of F need t) es
    fewer t = sum_le (due_of F less t) (due_of F need t) (all_map (one t) s)
