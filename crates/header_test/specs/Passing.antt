-- The test by sums is the header test: what is due at a period's end, by the sums and by the entries; and the period ends of all streams
-- are the ends of those numbers of parts that have a sum. Assumes nothing.
use Rattle.std.specs.Prelude.{◌≡◌, refl, ◌⊎◌, ◌≢◌, Bool, true, cond, List, [], ◌∷◌, ℕ, zero, suc, ◌*◌, ◌/◌, ◌≤◌, ◌<◌}
use Rattle.std.proofs.Common.{sym, ap₂, subst, ◌∙◌, inl, inr, zero-mul, mul-zero, mul_comm, arith, eq-eqb, ne_eqb}
use Rattle.std.proofs.Math.Path.{ap}
use Rattle.std.proofs.Math.Nat.{mul-div-mul_right}
use Rattle.std.proofs.Math.Decide.{ℕ_discrete}
use Rattle.std.proofs.Math.ListN.{get_or}
use Rattle.spec_lists.specs.Lists.{sum_of, span}
use Rattle.spec_lists.specs.All.{All, stop, and}
use Rattle.base_lists.specs.Tests.{same_test, eqb_refl}
use Rattle.base_lists.specs.All.{head, tail, all_map, all_zip}
use Rattle.base_lists.specs.Sums.{sum_ext, sum_times}
use Rattle.base_edf.specs.Time.{span_agree, span_zero, span_bump, span_sum}
use Rattle.spec_model.specs.Frames.{slots_in, part_of}
use Rattle.spec_model.specs.declared.Entry.{Entry}
use Rattle.spec_model.specs.declared.Frame.{Frame}
use Rattle.spec_rules.specs.Header.{due_of, due_by, header_test}
use Rattle.spec_rules.specs.WellFormed.{Held}
use Rattle.law_steps.specs.Held.{Fraction, Piece}
use Rattle.law_steps.proofs.Held.{held_kinds, piece_other}
use Rattle.law_steps.specs.Header.{RoomBy}
use Rattle.law_steps.proofs.Header.{test_says, says_test}
use Rattle.header_test.specs.Due.{Tells, parts_room, jobs_by, due_to, RoomAt, Passes}
use Rattle.header_test.specs.Sums.{need_at, SumsOf}

-- kind 1 as it is held: its periods fill the interval, and each job needs something
pub record Counted (F : Frame) (need : Entry → ℕ) (e : Entry) : Type 0 where
  pub least : 2 ≤ e.parts
  pub most : e.parts < parts_room
  pub whole : part_of F e.parts * e.parts ≡ slots_in F
  pub some : 1 ≤ need e

abbrev pub Counts : Frame → (need : Entry → ℕ) → Entry → Type 0
Counts F need e = e.kind ≡ 1 → Counted F need e

-- ---- the jobs that are due
-- Periods of T slots end m times in B, those of U slots p times: by the end of k of the first, k p / m of the second have ended.
jobs_due : (B T U k m p : ℕ) → 1 ≤ B → T * m ≡ B → U * p ≡ B → k * T / U ≡ k * p / m
jobs_due B T U k m p b t u =
    sym (mul-div-mul_right {m = m} (k * T) U (factor m T (mul_comm m T ∙ t)))
    ∙ ap₂ ◌/◌ (omega (arith, ap (λ v. k * v) t, ap (λ v. k * v) u)) (mul_comm U m)
    ∙ mul-div-mul_right {m = U} (k * p) m (factor U p u)
  where
    factor : (x y : ℕ) → x * y ≡ B → 0 < x
    factor zero y q = absurd (omega (arith, zero-mul y))
    factor (suc x) y q = omega arith

-- a sum that has one term
one_term : (c : ℕ → ℕ) (p n : ℕ) → 2 ≤ p → p < n → ((i : ℕ) → i ≢ p → c i ≡ 0) → span c 2 n ≡ c p
one_term c p n l h z =
    omega (arith, span_bump (λ i. 0) c p (c p) 2 n z (omega arith) l h, span_zero (λ i. 0) 2 n (λ i q. refl))

module _ (F : Frame) (need : Entry → ℕ) (b : 1 ≤ slots_in F) where
  -- of one entry: its own number of parts is the one term that is not 0
  module _ (n k m : ℕ) (q : n ≡ parts_room) (w : part_of F m * m ≡ slots_in F) where
    abbrev term : Entry → ℕ → ℕ
    term e i = jobs_by k m i * need_at need i e

    entry_due : (e : Entry) → Counts F need e → due_of F need (k * part_of F m) e ≡ span (term e) 2 n
    entry_due e f =
        elim (ℕ_discrete e.kind 1) [
          | yes c ↦ sym (one_term (term e) e.parts n (f c).least (omega (arith, q, (f c).most)) (other c) ∙ own c)
          | no c ↦ ap (λ v. cond v (k * part_of F m / part_of F e.parts * need e) 0) (ne_eqb e.kind 1 c)
              ∙ sym (span_zero (term e) 2 n (λ i l. none c i))
        ]
      where
        none : e.kind ≢ 1 → (i : ℕ) → term e i ≡ 0
        none c i = rw (ne_eqb e.kind 1 c) (mul-zero (jobs_by k m i))

        other : e.kind ≡ 1 → (i : ℕ) → i ≢ e.parts → term e i ≡ 0
        other c i z =
            rw (eq-eqb e.kind 1 c, ne_eqb e.parts i (λ y. z (sym y))) (mul-zero (jobs_by k m i))

        own : e.kind ≡ 1 → term e e.parts ≡ due_of F need (k * part_of F m) e
        own c =
            rw (eq-eqb e.kind 1 c, eqb_refl e.parts)
            (ap (λ v. v * need e) (sym (jobs_due (slots_in F) (part_of F m) (part_of F e.parts) k m e.parts b w (f c).whole)))

  module _ (es : List Entry) (sums : List ℕ) (f : All (Counts F need) es) (s : SumsOf need es sums) where
    -- of all
    due_sums : (n k m : ℕ) → n ≡ parts_room → part_of F m * m ≡ slots_in F → due_by F need es (k * part_of F m) ≡ due_to sums k m n
    unfolding due_by due_to
    due_sums n k m q w =
        sum_ext (due_of F need (k * part_of F m)) (λ e. span (term n k m q w e) 2 n) (all_map (entry_due n k m q w) f)
        ∙ span_sum (term n k m q w) es 2 n
        ∙ span_agree (λ i. sum_of (λ e. term n k m q w e i) es) (λ i. jobs_by k m i * get_or sums i 0) 2 n (λ i l h.
        sum_times (jobs_by k m i) (need_at need i) es
        ∙ ap (λ v. jobs_by k m i * v) (sym (s.each i (omega (arith, q)))))

    -- ---- the ends
    -- each need is in its sum
    in_sums : (g : ℕ → Entry → ℕ) (xs : List Entry) → All (λ x. (m : ℕ) → g m x ≤ sum_of (g m) xs) xs
    in_sums g [] = stop
    in_sums g (x ∷ xs) = and {x = x} (λ m. omega arith) (all_map (λ y h m. omega (arith, h m)) (in_sums g xs))

    passes_test : Passes F sums → header_test F need es ≡ true
    passes_test p = says_test F need es (all_zip one f (in_sums (need_at need) es))
      where
        one : (e : Entry) → Counts F need e → ((m : ℕ) → need_at need m e ≤ sum_of (need_at need m) es) → e.kind ≡ 1 → (j : ℕ) → j < e.parts
            → RoomBy F need es (suc j * part_of F e.parts)
        one e c g k j l =
            let a = c k in
            let own : need_at need e.parts e ≡ need e = rw (eq-eqb e.kind 1 k, eqb_refl e.parts) refl in
            let there : 1 ≤ get_or sums e.parts 0 = omega (arith, own, g e.parts, a.some, s.each e.parts a.most) in
            omega (
              arith,
              p e.parts a.least a.most there (suc j) (omega arith) (omega arith),
              due_sums parts_room (suc j) e.parts refl a.whole,
            )

    -- where a sum is not 0, one of them adds to it
    some_adds : {C : Type 0} (g : Entry → ℕ) (xs : List Entry) → 1 ≤ sum_of g xs → All (λ x. 1 ≤ g x → C) xs → C
    some_adds g [] h c = absurd (omega arith)
    some_adds g (x ∷ xs) h c =
        elim (ℕ_discrete (g x) 0) [
          | yes z ↦ some_adds g xs (omega arith) (tail c)
          | no z ↦ head c (omega arith)
        ]

    test_passes : header_test F need es ≡ true → Passes F sums
    test_passes t m l h g zero a z = absurd (omega arith)
    test_passes t m l h g (suc j) a z =
        some_adds (need_at need m) es (omega (arith, s.each m h)) (all_zip one f (test_says F need es t))
      where
        one : (e : Entry) → Counts F need e → (e.kind ≡ 1 → (i : ℕ) → i < e.parts → RoomBy F need es (suc i * part_of F e.parts))
            → 1 ≤ need_at need m e → RoomAt F sums m (suc j)
        one e c r y =
            elim (ℕ_discrete e.kind 1) [
              | yes k ↦ elim (ℕ_discrete e.parts m) [
                | yes q ↦ subst (λ i. RoomAt F sums i (suc j)) q
                    (omega (arith, r k j (omega (arith, q)), due_sums parts_room (suc j) e.parts refl (c k).whole))
                | no q ↦ absurd (omega (arith, none k q))
              ]
              | no k ↦ absurd (omega (arith, other k))
            ]
          where
            none : e.kind ≡ 1 → e.parts ≢ m → need_at need m e ≡ 0
            none k q = rw (eq-eqb e.kind 1 k, ne_eqb e.parts m q) refl

            other : e.kind ≢ 1 → need_at need m e ≡ 0
            other k = rw (ne_eqb e.kind 1 k) refl

    -- what tells whether the sums pass tells whether the entries do
    pub header_by_sums : (r : Bool) → Tells r (Passes F sums) → r ≡ header_test F need es
    header_by_sums r h =
        same_test r (header_test F need es) (λ e. passes_test (h.0 e)) (λ e. h.1 (test_passes e))

-- ---- held entries
module _ {F : Frame} {es : List Entry} (need : Entry → ℕ) where
  pub held_counts : All (Held F) es → All (λ e. e.kind ≡ 1 → 1 ≤ need e) es → All (Counts F need) es
  held_counts h some = all_zip (λ e w n k. one e (held_kinds w) k (n k)) h some
    where
      one : (e : Entry) → Fraction F e ⊎ Piece F e → e.kind ≡ 1 → 1 ≤ need e → Counted F need e
      one e (inl f) k n = record { least = f.parts_least; most = omega (arith, f.parts_most); whole = f.whole; some = n }
      one e (inr p) k n = absurd (piece_other p k)
