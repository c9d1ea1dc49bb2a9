-- An assignment that leaves the headers free and serves the entries shows that they fit: each slot after the header has one taker, kind 1
-- takes at least its load of every interval, so the others get at most what it leaves, and that feeds them; and what kind 1 has had by a
-- period's end lies after the header. Assumes nothing.
use Rattle.std.specs.Prelude.{◌≡◌, refl, ◌⊎◌, ◌≢◌, true, cond, List}
use Rattle.std.proofs.Common.{sym, ap, subst, ◌∙◌, inl, inr, suc-mul, mul_comm, mul-le-mul_right, le_of_mul-le-mul_right, div-mul-le_self, mul-div_cancel, eq-eqb}
use Rattle.std.proofs.Math.Path.{fun_ext}
use Rattle.std.proofs.Math.Option.{Option, none, some}
use Prim.Native.Nat.{ℕ, suc, ◌+◌, ◌*◌, ◌-◌, ◌/◌, ◌≤◌, ◌<◌, zero-le}
use Rattle.std.proofs.Math.Decide.{dec_le}
use native.Mathlib.Omega.{arith}
use Rattle.spec_lists.specs.Lists.{one_if, sum_of, span}
use Rattle.base_lists.specs.Tests.{cond_le}
use Rattle.spec_lists.specs.All.{All}
use Rattle.base_lists.specs.All.{all_map, all_zip, all_of}
use Rattle.base_lists.specs.Sums.{sum_same, sum_le, sum_add, sum_zero, each_in_sum}
use Rattle.base_lists.specs.Picked.{each_picked, picked_one}
use Rattle.base_edf.specs.Time.{due_in_lem, due_out, span_le, span_agree, span_join, span_zero, span_ones, span_sum, span_parts}
use Rattle.base_edf.specs.Edf.{source}
use Rattle.base_edf.specs.Necessity.{Fed}
use Rattle.base_edf.proofs.Necessity.{fed_room, fed_gone}
use Rattle.spec_model.specs.Frames.{slots_in, header_in, room_in, part_of}
use Rattle.spec_model.specs.Entries.{is_named, is_piece, asks}
use Rattle.spec_model.specs.declared.Frame.{Frame}
use Rattle.spec_model.specs.declared.Name.{Name}
use Rattle.spec_model.specs.declared.Entry.{Entry}
use Rattle.spec_rules.specs.Header.{due_of, due_by, header_test}
use Rattle.spec_rules.specs.WellFormed.{Held, Once}
use Rattle.law_model.specs.Frames.{room_header}
use Rattle.law_model.specs.Names.{same_sym}
use Rattle.law_steps.specs.Held.{Fraction, Piece}
use Rattle.law_steps.proofs.Held.{held_kinds, piece_of_lem, piece_other, other_piece, not_fraction, fraction_not}
use Rattle.law_steps.specs.Sources.{source_of, load_at}
use Rattle.law_steps.proofs.Sources.{fraction_source, piece_source, load_none, load_fraction}
use Rattle.law_ahead.specs.Moved.{Together}
use Rattle.law_steps.specs.Header.{RoomBy}
use Rattle.law_steps.proofs.Header.{says_test, whole_long}
use Rattle.law_ahead.specs.Timely.{Timely, loads_at}
use Rattle.law_ahead.specs.Fits.{Fits}
use Rattle.spec_demand.specs.Assignment.{Assignment, is_to, assigned, LeavesHeader}
use Rattle.law_exact.specs.Entries.{ServesEntry}
use Rattle.law_exact.specs.Needed.{slots_to, Fair}

-- ---- the two ways to say it
-- the end of later period k, in its two spellings
at_end : (p l k : ℕ) → l + suc k * p ≡ l + k * p + p
at_end p l k = omega (arith, suc-mul k p)

module _ {F : Frame} {a : Assignment} {e : Entry} (h : Held F e) where
  pub entry_fair : ServesEntry F a e → Fair F a e
  entry_fair s =
      record {
        fractions = s.fractions;
        piece = λ n. (let p = other_piece h n in
            rw (piece_source p) (
              s.running n,
              λ k i. rw (← at_end e.period.0 e.left.0 k)
                  (s.later n k (omega (arith, p.lives, mul-le-mul_right e.period.0 i))),
            ));
      }

  pub fair_entry : Fair F a e → ServesEntry F a e
  fair_entry s =
      record {
        fractions = s.fractions;
        running = λ n. (fed n).0;
        later = λ n i q. (let p = other_piece h n in
            rw (at_end e.period.0 e.left.0 i)
            ((fed n).1 i (le_of_mul-le-mul_right {k = e.period.0} (omega (arith, p.lives)) p.period_least)));
      }
    where
      fed : (n : e.kind ≢ 1)
          → Fed (source e.owed.0 e.left.0 (asks e) e.period.0 (other_piece h n).following) (slots_to F a e)
      fed n = rw (piece_source (other_piece h n)) at (s.piece n)

-- ---- each slot has one taker
taker : (s : Option Name) (es : List Entry) → Once es → sum_of (λ (e : Entry). one_if (is_to e.name s)) es ≤ 1
taker none es w = omega (arith, sum_zero (λ (e : Entry). 0) (all_of es (λ e. refl)))
taker (some x) es w =
    omega (
      arith,
      w x,
      sum_same (λ (e : Entry). one_if (is_to e.name (some x))) (λ (e : Entry). one_if (is_named x e)) es
          (λ e. ap one_if (same_sym x e.name)),
    )

-- ---- and the header none
-- the sum is at least what one of them adds, whatever is added up
one_in_sum : {A : Type 0} (xs : List A) → All (λ x. (f : A → ℕ) → f x ≤ sum_of f xs) xs
one_in_sum xs = all_map (λ x p f. picked_one p.1 (each_in_sum f xs)) (each_picked xs)

module _ (F : Frame) (b : header_in F < slots_in F) (a : Assignment) (free : LeavesHeader F a) where
  -- how many of the entries have slot z of coming interval t, and how many slots they have from x up to y
  abbrev had : List Entry → (t z : ℕ) → ℕ
  had es t z = sum_of (λ (e : Entry). one_if (is_to e.name (a t z))) es

  none_had : (es : List Entry) (t y : ℕ) → y ≤ header_in F → span (had es t) 0 y ≡ 0
  none_had es t y l =
      span_agree (had es t) (λ z. 0) 0 y
      (λ z p q. sum_zero (λ (e : Entry). one_if (is_to e.name (a t z)))
      (all_of es (λ e. ap (λ c. one_if (is_to e.name c)) (free t z (omega arith)))))
      ∙ span_zero (λ z. 0) 0 y (λ z p. refl)

  -- by slot y they have no more than the slots after the header
  had_most : (es : List Entry) → Once es → (t y : ℕ) → header_in F ≤ y → span (had es t) 0 y ≤ y - header_in F
  had_most es w t y l =
      omega (
        arith,
        none_had es t (header_in F) (omega arith),
        span_join (had es t) 0 (header_in F) y zero-le l,
        span_le (had es t) (λ z. 1) (header_in F) y (λ z. taker (a t z) es w),
        span_ones (header_in F) y,
      )

  -- so of an interval they have no more than may be given
  takers : (t : ℕ) (es : List Entry) → Once es → sum_of (λ e. slots_to F a e t) es ≤ room_in F
  unfolding assigned
  takers t es w =
      omega (
        arith,
        span_sum (λ (e : Entry) z. one_if (is_to e.name (a t z))) es 0 (slots_in F),
        had_most es w t (slots_in F) (omega arith),
        room_header F (omega arith),
      )

  -- kind 1 takes its load, and the others have what they have
  shares : (e : Entry) → Held F e → Fair F a e → (t : ℕ) → load_at e t + cond (is_piece e) (slots_to F a e t) 0 ≤ slots_to F a e t
  unfolding assigned
  shares e h s t = go (held_kinds h)
    where
      T : ℕ
      T = part_of F e.parts

      go : Fraction F e ⊎ Piece F e → load_at e t + cond (is_piece e) (slots_to F a e t) 0 ≤ slots_to F a e t
      go (inl f) =
          elim (dec_le (suc t) e.life_left.0) [
            | yes q ↦ omega (
              arith,
              load_fraction e t f.kind,
              due_in_lem (suc t) e.life_left.0 (e.parts * asks e) q,
              ap (λ b. cond b (slots_to F a e t) 0) (fraction_not e f.kind),
              span_parts e.parts T (asks e) (λ z. one_if (is_to e.name (a t z))) (λ j i. s.fractions f.kind t j q i),
              ap (λ v. span (λ z. one_if (is_to e.name (a t z))) 0 v) (mul_comm e.parts T ∙ f.whole),
            )
            | no q ↦ omega (
              arith,
              load_fraction e t f.kind,
              due_out (suc t) e.life_left.0 (e.parts * asks e) (omega arith),
              ap (λ b. cond b (slots_to F a e t) 0) (fraction_not e f.kind),
            )
          ]
      go (inr p) = omega (arith, load_none e t (not_fraction e p.kind), cond_le (is_piece e) (slots_to F a e t))

  fair_timely : (es : List Entry) → Together F es → All (Fair F a) es → Timely F es
  fair_timely es w h =
      record {
        load = λ t. omega (arith, both t);
        room = fed_room source_of (λ e t. cond (is_piece e) (slots_to F a e t) 0) _ (λ t. omega (arith, both t)) (all_zip feeds w.held h);
      }
    where
      -- the loads and what the pieces have of an interval fit it
      both : (t : ℕ) → loads_at es t + sum_of (λ e. cond (is_piece e) (slots_to F a e t) 0) es ≤ room_in F
      both t =
          omega (
            arith,
            sum_add (λ e. load_at e t) (λ e. cond (is_piece e) (slots_to F a e t) 0) es,
            sum_le (λ e. load_at e t + cond (is_piece e) (slots_to F a e t) 0) (λ e. slots_to F a e t)
                (all_zip (λ e d s. shares e d s t) w.held h),
            takers t es w.once,
          )

      feeds : (e : Entry) → Held F e → Fair F a e → Fed (source_of e) (λ t. cond (is_piece e) (slots_to F a e t) 0)
      feeds e d s = go (held_kinds d)
        where
          go : Fraction F e ⊎ Piece F e → Fed (source_of e) (λ t. cond (is_piece e) (slots_to F a e t) 0)
          go (inl f) = rw (fraction_source e f.kind) (fed_gone _)
          go (inr p) =
              subst (Fed (source_of e)) (fun_ext (λ t. sym (ap (λ b. cond b (slots_to F a e t) 0) (piece_of_lem e p.kind))))
              (s.piece (piece_other p))

  -- ---- the header test is needed
  -- what is due of an entry by t was assigned by then
  due_had : (t : ℕ) → t ≤ slots_in F → (e : Entry) → Held F e → Fair F a e
      → due_of F asks t e ≤ span (λ z. one_if (is_to e.name (a 0 z))) 0 t
  unfolding assigned
  due_had t l e d s = go (held_kinds d)
    where
      T : ℕ
      T = part_of F e.parts

      gets : ℕ → ℕ
      gets z = one_if (is_to e.name (a 0 z))

      go : Fraction F e ⊎ Piece F e → due_of F asks t e ≤ span gets 0 t
      go (inl f) =
          let q : t / T ≤ e.parts =
          le_of_mul-le-mul_right {k = T} (omega (arith, div-mul-le_self t T, f.whole)) (whole_long F e (omega arith) f.whole) in
          rw (eq-eqb e.kind 1 f.kind)
          (omega (
            arith,
            span_parts (t / T) T (asks e) gets (λ j i. s.fractions f.kind 0 j d.alive (omega arith)),
            span_join gets 0 (t / T * T) t zero-le (div-mul-le_self t T),
          ))
      go (inr p) = rw (not_fraction e p.kind) zero-le

  -- By a period end t something is due, so t lies after the header; and the slots from h up to t have one taker each.
  test_needed : (es : List Entry) → Together F es → All (Fair F a) es → header_test F asks es ≡ true
  unfolding due_by
  test_needed es w h = says_test F asks es (all_zip (λ e d o k j l. end e (held_kinds d) o k j l) w.held (one_in_sum es))
    where
      all_had : (t : ℕ) → t ≤ slots_in F → sum_of (due_of F asks t) es ≤ span (had es 0) 0 t
      all_had t l =
          omega (
            arith,
            span_sum (λ (e : Entry) z. one_if (is_to e.name (a 0 z))) es 0 t,
            sum_le (due_of F asks t) (λ e. span (λ z. one_if (is_to e.name (a 0 z))) 0 t)
                (all_zip (λ e d s. due_had t l e d s) w.held h),
          )

      end : (e : Entry) → Fraction F e ⊎ Piece F e → ((f : Entry → ℕ) → f e ≤ sum_of f es) → e.kind ≡ 1 → (j : ℕ) → j < e.parts
          → RoomBy F asks es (suc j * part_of F e.parts)
      end e (inr p) o k j l = absurd (piece_other p k)
      end e (inl f) o k j l =
          let T : ℕ = part_of F e.parts in
          let t : ℕ = suc j * T in
          let i : t ≤ slots_in F = omega (arith, f.whole, mul_comm T e.parts, mul-le-mul_right T l) in
          elim (dec_le (header_in F) t) [
            | yes q ↦ omega (arith, all_had t i, had_most es w.once 0 t q)
            | no q ↦ absurd (omega (
              arith,
              all_had t i,
              none_had es 0 t (omega arith),
              o (due_of F asks t),
              ap (λ c. cond c (t / T * asks e) 0) (eq-eqb e.kind 1 f.kind),
              ap (λ v. v * asks e) (mul-div_cancel (suc j) (whole_long F e (omega arith) f.whole)),
              f.min_least,
            ))
          ]

  pub fair_fits : (es : List Entry) → Together F es → All (Fair F a) es → Fits F es
  fair_fits es w h = record { test = test_needed es w h; timely = fair_timely es w h }
