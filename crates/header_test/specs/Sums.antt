-- The sums of entries by their parts, built place by place: none, one entry more, a free place, an entry put at a free place, the held
-- entries of a table; and that no sum is too large. Assumes nothing.
use Rattle.std.specs.Prelude.{◌≡◌, refl, ◌⊎◌, Bool, true, false, cond, ◌&&◌, List, [], ◌∷◌, ℕ, zero, suc, ◌+◌, ◌≤◌, ◌<◌, eqb, length, take, set, get_or, replicate}
use Rattle.std.proofs.Common.{sym, ap, ◌∙◌, zero-le, not-suc-le-zero, le_of_suc-le-suc, mul-le-mul_right, arith, length-set, get_or-set_same, get_or-set_other, eq-eqb, ne_eqb}
use Rattle.std.proofs.Math.Decide.{ℕ_discrete}
use Rattle.std.proofs.lemmas.List.{get_or-replicate}
use Rattle.spec_lists.specs.Lists.{keep, sum_of}
use Rattle.spec_lists.specs.All.{All}
use Rattle.base_lists.specs.All.{all_map, at_all}
use Rattle.base_lists.specs.Sums.{sum_most}
use Rattle.base_lists.specs.Loops.{summed_more}
use Rattle.base_lists.specs.Spare.{Spare, spare_sum}
use Rattle.spec_model.specs.Entries.{free_entry, is_held, is_kind}
use Rattle.spec_model.specs.Tables.{places}
use Rattle.spec_model.specs.declared.Entry.{Entry}
use Rattle.spec_model.specs.declared.Frame.{Frame}
use Rattle.spec_rules.specs.WellFormed.{Held}
use Rattle.law_model.specs.Frames.{most_slots}
use Rattle.law_steps.proofs.Places.{held_sum}
use Rattle.header_test.specs.Due.{parts_room, most_needs, Summed, PartsIn, added}

-- what an entry, a job of which needs n, adds to the sum of m parts
abbrev pub adds : (n m : ℕ) → Entry → ℕ
adds n m e = cond (is_kind 1 e && eqb e.parts m) n 0

abbrev pub need_at : (need : Entry → ℕ) → (m : ℕ) → Entry → ℕ
need_at need m e = adds (need e) m e

-- the needs of the entries, added up by their parts
pub record SumsOf (need : Entry → ℕ) (es : List Entry) (sums : List ℕ) : Type 0 where
  pub size : length sums ≡ parts_room
  pub each : (m : ℕ) → m < parts_room → get_or sums m 0 ≡ sum_of (need_at need m) es

-- ---- one entry more
module _ (n : ℕ) (e : Entry) (sums : List ℕ) where
  added_size : length (added n e sums) ≡ length sums
  added_size = go (is_kind 1 e)
    where
      go : (b : Bool) → length (cond b (set sums e.parts (get_or sums e.parts 0 + n)) sums) ≡ length sums
      go true = length-set sums e.parts (get_or sums e.parts 0 + n)
      go false = refl

  added_at : length sums ≡ parts_room → PartsIn e → (m : ℕ) → get_or (added n e sums) m 0 ≡ get_or sums m 0 + adds n m e
  added_at s p m =
      elim (ℕ_discrete e.kind 1) [
        | yes k ↦ rw (eq-eqb e.kind 1 k) (elim (ℕ_discrete e.parts m) [
          | yes q ↦ rw (eq-eqb e.parts m q)
              (ap (λ i. get_or (set sums e.parts (get_or sums e.parts 0 + n)) i 0) (sym q)
              ∙ get_or-set_same sums e.parts (get_or sums e.parts 0 + n) 0 (omega (arith, p k)) ∙ ap (λ i. get_or sums i 0 + n) q)
          | no q ↦ rw (ne_eqb e.parts m q)
              (omega (arith, get_or-set_other sums e.parts m (get_or sums e.parts 0 + n) 0 (λ z. q (sym z))))
        ])
        | no k ↦ rw (ne_eqb e.kind 1 k) (omega arith)
      ]

module _ (need : Entry → ℕ) where
  pub sums_none : SumsOf need [] (replicate parts_room 0)
  sums_none = record { size = refl; each = λ m l. get_or-replicate {A = ℕ} parts_room m 0 0 l }

  -- entries that have one more, in whatever order
  pub sums_added : {n : ℕ} {es fs : List Entry} {sums : List ℕ} (e : Entry) → n ≡ need e → PartsIn e
      → ((m : ℕ) → sum_of (need_at need m) fs ≡ sum_of (need_at need m) es + need_at need m e)
      → SumsOf need es sums → SumsOf need fs (added n e sums)
  sums_added {n} {es} {fs} {sums} e q p f s =
      record {
        size = added_size n e sums ∙ s.size;
        each = λ m l. omega (arith, added_at n e sums s.size p m, s.each m l, f m, ap (λ v. adds v m e) q);
      }

  -- others over which the sums are the same
  pub sums_same : {es fs : List Entry} {sums : List ℕ} → ((m : ℕ) → sum_of (need_at need m) es ≡ sum_of (need_at need m) fs)
      → SumsOf need es sums → SumsOf need fs sums
  sums_same f s = record { size = s.size; each = λ m l. s.each m l ∙ f m }

  -- ---- the first places of a table
  module _ (es : List Entry) (i : ℕ) {sums : List ℕ} (d : Entry) (h : i < length es) (s : SumsOf need (take i es) sums) where
    pub sums_more : {n : ℕ} (e : Entry) → get_or es i d ≡ e → n ≡ need e → PartsIn e → SumsOf need (take (i + 1) es) (added n e sums)
    sums_more e q r p =
        sums_added e r p (λ m. sym (summed_more (need_at need m) es i d h refl (ap (need_at need m) (sym q)))) s

    -- a free place adds nothing
    pub sums_free : get_or es i d ≡ free_entry → SumsOf need (take (i + 1) es) sums
    sums_free q =
        sums_same (λ m. omega (arith, summed_more (need_at need m) es i d h refl (ap (need_at need m) (sym q)))) s

  -- behind them all are free
  pub sums_all : (n : ℕ) (es : List Entry) {sums : List ℕ} → Spare free_entry n es → SumsOf need (take n es) sums → SumsOf need es sums
  sums_all n es q s = sums_same (λ m. spare_sum free_entry (need_at need m) refl n es q) s

  -- the held entries of a table
  pub sums_held : {F : Frame} {ps : List Entry} {sums : List ℕ} → All (λ e. (e ≡ free_entry) ⊎ Held F e) ps → SumsOf need ps sums
      → SumsOf need (keep is_held ps) sums
  sums_held w s = sums_same (λ m. held_sum (need_at need m) refl w) s

  -- an entry put at a place that was free
  pub sums_put : {n : ℕ} {sums : List ℕ} (es : List Entry) (place : ℕ) (e : Entry) → place < length es → n ≡ need e → PartsIn e
      → SumsOf need (set es place free_entry) sums → SumsOf need (set es place e) (added n e sums)
  sums_put es place e h q p s = sums_added e q p (λ m. put (need_at need m) refl es place h) s
    where
      put : (f : Entry → ℕ) → f free_entry ≡ 0 → (es : List Entry) (place : ℕ) → place < length es
          → sum_of f (set es place e) ≡ sum_of f (set es place free_entry) + f e
      put f z [] place h = absurd (not-suc-le-zero h)
      put f z (x ∷ es) zero h = omega (arith, z)
      put f z (x ∷ es) (suc place) h = omega (arith, put f z es place (le_of_suc-le-suc h))

  -- ---- no sum is too large: of at most 32 entries none needs more than an interval
  pub sums_small : {es : List Entry} {sums : List ℕ} → length es ≤ places → All (λ e. e.kind ≡ 1 → need e ≤ most_slots) es
      → SumsOf need es sums → Summed sums
  sums_small {es} {sums} l w s =
      record {
        size = s.size;
        most = at_all (λ v. v ≤ most_needs) sums 0 (λ m h. omega (
          arith,
          s.each m (omega (arith, s.size)),
          sum_most (need_at need m) most_slots (all_map (one m) w),
          mul-le-mul_right most_slots l,
        ));
      }
    where
      one : (m : ℕ) (e : Entry) → (e.kind ≡ 1 → need e ≤ most_slots) → need_at need m e ≤ most_slots
      one m e f =
          elim (ℕ_discrete e.kind 1) [
            | yes k ↦ rw (eq-eqb e.kind 1 k) (part (eqb e.parts m) (f k))
            | no k ↦ rw (ne_eqb e.kind 1 k) zero-le
          ]
        where
          part : (b : Bool) → need e ≤ most_slots → cond b (need e) 0 ≤ most_slots
          part true h = h
          part false h = zero-le
