-- Figures added up over the first places. Assumes nothing.
use Rattle.std.specs.Prelude.{◌≡◌, length, get_or}
use Rattle.std.proofs.Math.Path.{refl}
use Rattle.std.proofs.Common.{sym, ap, ◌∙◌, add-one, arith}
use mathlib.Core.List.{List, [], ◌∷◌}
use Prim.Native.Nat.{ℕ, zero, suc, ◌+◌, ◌≤◌, ◌<◌, zero-le}
use Rattle.spec_lists.specs.Lists.{span, sum_of}
use Rattle.base_edf.specs.Time.{span_agree, span_join, span_one}
use Rattle.spec_model.specs.Entries.{free_entry}
use Rattle.spec_model.specs.declared.Entry.{Entry}
use Rattle.spec_model.specs.Tables.{places}
use Rattle.ahead_figures.specs.Arrays.{free_figures, padded, table_of, length_padded, figures_in}
use Rattle.ahead_figures.specs.Columns.{Columns, figures_at}
use Rattle.ahead_figures.specs.declared.Figures.{Figures}

-- g of each of the first n places
unfoldable pub total : ℕ → (Figures → ℕ) → Columns → ℕ
total n g c = span (λ i. g (figures_at c i)) 0 n

module _ (g : Figures → ℕ) (c : Columns) where
  pub total_none : total 0 g c ≡ 0
  unfolding total
  total_none = refl

  pub total_more : (i : ℕ) → total (i + 1) g c ≡ total i g c + g (figures_at c i)
  unfolding total
  total_more i =
      let f : ℕ → ℕ = λ j. g (figures_at c j) in
      rw (add-one i) (omega (arith, span_join f 0 i (suc i) zero-le (omega arith), span_one f i))

  -- the others add nothing
  pub total_spare : {n m : ℕ} → n ≤ m → ((i : ℕ) → n ≤ i → i < m → g (figures_at c i) ≡ 0) → total n g c ≡ total m g c
  unfolding total
  total_spare {n} {m} l h =
      let f : ℕ → ℕ = λ j. g (figures_at c j) in
      omega (arith, span_join f 0 n m zero-le l, span_agree f (λ _. 0) n m h, zeros n m)
    where
      zeros : (a b : ℕ) → span (λ _. 0) a b ≡ 0
      zeros zero zero = refl
      zeros zero (suc b) = omega (arith, zeros 0 b)
      zeros (suc a) zero = refl
      zeros (suc a) (suc b) = zeros a b

  -- of entries
  pub total_entries : (h : Entry → ℕ) (es : List Entry) → ((i : ℕ) → i < length es → g (figures_at c i) ≡ h (get_or es i free_entry))
      → total (length es) g c ≡ sum_of h es
  unfolding total
  total_entries h es q = span_agree _ (λ i. h (get_or es i free_entry)) 0 (length es) (λ i _ l. q i l) ∙ summed es
    where
      summed : (es : List Entry) → span (λ i. h (get_or es i free_entry)) 0 (length es) ≡ sum_of h es
      summed [] = refl
      summed (e ∷ es) = omega (arith, summed es)

-- of a table, by the figures of its first places
pub total_table : (g : Figures → ℕ) (fs : List Figures) → length fs ≤ places → total places g (table_of fs) ≡ sum_of g (padded fs)
unfolding total
total_table g fs h =
    ap (λ n. span (λ i. g (figures_at (table_of fs) i)) 0 n) (sym (length_padded fs h))
    ∙ span_agree _ (λ i. g (get_or (padded fs) i free_figures)) 0 (length (padded fs)) (λ i _ l. ap g (figures_in (padded fs) i l))
    ∙ summed (padded fs)
  where
    summed : (fs : List Figures) → span (λ i. g (get_or fs i free_figures)) 0 (length fs) ≡ sum_of g fs
    summed [] = refl
    summed (f ∷ fs) = omega (arith, summed fs)

-- of columns that agree in what g reads
pub total_same : (g : Figures → ℕ) (c d : Columns) (n : ℕ) → ((i : ℕ) → g (figures_at c i) ≡ g (figures_at d i)) → total n g c ≡ total n g d
unfolding total
total_same g c d n h = span_agree _ _ 0 n (λ i _ _. h i)
