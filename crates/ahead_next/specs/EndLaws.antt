-- Laws of the first end: the loop that looks for it, and its bounds. Assumes nothing.
use Rattle.std.specs.Prelude.{◌≡◌, refl, ◌⊎◌, List, [], ◌∷◌, ℕ, zero, suc, ◌+◌, ◌≤◌, ◌<◌, ◌-◌, min, ◌++◌, length, map, replicate, fold, sum_by, take, get_or}
use Rattle.std.proofs.Common.{sym, ap, ◌∙◌, inl, inr, ⊎_elim, not-suc-le-zero, le_of_suc-le-suc, add-one, arith}
use Rattle.spec_lists.specs.All.{All, stop, and}
use Rattle.base_lists.specs.All.{all_map}
use Rattle.base_lists.specs.Spare.{Spare}
use Rattle.ahead_figures.specs.Figures.{never}
use Rattle.spec_model.specs.Tables.{places}
use Rattle.spec_lists.specs.Lists.{sum_of}
use Rattle.base_lists.specs.Sums.{sum_map}
use Rattle.ahead_figures.specs.Arrays.{free_figures, padded, table_of, padded_sum, summed_by}
use Rattle.ahead_figures.specs.declared.Figures.{Figures}
use Rattle.ahead_next.specs.Ends.{first_end}

first_most : (es : List ℕ) → first_end es ≤ never
unfolding first_end
first_most [] = omega arith
first_most (e ∷ es) = omega (arith, first_most es)

first_suc : (es : List ℕ) (i : ℕ) → i < length es → min (get_or es i 0) (first_end (take i es)) ≡ first_end (take (suc i) es)
unfolding first_end
first_suc [] i h = absurd (not-suc-le-zero h)
first_suc (e ∷ es) zero h = refl
first_suc (e ∷ es) (suc i) h = omega (arith, first_suc es i (le_of_suc-le-suc h))

pub first_more : {v : ℕ} (es : List ℕ) (i : ℕ) → i < length es → v ≡ first_end (take i es) → min (get_or es i 0) v ≡ first_end (take (i + 1) es)
first_more es i h p = rw (add-one, p) (first_suc es i h)

-- behind the places in use nothing ends
pub first_all : (n : ℕ) (es : List ℕ) → Spare never n es → first_end (take n es) ≡ first_end es
unfolding first_end
first_all zero [] h = refl
first_all zero (e ∷ es) (and p h) = omega (arith, p, first_all zero es h)
first_all (suc n) [] h = refl
first_all (suc n) (e ∷ es) h = ap (min e) (first_all n es h)

-- the sooner of two, again and again
first_from : (m : ℕ) (fs : List Figures) → m ≤ never → fold (λ n f. min n f.end.0) m fs ≡ min m (first_end (map (λ f. f.end.0) fs))
unfolding first_end
first_from m [] h = omega arith
first_from m (f ∷ fs) h = omega (arith, first_from (min m f.end.0) fs (omega arith))

pub first_fold : (fs : List Figures) → fold (λ n f. min n f.end.0) never fs ≡ first_end (map (λ f. f.end.0) fs)
unfolding first_end
first_fold [] = refl
first_fold (f ∷ fs) = omega (arith, first_from (min never f.end.0) fs (omega arith), first_most (map (λ f. f.end.0) (f ∷ fs)))

-- ---- its bounds
pub first_least : (es : List ℕ) → All (λ e. first_end es ≤ e) es
unfolding first_end
first_least [] = stop
first_least (e ∷ es) = and {x = e} (omega arith) (all_map (λ x h. omega arith) (first_least es))

pub first_above : {m : ℕ} {es : List ℕ} → m < never → All (λ e. m < e) es → m < first_end es
unfolding first_end
first_above l stop = l
first_above l (and p h) = omega (arith, p, first_above l h)

pub first_within : (m : ℕ) {es : List ℕ} → All (λ e. (e ≤ m) ⊎ (e ≡ never)) es → (first_end es ≤ m) ⊎ (first_end es ≡ never)
unfolding first_end
first_within m stop = inr refl
first_within m (and {x = e} p h) =
    ⊎_elim (λ q. inl (omega arith)) (λ q. ⊎_elim (λ r. inl (omega arith)) (λ r. inr (omega arith)) p) (first_within m h)

-- ---- of a whole table, by the figures of its first places
first_free : (n : ℕ) → first_end (map (λ (f : Figures). f.end.0) (replicate n free_figures)) ≡ never
unfolding first_end
first_free zero = refl
first_free (suc n) = omega (arith, first_free n)

pub first_padded : (fs : List Figures) → first_end (map (λ (f : Figures). f.end.0) fs) ≡ first_end (table_of fs).ends
unfolding first_end
first_padded fs = go (places - length fs) fs
  where
    go : (n : ℕ) (gs : List Figures)
        → first_end (map (λ (f : Figures). f.end.0) gs) ≡ first_end (map (λ (f : Figures). f.end.0) (gs ++ replicate n free_figures))
    go n [] = sym (first_free n)
    go n (f ∷ gs) = ap (min f.end.0) (go n gs)

pub load_padded : (fs : List Figures) → sum_by (λ (f : Figures). f.load.0) fs ≡ sum_of (λ v. v) (table_of fs).loads
load_padded fs =
    summed_by (λ (f : Figures). f.load.0) fs ∙ sym (padded_sum (λ (f : Figures). f.load.0) refl fs)
    ∙ sym (sum_map (λ v. v) (λ (f : Figures). f.load.0) (padded fs))
