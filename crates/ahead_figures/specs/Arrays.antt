-- Arrays of figures as looking ahead keeps them, those of the first places, and the columns of a whole table that they stand for. Assumes
-- nothing.
use Rattle.std.specs.Prelude.{◌≡◌, refl, List, [], ◌∷◌, ◌++◌, map, ℕ, zero, suc, ◌+◌, ◌-◌, ◌≤◌, ◌<◌, length, take, set, get_or, replicate, sum_by}
use Rattle.std.proofs.Common.{sym, ap, ap₂, ◌∙◌, arith, length-append}
use Rattle.std.proofs.lemmas.List.{length-map, length-take-le, length-replicate, map-append, get_or_append_left, get_or_default}
use Rattle.std.proofs.lemmas.List.Sums.{sum_by-cons}
use Rattle.std.proofs.lemmas.Simd.{map-map}
use Rattle.spec_lists.specs.Lists.{sum_of}
use Rattle.base_lists.specs.Spare.{Spare, begun_all}
use Rattle.base_lists.specs.Loops.{mapped, mapped_more, mapped_at}
use Rattle.spec_model.specs.Entries.{free_entry}
use Rattle.spec_model.specs.declared.Entry.{Entry}
use Rattle.spec_model.specs.Tables.{places}
use Rattle.law_model.specs.Loads.{load_of_free}
use Rattle.law_steps.proofs.Ranks.{rank_free}
use Rattle.ahead_figures.specs.Figures.{never, figures_of}
use Rattle.ahead_figures.specs.Columns.{Columns, columns, Sized, figures_at, columns_of}
use Rattle.ahead_figures.specs.declared.Figures.{Figures}

-- the figures of a free place
abbrev pub free_figures : Figures
free_figures =
    record {
      rank = 0;
      owed = record { 0 = 0 };
      end = record { 0 = never };
      life = record { 0 = 0 };
      load = record { 0 = 0 };
      begin = record { 0 = 0 };
      period = record { 0 = 0 };
    }

-- those of all places, by those of the first ones: the others are free
abbrev pub padded : List Figures → List Figures
padded fs = fs ++ replicate (places - length fs) free_figures

-- an array's columns
abbrev pub columns_in : List Figures → Columns
columns_in fs =
    columns (map (λ (f : Figures). f.rank) fs) (map (λ (f : Figures). f.owed.0) fs) (map (λ (f : Figures). f.end.0) fs)
    (map (λ (f : Figures). f.life.0) fs) (map (λ (f : Figures). f.load.0) fs) (map (λ (f : Figures). f.begin.0) fs)
    (map (λ (f : Figures). f.period.0) fs)

-- the columns of the table whose first places have these figures
abbrev pub table_of : List Figures → Columns
table_of fs = columns_in (padded fs)

-- ---- the figures of entries
pub free_is : free_figures ≡ figures_of free_entry
free_is = rw (rank_free, load_of_free)

pub columns_in_of : (es : List Entry) → columns_in (map figures_of es) ≡ columns_of es
columns_in_of es = simp map-map

-- ---- an array of all places
pub length_padded : (fs : List Figures) → length fs ≤ places → length (padded fs) ≡ places
length_padded fs h =
    omega (arith, length-append fs (replicate (places - length fs) free_figures), length-replicate (places - length fs) free_figures)

pub sized_in : (fs : List Figures) → length fs ≡ places → Sized (columns_in fs)
sized_in fs n =
    record {
      ranks = length-map fs _ ∙ n;
      owed = length-map fs _ ∙ n;
      ends = length-map fs _ ∙ n;
      lives = length-map fs _ ∙ n;
      loads = length-map fs _ ∙ n;
      begins = length-map fs _ ∙ n;
      periods = length-map fs _ ∙ n;
    }

pub figures_in : (fs : List Figures) (i : ℕ) → i < length fs → figures_at (columns_in fs) i ≡ get_or fs i free_figures
figures_in [] i h = absurd (omega arith)
figures_in (f ∷ fs) zero h = refl
figures_in (f ∷ fs) (suc i) h = figures_in fs i (omega arith)

-- those of the first places are the array's
pub table_at : (fs : List Figures) (i : ℕ) (d : Figures) → i < length fs → figures_at (table_of fs) i ≡ get_or fs i d
table_at fs i d h =
    let more = replicate (places - length fs) free_figures in
    figures_in (padded fs) i (omega (arith, length-append fs more)) ∙ get_or_append_left fs more free_figures i h ∙ get_or_default fs i free_figures d h

-- an array of all places is that of its first ones, where the others are free
pub padded_take : (n : ℕ) (fs : List Figures) → length fs ≡ places → n ≤ places → Spare free_figures n fs → padded (take n fs) ≡ fs
padded_take n fs e h s = rw (length-take-le n fs (omega arith)) (begun_all free_figures places n fs e s)

-- ---- what a function does to each place, it does to the first ones alone, where it leaves a free place as it is
pub padded_map : (g : Figures → Figures) → g free_figures ≡ free_figures → (fs : List Figures) → padded (map g fs) ≡ map g (padded fs)
padded_map g z fs =
    rw (length-map fs g, map-append g fs (replicate (places - length fs) free_figures)) (ap (λ l. map g fs ++ l) (go (places - length fs)))
  where
    go : (n : ℕ) → replicate n free_figures ≡ map g (replicate n free_figures)
    go zero = refl
    go (suc n) = ap₂ (λ f l. f ∷ l) (sym z) (go n)

-- a sum as the library folds it
pub summed_by : (g : Figures → ℕ) (fs : List Figures) → sum_by g fs ≡ sum_of g fs
summed_by g [] = refl
summed_by g (f ∷ fs) = sum_by-cons g f fs ∙ ap (λ s. g f + s) (summed_by g fs)

-- and what is summed up over all, is over the first
pub padded_sum : (g : Figures → ℕ) → g free_figures ≡ 0 → (fs : List Figures) → sum_of g (padded fs) ≡ sum_of g fs
padded_sum g z fs = with (places - length fs) fs
  where
    none : (n : ℕ) → sum_of g (replicate n free_figures) ≡ 0
    none zero = refl
    none (suc n) = omega (arith, z, none n)

    with : (n : ℕ) (fs : List Figures) → sum_of g (fs ++ replicate n free_figures) ≡ sum_of g fs
    with n [] = none n
    with n (f ∷ fs) = ap (λ s. g f + s) (with n fs)

-- ---- a turn of a loop that puts g of each element in its place
pub mapped_turn : {A : Type 0} (g : A → A) (xs : List A) (i : ℕ) (d : A) {ys : List A} {v : A} → ys ≡ mapped g i xs → i < length xs
    → v ≡ g (get_or ys i d) → set ys i v ≡ mapped g (i + 1) xs
mapped_turn g xs i d p h q = rw (q, p, mapped_at g xs i d h) (mapped_more g xs i d h)
