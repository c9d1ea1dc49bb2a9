-- What is due and what is paid by the figures of one place, and the same by the columns of a whole table, which has the figures of its first
-- places. Assumes nothing.
use Rattle.std.specs.Prelude.{◌≡◌, refl, cond, List, map, ℕ, ◌-◌, ◌<◌, eqb, length, get_or, set, replicate, sum_by}
use Rattle.std.proofs.Common.{sym, ap, ◌∙◌, length-set}
use Rattle.std.proofs.lemmas.List.{map-set, set-get_or, set-append_left, get_or_append_left}
use Rattle.std.proofs.lemmas.Simd.{map-map}
use Rattle.spec_lists.specs.Lists.{sum_of}
use Rattle.base_lists.specs.Sums.{sum_map}
use Rattle.base_lists.specs.Tests.{cond_zero}
use Rattle.spec_model.specs.Tables.{places}
use Rattle.table_queue.specs.Zips.{zip_map}
use Rattle.ahead_figures.specs.Arrays.{free_figures, padded, columns_in, table_of, padded_map, padded_sum, summed_by}
use Rattle.ahead_figures.specs.Columns.{with_owed, owing}
use Rattle.ahead_figures.specs.Figures.{never}
use Rattle.ahead_figures.specs.declared.Figures.{Figures}
use Rattle.ahead_serve.specs.Serving.{due_of, unpaid}

-- ---- one place
-- what is due there at the end `at`
abbrev pub due_at : (at : ℕ) → Figures → ℕ
due_at at f = cond (eqb f.end.0 at) f.owed.0 0

-- its figures once that is paid
abbrev pub paid_at : (at : ℕ) → Figures → Figures
paid_at at f = with_owed (cond (eqb f.end.0 at) 0 f.owed.0) f

-- ---- a table
pub due_table : (at : ℕ) (fs : List Figures) → sum_by (due_at at) fs ≡ due_of at (table_of fs).ends (table_of fs).owed
due_table at fs =
    summed_by (due_at at) fs ∙ sym (padded_sum (due_at at) (cond_zero (eqb never at)) fs)
    ∙ sym (ap (sum_of (λ v. v)) (zip_map (λ e o. cond (eqb e at) o 0) (λ (f : Figures). f.end.0) (λ f. f.owed.0) (padded fs))
    ∙ sum_map (λ v. v) (due_at at) (padded fs))

pub paid_table : (at : ℕ) (fs : List Figures)
    → table_of (map (paid_at at) fs) ≡ owing (unpaid at (table_of fs).ends (table_of fs).owed) (table_of fs)
paid_table at fs =
    ap columns_in (padded_map (paid_at at) (ap (λ o. with_owed o free_figures) (cond_zero (eqb never at))) fs)
    ∙ simp (map-map, zip_map) refl

-- another amount owed at one place
pub table_set : (fs : List Figures) (i o : ℕ) (d : Figures) → i < length fs
    → table_of (set fs i (with_owed o (get_or fs i d))) ≡ owing (set (table_of fs).owed i o) (table_of fs)
table_set fs i o d h =
    let first : padded (set fs i new) ≡ set all i new = rw (length-set fs i new) (sym (set-append_left fs more i new h)) in
    let each : columns_in (set all i new) ≡ owing (set (table_of fs).owed i o) (table_of fs) =
    rw (
      kept (λ (f : Figures). f.rank) refl,
      map-set (λ (f : Figures). f.owed.0) all i new,
      kept (λ (f : Figures). f.end.0) refl,
      kept (λ (f : Figures). f.life.0) refl,
      kept (λ (f : Figures). f.load.0) refl,
      kept (λ (f : Figures). f.begin.0) refl,
      kept (λ (f : Figures). f.period.0) refl,
    ) refl in
    ap columns_in first ∙ each
  where
    more : List Figures
    more = replicate (places - length fs) free_figures

    all : List Figures
    all = padded fs

    new : Figures
    new = with_owed o (get_or fs i d)

    kept : (g : Figures → ℕ) → g new ≡ g (get_or fs i d) → map g (set all i new) ≡ map g all
    kept g e =
        map-set g all i new ∙ ap (set (map g all) i) (e ∙ ap g (sym (get_or_append_left fs more d i h)))
        ∙ sym (map-set g all i (get_or all i d)) ∙ ap (map g) (set-get_or all i d)
