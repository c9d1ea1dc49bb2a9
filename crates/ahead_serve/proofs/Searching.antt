-- The search for the lowest rank that is owed something: what is known after i places. Assumes nothing.
use mathlib.Core.Path.{◌≡◌, refl, ap}
use mathlib.Core.List.{List, [], ◌∷◌}
use Prim.Native.Nat.{ℕ, zero, suc, ◌+◌, ◌≤◌, ◌<◌}
use native.Mathlib.Nat.{not-suc-le-zero}
use native.Mathlib.Omega.{arith}
use lib.ListN.{length, get_or}
use borrow.Author.Count.{below_none, below_more}
use Rattle.spec_lists.specs.All.{and}
use Rattle.base_lists.specs.All.{all_at}
use Rattle.base_lists.specs.Spare.{Spare}
use Rattle.spec_model.specs.Tables.{places}
use Rattle.table_queue.specs.Queues.{no_rank}
use Rattle.ahead_figures.specs.Arrays.{table_of, table_at}
use Rattle.ahead_figures.specs.Columns.{figures_at}
use Rattle.ahead_figures.specs.declared.Figures.{Figures}
use Rattle.ahead_serve.specs.Serving.{Ranked, First}

-- who is owed something stands before the spare places
owed_used : (n j : ℕ) (owed : List ℕ) → Spare 0 n owed → 0 < get_or owed j 0 → j < n
owed_used n j [] h l = absurd (omega arith)
owed_used zero zero (o ∷ owed) (and e h) l = omega arith
owed_used zero (suc j) (o ∷ owed) (and e h) l = absurd (not-suc-le-zero (owed_used zero j owed h l))
owed_used (suc n) zero (o ∷ owed) h l = omega arith
owed_used (suc n) (suc j) (o ∷ owed) h l = omega (arith, owed_used n j owed h l)

-- the lowest rank so far and its place; nobody's rank where nobody is owed anything
pub record Searching (ranks owed : List ℕ) (i first least : ℕ) : Type 0 where
  pub found : (least ≡ no_rank → ⊥) → (first < i) × (0 < get_or owed first 0) × (get_or ranks first 0 ≡ least)
  pub passed : (j : ℕ) → j < i → 0 < get_or owed j 0 → least ≤ get_or ranks j 0

module _ {ranks owed : List ℕ} where
  pub searching_none : Searching ranks owed 0 0 no_rank
  searching_none = record { found = λ h. absurd (h refl); passed = below_none _ }

  module _ {i first least : ℕ} (s : Searching ranks owed i first least) where
    pub searching_better : {r : ℕ} → get_or ranks i 0 ≡ r → r < least → 0 < get_or owed i 0 → Searching ranks owed (i + 1) i r
    searching_better {r} q l o =
        record { found = λ h. (omega arith, o, q); passed = below_more _ i (λ j k p. omega (arith, s.passed j k p)) (λ p. omega arith) }

    pub searching_passed : (0 < get_or owed i 0 → least ≤ get_or ranks i 0) → Searching ranks owed (i + 1) first least
    searching_passed l =
        record { found = λ h. (let f = s.found h in (omega (arith, f.0), f.1, f.2)); passed = below_more _ i s.passed l }

    -- every rank is below nobody's: one that is owed something was found
    module _ {used : ℕ} (w : Ranked ranks owed used) (h : used ≡ i) where
      lowest : (j : ℕ) → 0 < get_or owed j 0 → (least < no_rank) × (least ≤ get_or ranks j 0)
      lowest j p =
          let l = owed_used used j owed w.owing.spare p in
          let low = s.passed j (omega arith) p in
          let most = all_at (λ r. r < no_rank) ranks 0 w.small j (omega (arith, w.owing.keyed, w.owing.short)) in
          (omega arith, low)

      pub searching_nobody : least ≡ no_rank → First ranks owed places
      searching_nobody l = record { some = λ k. absurd (omega arith); least = λ j p. absurd (omega (arith, (lowest j p).0)) }

      pub searching_some : (least ≡ no_rank → ⊥) → (first < used) × First ranks owed first
      searching_some l =
          let f = s.found l in (
            omega (arith, f.0),
            record { some = λ k. f.1; least = λ j p. (omega (arith, f.0, w.owing.short), omega (arith, f.2, (lowest j p).1)) },
          )

-- ---- a turn, by the figures of its place
module _ (fs : List Figures) {i first least : ℕ} (s : Searching (table_of fs).ranks (table_of fs).owed i first least)
    (h : i < length fs) (d : Figures) where
  same : (g : Figures → ℕ) → g (figures_at (table_of fs) i) ≡ g (get_or fs i d)
  same g = ap g (table_at fs i d h)

  pub turn_better : (get_or fs i d).rank < least → 0 < (get_or fs i d).owed.0 → Searching (table_of fs).ranks (table_of fs).owed (i + 1) i (get_or fs i d).rank
  turn_better l o = searching_better s (same (λ f. f.rank)) l (omega (arith, same (λ f. f.owed.0)))

  pub turn_paid : (get_or fs i d).owed.0 ≤ 0 → Searching (table_of fs).ranks (table_of fs).owed (i + 1) first least
  turn_paid o = searching_passed s (λ p. absurd (omega (arith, same (λ f. f.owed.0))))

  pub turn_higher : least ≤ (get_or fs i d).rank → Searching (table_of fs).ranks (table_of fs).owed (i + 1) first least
  turn_higher l = searching_passed s (λ p. omega (arith, same (λ f. f.rank)))
