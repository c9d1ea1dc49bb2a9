-- Rows of jobs, one row for each request of an interval, in the order of the tie rules: their jobs, and the plan of these by steps D
-- and E. What is asked of rows. Assumes nothing.
use Rattle.std.specs.Prelude.{◌≡◌, Bool, List, [], ◌∷◌, ◌++◌, ℕ, suc, ◌*◌, ◌-◌, ◌≤◌, ltb, length, drop, replicate}
use Rattle.spec_lists.specs.Lists.{keep}
use Rattle.spec_lists.specs.All.{All}
use Rattle.spec_rules.specs.Slots.{Job, job_at, slots_from, Run, runs_from}
use Rattle.spec_model.specs.Tables.{places}
use Rattle.spec_model.specs.declared.Name.{Name}
use Rattle.law_model.specs.Frames.{most_slots}
use Rattle.law_slots.specs.Choice.{Keys}

-- the most runs of a row of sixteen jobs for each place
abbrev pub few_runs : ℕ
few_runs = 31 * places

-- the jobs of one row, from job j on, each with its own need
unfoldable pub row_from : Name → (T j : ℕ) → List ℕ → List Job
row_from s T j [] = []
row_from s T j (n ∷ ns) = job_at s T n j ∷ row_from s T (suc j) ns

-- the jobs of the rows in order
unfoldable pub row_jobs : List Name → (lengths : List ℕ) (needs : List (List ℕ)) → List Job
row_jobs [] Ts nss = []
row_jobs (s ∷ ss) [] nss = []
row_jobs (s ∷ ss) (T ∷ Ts) [] = []
row_jobs (s ∷ ss) (T ∷ Ts) (ns ∷ nss) = row_from s T 0 ns ++ row_jobs ss Ts nss

-- the plan of an interval of b slots, of which the first h are its header's
unfoldable pub row_plan : (b h : ℕ) → List Name → (lengths : List ℕ) (needs : List (List ℕ)) → List Run
row_plan b h ss Ts nss = runs_from h (slots_from (b - h) h (row_jobs ss Ts nss))

-- jobs of T slots, at most sixteen of them in b slots
pub record Length (b T : ℕ) : Type 0 where
  pub some : 1 ≤ T
  pub most : T ≤ b
  pub few : b ≤ 16 * T

-- those that need something
abbrev pub unfinished : Job → Bool
unfinished j = ltb 0 j.need

-- no two jobs that need something have one name; rows of free places need nothing, so there names may be the same
pub record Rows (b : ℕ) (ns : List Name) (lengths : List ℕ) (needs : List (List ℕ)) : Type 0 where
  pub short : b ≤ most_slots
  pub each : All (Length b) lengths
  pub names : Keys (keep unfinished (row_jobs ns lengths needs))

-- an array with an element for each of as many rows as there are places, which is d from `rows` on
abbrev pub Padded : {A : Type 0} (rows : ℕ) (d : A) → List A → Type 0
Padded rows d xs = (length xs ≡ places) × ((rows ≤ places) × All (λ x. x ≡ d) (drop rows xs))

-- every row from `rows` on has jobs as long as the interval, which need nothing
pub record Spare (b rows : ℕ) (Ts : List ℕ) (nss : List (List ℕ)) : Type 0 where
  pub lengths : All (λ T. T ≡ b) (drop rows Ts)
  pub needs : All (λ ns. ns ≡ replicate 16 0) (drop rows nss)
