-- Rows of jobs as they are given: who they are of, how long they are, and what they need, sixteen in each row. Assumes nothing.
use Rattle.std.specs.Prelude.{◌≡◌, List, ◌++◌, map, ℕ, ◌-◌, ◌≤◌, length, get_or, replicate}
use Rattle.std.proofs.Common.{◌∙◌, arith, length-append}
use Rattle.std.proofs.lemmas.List.{length-map, length-replicate}
use Rattle.std.proofs.Math.ListN.{get_or-map}
use Rattle.spec_lists.specs.All.{All}
use Rattle.base_lists.specs.All.{all_map, all_of_map}
use Rattle.spec_model.specs.Names.{nobody}
use Rattle.spec_model.specs.Tables.{places}
use Rattle.spec_model.specs.declared.Name.{Name}
use Rattle.beacon_plan.specs.declared.JobRow.{JobRow}
use Rattle.beacon_plan.specs.Rows.{few_runs, Rows, row_plan}
use Rattle.beacon_plan.specs.RowLaws.{Wide, plan_few}

-- count jobs of one need
abbrev pub needs_row : (count need : ℕ) → List ℕ
needs_row count need = replicate count need ++ replicate (16 - count) 0

-- ---- the rows as lists: columns of figures
abbrev pub names_of : List JobRow → List Name
names_of rs = map (λ r. r.name) rs

abbrev pub lengths_of : List JobRow → List ℕ
lengths_of rs = map (λ r. r.length.0) rs

abbrev pub needs_of : List JobRow → List (List ℕ)
needs_of rs = map (λ r. needs_row r.count r.need.0) rs

-- what is read past the last of them
abbrev pub no_row : JobRow
no_row = record { name = nobody; length = record { 0 = 0 }; count = 0; need = record { 0 = 0 } }

pub name_at : (rs : List JobRow) (i : ℕ) → get_or (names_of rs) i nobody ≡ (get_or rs i no_row).name
name_at rs i = get_or-map (λ (r : JobRow). r.name) rs i no_row

pub length_at : (rs : List JobRow) (i : ℕ) → get_or (lengths_of rs) i 0 ≡ (get_or rs i no_row).length.0
length_at rs i = get_or-map (λ (r : JobRow). r.length.0) rs i no_row

-- at most sixteen jobs in each row, and a row for each place at most
pub record Few (rs : List JobRow) : Type 0 where
  pub rows : length rs ≤ places
  pub jobs : All (λ r. r.count ≤ 16) rs

pub length_row : (j v : ℕ) → j ≤ 16 → length (needs_row j v) ≡ 16
length_row j v h =
    length-append (replicate j v) (replicate (16 - j) 0)
    ∙ omega (arith, length-replicate {A = ℕ} j v, length-replicate {A = ℕ} (16 - j) 0)

pub wide_needs : {rs : List JobRow} → Few rs → Wide (needs_of rs)
wide_needs f = all_of_map (λ r. needs_row r.count r.need.0) (all_map (λ r h. length_row r.count r.need.0 h) f.jobs)

-- the plan of rows has few runs
pub rows_few : {b : ℕ} (h : ℕ) {rs : List JobRow} → Rows b (names_of rs) (lengths_of rs) (needs_of rs) → Few rs
    → length (row_plan b h (names_of rs) (lengths_of rs) (needs_of rs)) ≤ few_runs
rows_few h r f = plan_few h r (simp length-map f.rows) (wide_needs f)
