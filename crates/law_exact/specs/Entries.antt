-- When an assignment serves an entry of a table: document 01, "What a list of calls gives". Assumes nothing.
use Rattle.std.specs.Prelude.{◌≡◌, ◌≢◌, ℕ, suc, ◌+◌, ◌*◌, ◌≤◌, ◌<◌}
use Rattle.spec_lists.specs.Lists.{span}
use Rattle.spec_model.specs.Frames.{slots_in, part_of}
use Rattle.spec_model.specs.Entries.{asks}
use Rattle.spec_model.specs.declared.Frame.{Frame}
use Rattle.spec_model.specs.declared.Entry.{Entry}
use Rattle.spec_demand.specs.Assignment.{Assignment, assigned}

-- where only a table is at hand, what is left of the minimum of the period that runs is the entry's owed
pub record ServesEntry (F : Frame) (a : Assignment) (e : Entry) : Type 0 where
  -- kind 1: each period j of each coming interval k of its life
  pub fractions :
      e.kind ≡ 1 → (k j : ℕ) → k < e.life_left.0 → j < e.parts
      → asks e ≤ assigned a e.name k (j * (part_of F e.parts)) (suc j * (part_of F e.parts))
  -- kinds 2 and 3: the period that runs, and each later one in its life
  pub running : e.kind ≢ 1 → e.owed.0 ≤ span (λ k. assigned a e.name k 0 (slots_in F)) 0 e.left.0
  pub later :
      e.kind ≢ 1 → (i : ℕ) → e.left.0 + suc i * e.period.0 ≤ e.life_left.0
      → asks e ≤ span (λ k. assigned a e.name k 0 (slots_in F)) (e.left.0 + i * e.period.0) (e.left.0 + suc i * e.period.0)
