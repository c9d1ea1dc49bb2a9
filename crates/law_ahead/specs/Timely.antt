-- Where the entries can be served in time: kind 1 leaves something of every interval to come, and in what it leaves there is room for the
-- others. Step B is a greedy step of the theory, so an interval keeps that and misses no deadline; and after an interval without a miss it
-- shows that it was so before it. Assumes nothing.
use Rattle.std.specs.Prelude.{cond, List, ℕ, ◌-◌, ◌≤◌}
use Rattle.spec_lists.specs.Lists.{sum_of}
use Rattle.base_edf.specs.Edf.{Room}
use Rattle.spec_model.specs.Entries.{is_piece}
use Rattle.spec_model.specs.declared.Entry.{Entry}
use Rattle.spec_model.specs.declared.Frame.{Frame}
use Rattle.spec_model.specs.Frames.{room_in}
use Rattle.law_steps.specs.Sources.{source_of, load_at}
use Rattle.law_steps.specs.StepB.{step_b_of}

-- what kind 1 takes of the interval t intervals on, and what it leaves
abbrev pub loads_at : List Entry → ℕ → ℕ
loads_at es t = sum_of (λ (e : Entry). load_at e t) es

abbrev pub spare_at : Frame → List Entry → ℕ → ℕ
spare_at F es t = room_in F - loads_at es t

pub record Timely (F : Frame) (es : List Entry) : Type 0 where
  pub load : (t : ℕ) → loads_at es t ≤ room_in F
  pub room : Room source_of es (spare_at F es)

-- what step B gives an entry; nothing to kind 1
abbrev pub piece_of : Frame → List Entry → Entry → ℕ
piece_of F es e = cond (is_piece e) (step_b_of F es e) 0
