-- One interval: in step D's slots every request has, in each of its periods, what its jobs need: min + extra for kind 1, the step B and C
-- slots for a piece. Assumes nothing.
use Rattle.std.specs.Prelude.{Bool, List, get_or}
use Rattle.std.proofs.Math.Option.{none}
use Prim.Native.Nat.{ℕ}
use Rattle.spec_model.specs.Names.{same}
use Rattle.spec_model.specs.declared.Frame.{Frame}
use Rattle.spec_model.specs.declared.Name.{Name}
use Rattle.spec_model.specs.declared.Entry.{Entry}
use Rattle.spec_rules.specs.Slots.{JobName, step_d}
use Rattle.law_slots.specs.Choice.{wins}

-- the job is one of the request n
abbrev pub of_name : Name → JobName → Bool
of_name n k = same k.name n

-- how often slot x is the request's: 0 or 1
abbrev pub name_at : Frame → List Entry → Name → ℕ → ℕ
name_at F es n x = wins (of_name n) (get_or (step_d F es) x none)
