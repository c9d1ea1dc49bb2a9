-- What an interval is: one thing, which definitions and laws hand on. Its figures are read by these names. Document 01, "Units and one
-- request" and "One beacon"; document 02, No. 1. Assumes nothing.
use Rattle.std.specs.Prelude.{ℕ, ◌-◌, ◌/◌}
use Rattle.spec_model.specs.declared.Frame.{Frame}

-- the slots of an interval, B
abbrev pub slots_in : Frame → ℕ
slots_in F = F.slots.0

-- those of its header, h: slots 0 to h-1
abbrev pub header_in : Frame → ℕ
header_in F = F.header.0

-- those that a plan may give
unfoldable pub room_in : Frame → ℕ
room_in F = slots_in F - header_in F

-- the slots of a period of kind 1, B/m
abbrev pub part_of : Frame → (m : ℕ) → ℕ
part_of F m = slots_in F / m
