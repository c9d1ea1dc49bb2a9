-- The header test, spec_rules/Header: what it says as numbers; that between period ends nothing more is due; that without a header it passes
-- wherever the needs fit the interval; and that it passes on for fewer entries and for smaller needs. Assumes nothing.
use Rattle.std.specs.Prelude.{◌≡◌, List}
use Prim.Native.Nat.{ℕ, suc, ◌+◌, ◌*◌, ◌≤◌, ◌<◌}
use Rattle.spec_lists.specs.All.{All}
use Rattle.spec_model.specs.Frames.{slots_in, header_in, part_of}
use Rattle.spec_model.specs.declared.Frame.{Frame}
use Rattle.spec_model.specs.declared.Entry.{Entry}
use Rattle.spec_rules.specs.Header.{due_by}

-- ---- periods of kind 1 fill the interval
abbrev pub Whole : Frame → Entry → Type 0
Whole F e = e.kind ≡ 1 → part_of F e.parts * e.parts ≡ slots_in F

-- ---- what it says
-- P holds at the period ends of an entry
abbrev pub AtEnd : Frame → (ℕ → Type 0) → Entry → Type 0
AtEnd F P e = e.kind ≡ 1 → (j : ℕ) → j < e.parts → P (suc j * part_of F e.parts)

abbrev pub AtEnds : Frame → (ℕ → Type 0) → List Entry → Type 0
AtEnds F P es = All (AtEnd F P) es

module _ (F : Frame) (need : Entry → ℕ) (es : List Entry) where
  -- at t there is room for what is due by then, after the header
  abbrev pub RoomBy : ℕ → Type 0
  RoomBy t = due_by F need es t + header_in F ≤ t
