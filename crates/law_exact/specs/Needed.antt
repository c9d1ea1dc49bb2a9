-- An assignment that leaves the headers free and serves the entries shows that they fit: each slot after the header has one taker, kind 1
-- takes at least its load of every interval, so the others get at most what it leaves, and that feeds them; and what kind 1 has had by a
-- period's end lies after the header. Assumes nothing.
use Rattle.std.specs.Prelude.{◌≡◌, ◌≢◌}
use Prim.Native.Nat.{ℕ, suc, ◌*◌, ◌≤◌, ◌<◌}
use Rattle.base_edf.specs.Necessity.{Fed}
use Rattle.spec_model.specs.Frames.{slots_in, part_of}
use Rattle.spec_model.specs.Entries.{asks}
use Rattle.spec_model.specs.declared.Frame.{Frame}
use Rattle.spec_model.specs.declared.Entry.{Entry}
use Rattle.law_steps.specs.Sources.{source_of}
use Rattle.spec_demand.specs.Assignment.{Assignment, assigned}

-- the slots of coming interval t that go to an entry
abbrev pub slots_to : Frame → Assignment → Entry → ℕ → ℕ
slots_to F a e t = assigned a e.name t 0 (slots_in F)

-- what the assignment owes an entry, in the terms of the theory
pub record Fair (F : Frame) (a : Assignment) (e : Entry) : Type 0 where
  pub fractions :
      e.kind ≡ 1 → (k j : ℕ) → k < e.life_left.0 → j < e.parts
      → asks e ≤ assigned a e.name k (j * (part_of F e.parts)) (suc j * (part_of F e.parts))
  pub piece : e.kind ≢ 1 → Fed (source_of e) (slots_to F a e)
