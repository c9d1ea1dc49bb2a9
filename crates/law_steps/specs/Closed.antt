-- What steps B and C give each held entry, in a form that needs no order of the entries and reads a table's places one by one; and how
-- large the numbers of a table can get on the way. Assumes nothing.
use Rattle.std.specs.Prelude.{Bool, cond, List}
use Prim.Native.Nat.{ℕ, ◌-◌, min}
use Rattle.spec_model.specs.declared.Entry.{Entry}
use Rattle.spec_model.specs.declared.Table.{Table}
use Rattle.spec_model.specs.declared.Frame.{Frame}
use Rattle.spec_model.specs.Tables.{held_of}
use Rattle.spec_rules.specs.Share.{capacity, headroom, takes_part}
use Rattle.spec_rules.specs.WellFormed.{Tidy}
use Rattle.law_steps.specs.StepB.{owed_before}

-- what an entry takes of the capacity c beside the entries ps: the smaller of what it is owed and what those before it leave.
-- A kind 1 stream is owed nothing, and so takes nothing
unfoldable pub takes : (c : ℕ) → List Entry → Entry → ℕ
takes c ps e = min e.owed.0 (c - owed_before e ps)

module _ (t : Table) (w : Tidy t) where
  abbrev pub F : Frame
  F = t.frame

  abbrev pub es : List Entry
  es = held_of t

  -- d of each that takes part
  abbrev pub share_in : (takes_part : Entry → Bool) → Entry → ℕ
  share_in takes_part e = cond (takes_part e) (headroom e (takes (capacity F es) t.entries e)) 0
