-- Step B: kinds 2 and 3 in their order take what they are owed. It is a greedy service by earliest deadline; in all it gives the smaller
-- of the capacity and what is owed; and what one takes has a closed form, which needs no order: the smaller of what it is owed and
-- what those before it leave. Assumes nothing.
use Rattle.std.specs.Prelude.{cond, List, ℕ}
use Rattle.spec_lists.specs.Lists.{sum_of}
use Rattle.base_edf.specs.Edf.{Source, source}
use Rattle.spec_model.specs.Entries.{is_piece}
use Rattle.spec_model.specs.declared.Entry.{Entry}
use Rattle.spec_model.specs.declared.Frame.{Frame}
use Rattle.spec_rules.specs.Share.{slots_for, sooner, order, take_turns, step_b}

-- what step B gives an entry
abbrev pub step_b_of : Frame → List Entry → Entry → ℕ
step_b_of F es e = slots_for e.name (step_b F es)

-- what an entry is owed, and when
abbrev pub owing : Entry → Source
owing e = source e.owed.0 e.left.0 0 0 0

-- of the capacity c, in the order of step B
abbrev pub turns_of : ℕ → List Entry → Entry → ℕ
turns_of c es e = slots_for e.name (take_turns c (order es))

-- ---- the closed form
-- what is owed to those that come before x
abbrev pub owed_before : Entry → List Entry → ℕ
owed_before x es = sum_of (λ (f : Entry). cond (is_piece f) (cond (sooner f x) f.owed.0 0) 0) es
