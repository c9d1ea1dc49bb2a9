-- Step C: the extras stay within what remains and within each stream's headroom; none is given while somebody is owed; and with them
-- all jobs of an interval fit it, where kind 1's minimums do. Assumes nothing.
use Rattle.std.specs.Prelude.{◌≡◌, ℕ}
use mathlib.Core.List.{List}
use Rattle.spec_model.specs.declared.Entry.{Entry}
use Rattle.spec_model.specs.declared.Frame.{Frame}
use Rattle.spec_rules.specs.Share.{slots_for, headroom}
use Rattle.spec_rules.specs.Share.{step_c}
use Rattle.law_steps.specs.StepB.{step_b_of}

-- what step C gives an entry
abbrev pub step_c_of : Frame → List Entry → Entry → ℕ
step_c_of F es e = slots_for e.name (step_c F es)

-- its d
abbrev pub headroom_of : Frame → List Entry → Entry → ℕ
headroom_of F es e = headroom e (step_b_of F es e)

-- b is the whole of what an entry is owed
abbrev pub Paid : ℕ → Entry → Type 0
Paid b e = b ≡ e.owed.0
