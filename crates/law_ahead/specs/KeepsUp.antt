-- Looking ahead but for the header test says yes exactly where the entries can be served in time. Assumes nothing.
use Rattle.std.specs.Prelude.{Bool, true, false, cond, ◌||◌, List, [], ℕ, zero, suc}
use Rattle.spec_lists.specs.Lists.{most_of, any_of}
use Rattle.spec_model.specs.declared.Entry.{Entry}
use Rattle.spec_model.specs.declared.Frame.{Frame}
use Rattle.spec_rules.specs.Share.{overfull, step_b}
use Rattle.spec_rules.specs.Ahead.{misses}
use Rattle.law_ahead.specs.Moved.{life_of, moved}

-- ---- n intervals
-- in none of them is E negative or a deadline missed: looking ahead but for the header test
unfoldable pub keeps_up : (n : ℕ) → Frame → List Entry → Bool
keeps_up zero F es = true
keeps_up (suc n) F es = cond (overfull F es || any_of (misses (step_b F es)) es) false (keeps_up n F (moved (step_b F es) [] es))

unfoldable pub keeps_up_ahead : Frame → List Entry → Bool
keeps_up_ahead F es = keeps_up (most_of life_of es) F es
