-- The held entries over an interval: those that stay are held, no name stands twice among them, a sum over them is the sum over
-- the entries before, each as the interval left it, and the longest life is one shorter. Assumes nothing.
use Rattle.std.specs.Prelude.{List, ℕ}
use Rattle.spec_lists.specs.Lists.{keep}
use Rattle.spec_lists.specs.All.{All}
use Rattle.spec_model.specs.Entries.{is_held}
use Rattle.spec_model.specs.declared.Entry.{Entry}
use Rattle.spec_model.specs.declared.Frame.{Frame}
use Rattle.spec_rules.specs.Share.{Grant, slots_for}
use Rattle.spec_rules.specs.Ahead.{step_f}
use Rattle.spec_rules.specs.WellFormed.{Held, Once}
use Rattle.law_steps.specs.Settled.{after, Granted}

-- entries that can stand in a table together
pub record Together (F : Frame) (es : List Entry) : Type 0 where
  pub held : All (Held F) es
  pub once : Once es

-- an entry after an interval that gave bs and, beside what is owed, cs
abbrev pub step_of : (bs cs : List Grant) → Entry → Entry
step_of bs cs e = after (slots_for e.name bs) (slots_for e.name cs) e

-- those that are still held
abbrev pub moved : (bs cs : List Grant) → List Entry → List Entry
moved bs cs es = keep is_held (step_f bs cs es)

-- these slots may be given
abbrev pub MayGive : (bs cs : List Grant) → List Entry → Type 0
MayGive bs cs es = All (λ e. Granted (slots_for e.name bs) (slots_for e.name cs) e) es

abbrev pub life_of : Entry → ℕ
life_of e = e.life_left.0
