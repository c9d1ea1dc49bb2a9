-- Where the entries fit, the plans to come are an assignment that serves them: every interval gives each stream its minimum, or what
-- step B takes, and misses no deadline; and after it the entries fit again. So looking ahead is exact. Assumes nothing.
use Rattle.std.specs.Prelude.{List, ℕ, zero, suc, get_or}
use Rattle.std.proofs.Math.Option.{Option, none, some}
use Rattle.spec_model.specs.declared.Frame.{Frame}
use Rattle.spec_model.specs.declared.Name.{Name}
use Rattle.spec_model.specs.declared.Entry.{Entry}
use Rattle.spec_rules.specs.Share.{step_b, step_c}
use Rattle.spec_rules.specs.Slots.{Slot, step_d}
use Rattle.law_ahead.specs.Moved.{moved}
use Rattle.spec_demand.specs.Assignment.{Assignment}

-- the entries k intervals on, as beacons leave them
unfoldable pub entries_after : Frame → ℕ → List Entry → List Entry
entries_after F zero es = es
entries_after F (suc k) es = entries_after F k (moved (step_b F es) (step_c F es) es)

abbrev pub holder_of : Slot → Option Name
holder_of none = none
holder_of (some k) = some k.name

-- the plans to come
unfoldable pub plans_ahead : Frame → List Entry → Assignment
plans_ahead F es k x = holder_of (get_or (step_d F (entries_after F k es)) x none)
