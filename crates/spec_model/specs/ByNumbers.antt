-- An interval, a name, a setting and a request by their numbers. Assumes nothing.
use Rattle.std.specs.Prelude.{ℕ}
use Rattle.spec_model.specs.declared.Frame.{Frame}
use Rattle.spec_model.specs.declared.Name.{Name}
use Rattle.spec_model.specs.declared.Setting.{Setting}
use Rattle.spec_model.specs.declared.Request.{Request}

abbrev pub framed : (slots header : ℕ) → Frame
framed B h = record { slots = record { 0 = B }; header = record { 0 = h } }

abbrev pub interval : (slots : ℕ) → Frame
interval B = framed B 0

abbrev pub stream : ℕ → Name
stream s = record { stream = s }

abbrev pub setting : (units header : ℕ) → Setting
setting u h = record { units = u; header = h }

abbrev pub request : (stream kind period min max life : ℕ) → Request
request s kind period min max life =
    record { name = stream s; kind = kind; period = period; min = min; max = max; life = life }
