-- What many streams ask alike. Assumes nothing.
use Rattle.std.specs.Prelude.{ℕ, List, map}
use Rattle.std.specs.List.{range_with_len}
use Rattle.spec_model.specs.declared.Request.{Request}
use Rattle.spec_model.specs.ByNumbers.{request}

-- what q asks, by this stream
abbrev pub asked_by : Request → ℕ → Request
asked_by q s = request s q.kind q.period q.min q.max q.life

-- by n streams, from q's on
abbrev pub asked_each : Request → ℕ → List Request
asked_each q n = map (asked_by q) (range_with_len q.name.stream n)
