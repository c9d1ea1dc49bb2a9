-- The invariant: the first places have passed the end.
use Rattle.base_lists.specs.Loops.{mapped}
use Rattle.std.proofs.Common.{◌≡◌}
use Rattle.ahead_pass.specs.Passed.{passed_end}
use Rattle.ahead_pass.proofs.pass_ends.Given as goal

abbrev pub invariant-loop-f : goal.invariant-loop-f
invariant-loop-f l = l.f-items ≡ mapped (passed_end l.at.0) l.f-index l.initial.f-items
