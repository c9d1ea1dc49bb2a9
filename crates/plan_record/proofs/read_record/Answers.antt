-- `plan_record::read_record` meets its contract: the words that are read, each in its place. Assumes nothing.
use mathlib.Core.Path.{sym}
use Prim.Native.Nat.{◌*◌}
use Rattle.spec_rules.specs.Records.{record_words}
use Rattle.plan_record.specs.Recorded.{one_read}
use Rattle.plan_record.proofs.read_record.Goals as goal

pub returns : goal.returns
returns c =
    let a = c.before.before.before.before.args in
    sym (one_read a.plan.now (record_words * a.n))
