-- `row_write::put_bytes` meets its contract. The invariant: to write the bytes that are left gives what all of them give.
-- Assumes nothing.
use mathlib.Core.Path.{refl, ◌∙◌}
use native.Mathlib.Omega.{arith}
use lib.ListN.{length-set, drop_of_length-le}
use Rattle.row_write.specs.BytesLaws.{bytes_begin, bytes_next, wrote_all}
use Rattle.row_write.proofs.put_bytes.Goals as goal

pub loop-i-init : goal.loop-i-init
loop-i-init c = (omega arith, refl, bytes_begin c.args.out.now c.args.at c.args.bytes.now)

pub loop-i-preserved : goal.loop-i-preserved
loop-i-preserved c =
    let l = c.before.before in
    let a = l.before.args in (
      omega arith,
      length-set l.loop-i.out _ _ ∙ l.loop-i.invariant.1,
      bytes_next l.loop-i.out a.at a.bytes.now l.loop-i.i (omega arith) (omega arith) l.loop-i.invariant.2,
    )

pub returns : goal.returns
returns c =
    let l = c.before in
    (refl, (wrote_all (rw (drop_of_length-le l.before.args.bytes.now {i = l.loop-i.i} (omega arith)) at l.loop-i.invariant.2)).1)
