-- `row_write::put_number` meets its contract. The invariant: to write the digits that are left gives what all of them give.
-- Assumes nothing.
use mathlib.Core.Path.{◌≡◌, refl, ap, ◌∙◌}
use Prim.Native.Nat.{◌+◌, max}
use native.Mathlib.Omega.{arith}
use lib.ListN.{length, length-set, drop_of_length-le}
use Rattle.spec_shelf.specs.Bytes.{tens, decimal}
use Rattle.row_write.specs.Powers.{tens_positive, one_digit}
use Rattle.row_write.specs.BytesLaws.{digit_next, digit_none, wrote_all, wrote_byte, contract}
use Rattle.row_write.proofs.put_number.Goals as goal
use Rattle.row_write.proofs.put_number.Goals.{then-p-n, else-p-n}

pub returns-then-n-lt10 : goal.returns-then-n-lt10
returns-then-n-lt10 c =
    contract (rw (one_digit c.args.n (omega arith)) (wrote_byte c.args.out.now c.args.at (48 + c.args.n) (omega arith)))

pub loop-i-init : goal.loop-i-init
unfolding decimal
loop-i-init c = ((omega arith, refl, omega arith), record { place = refl; memory = refl })

pub nonzero_div-out : goal.nonzero_div-out
nonzero_div-out c = tens_positive c.loop-i.i (omega arith)

pub loop-i-preserved : goal.loop-i-preserved
loop-i-preserved c =
    let n = c.args.n in
    let i = c.loop-i.i in
    let left = c.loop-i.invariant.1 in
    elim c.if-p-n.branch [
      | then-p-n w ↦
          let k : length c.if-p-n.out ≡ length c.loop-i.out = ap length w.out-is ∙ length-set c.loop-i.out _ _ in
          (omega arith, rw (w.out-is, w.end-is) (digit_next n (max 1 n) i (omega arith) (omega arith) (omega arith) left))
      | else-p-n w ↦
          let k : length c.if-p-n.out ≡ length c.loop-i.out = ap length w.out-is in
          (omega arith, rw (w.out-is, w.end-is) (digit_none n (max 1 n) i (omega arith) (omega arith) left))
    ]

pub returns : goal.returns
returns c = wrote_all (rw (drop_of_length-le tens {i = c.loop-i.i} (omega arith)) at c.loop-i.invariant.1)
