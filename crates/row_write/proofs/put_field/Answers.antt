-- `row_write::put_field` meets its contract: the comma, then the number. Assumes nothing.
use native.Mathlib.Omega.{arith}
use lib.ListN.{length-set}
use Rattle.row_write.specs.BytesLaws.{wrote, contract, wrote_byte, wrote_then}
use Rattle.row_write.proofs.put_field.Goals as goal

pub put_number-requires : goal.put_number-requires
put_number-requires c = simp length-set (omega arith)

pub shape_of-out : goal.shape_of-out
shape_of-out c =
    let a = c.before.before.before.before.before.args in
    omega (arith, length-set a.out.now a.at 44)

pub returns : goal.returns
returns c =
    let w = c.before.before in
    let a = w.before.before.before.args in
    contract (wrote_then (wrote_byte a.out.now a.at 44 (omega arith)) (wrote w.put_number.ensures))
