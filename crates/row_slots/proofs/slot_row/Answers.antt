-- `row_slots::slot_row` meets its contract: `slot`, a name, three numbers, an empty field and the end of the row. Assumes nothing.
use native.Mathlib.Omega.{arith}
use Rattle.spec_shelf.specs.Printed.{slot_row_of}
use Rattle.row_write.specs.BytesLaws.{field_most, wrote, contract, wrote_then}
use Rattle.row_print.specs.PrintedLaws.{named_most}
use Rattle.row_slots.proofs.slot_row.Goals as goal

pub put_field-fourth-requires : goal.put_field-fourth-requires
put_field-fourth-requires c = omega (arith, named_most)

pub put_field-fifth-requires : goal.put_field-fifth-requires
put_field-fifth-requires c = omega (arith, named_most, field_most)

pub put_field-last-requires : goal.put_field-last-requires
put_field-last-requires c = omega (arith, named_most, field_most)

pub put_bytes-requires : goal.put_bytes-requires
put_bytes-requires c = omega (arith, named_most, field_most)

pub returns : goal.returns
unfolding slot_row_of
returns c =
    contract
    (wrote_then
    (wrote_then
    (wrote_then
    (wrote_then
    (wrote_then (wrote c.put_bytes-second.ensures) (wrote c.put_name-third.ensures))
    (wrote c.put_field-fourth.ensures))
    (wrote c.put_field-fifth.ensures))
    (wrote c.put_field-last.ensures))
    (wrote c.put_bytes.ensures))
