-- `row_print::plain_row` meets its contract: verb, four empty fields, answer and end of the row. Assumes nothing.
use native.Mathlib.Omega.{arith}
use Rattle.spec_shelf.specs.Printed.{plain_row}
use Rattle.row_write.specs.BytesLaws.{field_most, wrote, contract, wrote_then}
use Rattle.row_print.proofs.plain_row.Goals as goal

pub put_bytes-requires : goal.put_bytes-requires
put_bytes-requires c = omega (arith, field_most)

pub returns : goal.returns
unfolding plain_row
returns c =
    contract
    (wrote_then
    (wrote_then
    (wrote c.put_bytes-second.ensures)
    (wrote_then (wrote c.put_bytes-last.ensures) (wrote c.put_field-end.ensures)))
    (wrote c.put_bytes.ensures))
