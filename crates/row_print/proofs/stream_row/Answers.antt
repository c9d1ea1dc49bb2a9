-- `row_print::stream_row` meets its contract: verb, name, three empty fields, answer and end of the row. Assumes nothing.
use native.Mathlib.Omega.{arith}
use Rattle.spec_shelf.specs.Printed.{stream_row}
use Rattle.row_write.specs.BytesLaws.{field_most, wrote, contract, wrote_then}
use Rattle.row_print.specs.PrintedLaws.{named_most}
use Rattle.row_print.proofs.stream_row.Goals as goal

pub put_bytes-last-requires : goal.put_bytes-last-requires
put_bytes-last-requires c = omega (arith, named_most)

pub put_field-end-requires : goal.put_field-end-requires
put_field-end-requires c = omega (arith, named_most)

pub put_bytes-requires : goal.put_bytes-requires
put_bytes-requires c = omega (arith, named_most, field_most)

pub returns : goal.returns
unfolding stream_row
returns c =
    contract
    (wrote_then
    (wrote_then
    (wrote_then (wrote c.put_bytes-second.ensures) (wrote c.put_name-third.ensures))
    (wrote_then (wrote c.put_bytes-last.ensures) (wrote c.put_field-end.ensures)))
    (wrote c.put_bytes.ensures))
