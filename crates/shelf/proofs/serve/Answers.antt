use Rattle.std.proofs.Common.{◌≡◌, true, ap₂, ◌∙◌, arith, rules, length, take}
use Rattle.spec_shelf.specs.Printed.{header_row}
use Rattle.shelf_write.specs.Taken.{first_written, took_rows}
use Rattle.shelf.specs.Streams.{stopped, stopped_early}
use Rattle.shelf.proofs.serve.Goals as goal

pub returns-then-not-header : goal.returns-then-not-header
returns-then-not-header g c =
    stopped_early _ (took_rows _ {n = c.header_row-at.result} c.put-header.ensures.took (omega (arith, c.header_row-at.ensures.0)) c.header_row-at.ensures.1)

pub serve_all-all-requires-clause-header_value : goal.serve_all-all-requires-clause-header_value
serve_all-all-requires-clause-header_value g c =
    let n : c.put-header.result.bytes ≡ length header_row = omega (arith, c.header_row-at.ensures.0) in
    (n, ap₂ take n c.header_row-at.ensures.1 ∙ first_written _ header_row)

pub returns : goal.returns
returns g c =
    let all = c.serve_all-all in
    let well : c.put-header.result.well ≡ true = grind arith in
    let header = took_rows _ {n = c.header_row-at.result} c.put-header.ensures.took (omega (arith, c.header_row-at.ensures.0)) c.header_row-at.ensures.1 in
    rw c.stop_of.ensures (stopped all.result.got well header all.ensures.streams all.ensures.all.1 (all.ensures.end (search rules)))
