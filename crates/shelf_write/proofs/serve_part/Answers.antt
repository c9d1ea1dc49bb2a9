use Rattle.std.proofs.Common.{arith}
use Rattle.shelf_state.specs.Parts.{part_some}
use Rattle.shelf_write.specs.Taken.{took_rows}
use Rattle.shelf_write.proofs.serve_part.Goals as goal

pub returns-clause-some : goal.returns-clause-some
returns-clause-some g c =
    let e = c.serve_rows-part.ensures in
    part_some c.args.s c.args.chunk.now c.serve_rows-part.result.taken 0 c.requires.chunk_nonzero c.requires.answer_most_in_bounds e.is.1.0 e.far.1.1

pub returns-clause-took : goal.returns-clause-took
returns-clause-took g c =
    let e = c.serve_rows-part.ensures.is.1 in
    took_rows c.args.out.now {n = c.serve_rows-part.result.at} c.put-handed.ensures.took (omega (arith, e.0)) e.1.0
