use Rattle.std.proofs.Common.{arith}
use Rattle.shelf_state.specs.Sizes.{last_most}
use Rattle.shelf_write.specs.Taken.{took_rows}
use Rattle.shelf_write.proofs.serve_last.Goals as goal

pub put-requires : goal.put-requires
put-requires g c =
    let m = last_most c.args.s c.requires.ready in
    let k = c.finish-at.auto.out in
    omega (arith, c.finish-at.ensures.0)

pub returns-clause-took : goal.returns-clause-took
returns-clause-took g c =
    took_rows c.args.out.now {n = c.finish-at.result} c.put.ensures.took (omega (arith, c.finish-at.ensures.0)) c.finish-at.ensures.1.0
