use Rattle.std.proofs.Common.{[], refl, ◌∙◌, arith}
use Rattle.shelf_write.specs.Flows.{flowed_none, flowed_part}
use Rattle.shelf.specs.Streams.{took_no_rows, took_part}
use Rattle.shelf.proofs.serve_chunk.Goals as goal

pub loop-flow-init : goal.loop-flow-init
loop-flow-init g c =
    record {
      flowed = flowed_none [] _ _ (omega arith) refl;
      ready = c.requires.ready;
      took = took_no_rows c.args.s _;
      plan = refl;
      out = refl;
    }

pub loop-flow-preserved : goal.loop-flow-preserved
loop-flow-preserved g c =
    let i = c.loop-flow.invariant in
    let p = c.serve_part-part in
    let chunk = c.args.chunk.now in
    rw c.joined-flow.ensures
    record {
      flowed = flowed_part chunk i.flowed p.ensures.is.0;
      ready = p.ensures.formed;
      took = took_part chunk p.result.taken i.flowed c.if-flow.true i.took p.ensures.took;
      plan = p.auto.plan ∙ i.plan;
      out = p.auto.out ∙ i.out;
    }
