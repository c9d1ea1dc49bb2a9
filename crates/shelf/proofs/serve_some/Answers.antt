use Rattle.std.proofs.Common.{◌≡◌, ◌^◌, ◌<◌, ◌≤◌, true, false, [], take, refl, arith, length-take}
use Rattle.std.proofs.Math.Seq.{take-take}
use Rattle.shelf_state.specs.Sizes.{last_most}
use Rattle.shelf_write.specs.Flows.{flowed_none, flowed_last}
use Rattle.shelf.specs.Runs.{ends}
use Rattle.shelf.specs.Streams.{took_no_rows, took_last}
use Rattle.shelf.proofs.serve_some.Goals as goal

pub returns-in-Err-clause-is : goal.returns-in-Err-clause-is
returns-in-Err-clause-is g c = rw c.in-Err.is (flowed_none [] _ _ (omega arith) refl)

pub returns-in-Err-clause-took : goal.returns-in-Err-clause-took
returns-in-Err-clause-took g c = rw c.in-Err.is (took_no_rows c.args.s _)

pub returns-in-Ok-eq0-clause-is : goal.returns-in-Ok-eq0-clause-is
returns-in-Ok-eq0-clause-is g c =
    let e : ends c.args.got ≡ true = grind arith in
    let l = c.serve_last-last in
    let few : l.result.bytes < 2 ^ 64 = omega (arith, l.ensures.is.0, last_most c.args.s c.requires.ready) in
    rw e (flowed_last c.args.s c.args.plan.now few l.ensures.is.0 l.ensures.is.1.1)

pub returns-in-Ok-eq0-clause-took : goal.returns-in-Ok-eq0-clause-took
returns-in-Ok-eq0-clause-took g c =
    let e : ends c.args.got ≡ true = grind arith in
    rw e (took_last c.args.s c.serve_last-last.ensures.took)

-- the bytes that are served are the first of all that a read gave
pub returns-in-Ok-clause-is : goal.returns-in-Ok-clause-is
returns-in-Ok-clause-is g c =
    let e : ends c.args.got ≡ false = grind arith in
    let f = c.serve_chunk.ensures.is in
    let n = c.serve_chunk.result.taken in
    let most : n ≤ c.count-n.result = omega (arith, f.bytes, length-take n (take c.count-n.result c.args.input.now), length-take c.count-n.result c.args.input.now) in
    rw e (rw (take-take n c.count-n.result c.args.input.now most) at f)

pub returns-in-Ok-clause-took : goal.returns-in-Ok-clause-took
returns-in-Ok-clause-took g c =
    let e : ends c.args.got ≡ false = grind arith in
    let f = c.serve_chunk.ensures.is in
    let n = c.serve_chunk.result.taken in
    let most : n ≤ c.count-n.result = omega (arith, f.bytes, length-take n (take c.count-n.result c.args.input.now), length-take c.count-n.result c.args.input.now) in
    rw e (rw (take-take n c.count-n.result c.args.input.now most) at c.serve_chunk.ensures.took)
