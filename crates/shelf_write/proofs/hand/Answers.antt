use Rattle.std.proofs.Common.{subst, sym, arith}
use Rattle.std.specs.Io.KnownBytes.{Appends}
use Rattle.std.proofs.KnownBytes.{Appends-trans}
use Rattle.shelf_state.specs.Parts.{taken_then, left_length}
use Rattle.shelf_write.proofs.hand.Goals as goal

pub loop-done-preserved : goal.loop-done-preserved
loop-done-preserved g c =
    let bytes = c.args.bytes.now in
    let done = c.loop-done.done in
    let more = c.in-Ok.more in
    let i = c.loop-done.invariant in
    let most = c.in-Ok.ensures.bound in
    record {
      inside = omega (arith, left_length bytes done, most);
      held = subst (Appends _ _) (sym (taken_then bytes done more)) (Appends-trans _ _ _ _ _ i.held c.in-Ok.ensures.bytes);
    }
