use Rattle.std.proofs.Common.{◌≡◌, sym, ap, ◌∙◌, ◌+◌, cond, get_or, refl, ltb, arith, lt-ltb, le-ltb}
use Rattle.base_lists.specs.Tests.{cond_le}
use Rattle.base_lists.specs.Loops.{summed_more, summed_all}
use Rattle.table_queue.specs.Claims.{no_claim}
use Rattle.beacon_share.specs.InUse.{below_sum}
use Rattle.beacon_share.proofs.owed_below.Invariants.{lower}
use Rattle.beacon_share.proofs.owed_below.Goals as goal
use Rattle.beacon_share.proofs.owed_below.Goals.{then-sooner, else-sooner}

pub loop-claim-preserved : goal.loop-claim-preserved
loop-claim-preserved c =
    let cs = c.args.claims.now in
    let own = c.args.own in
    let i = c.loop-claim.claim-index in
    let here = get_or cs i no_claim in
    let more : c.if-sooner.all ≡ c.loop-claim.all + lower own here = elim c.if-sooner.branch [
      | then-sooner w ↦ omega (arith, w.all-is, ap (λ b. cond b here.owed.0 0) (lt-ltb here.rank own w.if-sooner.true))
      | else-sooner w ↦ omega (arith, w.all-is, ap (λ b. cond b here.owed.0 0) (le-ltb here.rank own w.if-sooner.false))
    ] in (
      more ∙ summed_more (lower own) cs i no_claim c.loop-claim-test.true c.loop-claim.invariant.0 refl,
      omega (arith, more, cond_le (ltb here.rank own) here.owed.0),
    )

pub returns : goal.returns
returns c =
    let cs = c.args.claims.now in
    c.loop-claim.invariant.0 ∙ summed_all (lower c.args.own) cs c.loop-claim.claim-index c.loop-claim-test.false
    ∙ sym (below_sum c.args.own cs)
