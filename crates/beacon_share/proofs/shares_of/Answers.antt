-- `beacon_share::shares_of` meets its contract: each part is what its function finds. Assumes nothing.
use Rattle.std.proofs.Common.{◌-◌, ◌≤◌, ap, ◌∙◌, subst, arith, length-take}
use Rattle.std.proofs.lemmas.List.{take-map}
use Rattle.spec_lists.specs.All.{All}
use Rattle.base_lists.specs.All.{all_take}
use Rattle.table_queue.specs.declared.Claim.{Claim}
use Rattle.beacon_share.specs.InUse.{shares_found}
use Rattle.beacon_share.proofs.shares_of.Goals as goal

pub whole_weight-weight-requires : goal.whole_weight-weight-requires
whole_weight-weight-requires c =
    let q = c.args.q in (
      omega (arith, length-take q.used q.claims, c.requires.used),
      subst (All (λ m. m ≤ 16)) (take-map (λ (x : Claim). x.jobs) q.used q.claims) (all_take q.used c.requires.jobs),
    )

pub returns : goal.returns
returns c =
    shares_found c.requires (omega arith) c.args.f c.args.fractions (c.left_of-capacity.ensures ∙ ap (λ r. r - c.args.q.load) c.room_in.ensures)
    c.pieces-pieces.ensures (c.left_of-remains.ensures ∙ ap (λ o. c.left_of-capacity.result.0 - o) c.owed_below.ensures) c.whole_weight-weight.ensures
    c.grants_of.ensures
