-- `beacon_plan::next_release` meets its contract. Assumes nothing.
use Rattle.std.proofs.Common.{sym, ◌∙◌, ◌<◌, ◌≤◌, length, arith, drop_of_length-le}
use Rattle.std.proofs.lemmas.List.{length-map}
use Rattle.base_lists.specs.All.{all_at}
use Rattle.beacon_plan.specs.Rows.{Length}
use Rattle.beacon_plan.specs.Needs.{lengths_of, length_at}
use Rattle.beacon_plan.specs.Next.{next_of, next_most, next_step}
use Rattle.beacon_plan.proofs.next_release.Goals as goal

pub loop-row-init : goal.loop-row-init
loop-row-init c = record { most = omega arith; nearest = omega (arith, next_most c.args.b.0 c.args.t.0 (lengths_of c.args.rows.now)) }

pub nonzero_div-release : goal.nonzero_div-release
nonzero_div-release c =
    let rs = c.args.rows.now in
    let i = c.loop-row.row-index in
    let k : i < length (lengths_of rs) = simp length-map (omega arith) in
    omega (arith, length_at rs i, (all_at (Length c.args.b.0) (lengths_of rs) 0 c.requires.1.1 i k).some)

pub loop-row-preserved : goal.loop-row-preserved
loop-row-preserved c =
    let a = c.args in
    let rs = a.rows.now in
    let i = c.loop-row.row-index in
    let k : i < length (lengths_of rs) = simp length-map (omega arith) in
    record {
      most = omega (arith, c.min-next.ensures);
      nearest = c.loop-row.invariant.nearest
          ∙ next_step a.b.0 a.t.0 i c.loop-row.next (lengths_of rs) k ∙ rw (c.min-next.ensures, length_at rs i);
    }

pub returns : goal.returns
unfolding next_of
returns c =
    let a = c.args in
    let k : length (lengths_of a.rows.now) ≤ c.loop-row.row-index = simp length-map (omega arith) in
    sym (c.loop-row.invariant.nearest ∙ rw (drop_of_length-le (lengths_of a.rows.now) k) (omega arith))
