-- `beacon_plan::begin_rows` meets its contract. Assumes nothing.
use Rattle.std.proofs.Common.{◌<◌, ◌≤◌, length, arith}
use Rattle.std.proofs.lemmas.List.{length-map}
use Rattle.base_lists.specs.All.{all_at}
use Rattle.law_model.specs.Frames.{most_slots}
use Rattle.beacon_plan.specs.Needs.{lengths_of, length_at, no_row}
use Rattle.beacon_plan.proofs.begin_rows.Goals as goal

pub begin-requires : goal.begin-requires
begin-requires c =
    let rs = c.args.rows.now in
    let i = c.loop-i.i in
    let k : i < length (lengths_of rs) = simp length-map (omega arith) in (
      all_at (λ r. r.count ≤ 16) rs no_row c.requires.few.0.jobs i (omega arith),
      omega (arith, length_at rs i, all_at (λ T. T ≤ most_slots) (lengths_of rs) 0 c.requires.few.1 i k),
    )
