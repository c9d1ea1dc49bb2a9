use Rattle.std.proofs.Common.{◌≤◌, length, arith, sym}
use Rattle.table_places.specs.Put.{put_past}
use Rattle.table_places.proofs.put_in.Goals as goal

pub returns-else-place-lt-PLACES : goal.returns-else-place-lt-PLACES
returns-else-place-lt-PLACES c =
    let h : length c.args.t.entries ≤ c.args.place = omega arith in sym (put_past c.args.t c.args.place c.args.e h)
