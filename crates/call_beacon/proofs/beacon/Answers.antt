use Rattle.std.proofs.Common.{sym, ◌∙◌, arith}
use Rattle.beacon_advance.specs.Next.{moved_shares, shares_movable}
use Rattle.call_beacon.proofs.beacon.Goals as goal

-- a place is in use
pub advance-table-requires : goal.advance-table-requires
advance-table-requires c =
    let h = c.if-p-eq0.false in
    let m = c.in_ok-p.ensures.1.1.1.moves (omega arith) in
    shares_movable c.args.t m.0.0 m.0.1 m.1.0

pub returns : goal.returns
returns c =
    let h = c.if-p-eq0.false in
    let e = c.in_ok-p.ensures in
    let m = e.1.1.1.moves (omega arith) in
    (e.0, (e.1.0, (c.advance-table.ensures ∙ moved_shares c.args.t m.0.0 m.1.0 ∙ sym m.1.1, e.1.1.0)))
