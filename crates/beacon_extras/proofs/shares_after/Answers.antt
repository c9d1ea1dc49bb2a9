-- `beacon_extras::shares_after` meets its contract: who takes part is told by the header test. Assumes nothing.
use Rattle.std.proofs.Common.{false, sym, ap, ◌∙◌}
use Rattle.table_queue.specs.Queues.{queued_bounded}
use Rattle.beacon_share.specs.Shares.{shares_among, shares_right}
use Rattle.beacon_extras.proofs.shares_after.Goals as goal

pub shares_of-requires : goal.shares_of-requires
shares_of-requires c = queued_bounded c.requires.0 c.requires.1.0

-- those who take part, by what the test says
pub returns : goal.returns
returns c =
    let t = c.args.t in
    c.shares_of.ensures ∙ shares_right false t c.requires.0 c.requires.1.0
    ∙ ap (λ b. shares_among b t) (sym c.if-extras_pass.false ∙ c.extras_pass.ensures)
