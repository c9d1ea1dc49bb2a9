-- `ahead_figures::read_table` meets its contract. The invariant: the array has the figures of the first i places. Assumes nothing.
use Rattle.std.proofs.Common.{◌≡◌, ◌≤◌, length, arith}
use Rattle.base_lists.specs.All.{all_at}
use Rattle.spec_model.specs.Entries.{free_entry}
use Rattle.spec_model.specs.Tables.{places}
use Rattle.spec_rules.specs.Share.{load_of}
use Rattle.law_model.specs.Frames.{most_slots}
use Rattle.law_steps.proofs.Closed.{load_most}
use Rattle.table_queue.proofs.Known.{used_inside}
use Rattle.ahead_figures.proofs.Reading.{reading_none, reading_more, reading_all}
use Rattle.ahead_figures.proofs.read_table.Goals as goal

pub loop-i-init : goal.loop-i-init
loop-i-init c = reading_none c.args.t (omega arith) c.requires.free

pub figures_of-requires : goal.figures_of-requires
figures_of-requires c =
    let t = c.args.t in
    let n : length t.entries ≡ places = omega arith in
    all_at (λ e. load_of e ≤ most_slots) t.entries free_entry (load_most t c.requires.tidy.0) _
    (used_inside t n c.requires.tidy.1 c.loop-i-test.true)

pub loop-i-preserved : goal.loop-i-preserved
loop-i-preserved c =
    reading_more c.args.t (omega arith) c.loop-i.invariant c.requires.tidy.1 c.loop-i-test.true c.figures_of.ensures

pub returns : goal.returns
returns c = reading_all c.args.t (omega arith) c.loop-i.invariant c.requires.tidy.1 c.loop-i-test.false
