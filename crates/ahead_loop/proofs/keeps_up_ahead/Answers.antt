use Rattle.law_figures.proofs.Begin.{load_small}
use Rattle.ahead_loop.proofs.Beginning.{begun}
use Rattle.ahead_loop.proofs.keeps_up_ahead.Goals as goal

pub figures_of-requires : goal.figures_of-requires
figures_of-requires c =
    load_small c.args.t c.requires.tidy.0 c.args.e c.requires.place_lt_places.0 c.requires.place_lt_places.1

pub goes_well-requires : goal.goes_well-requires
goes_well-requires c = (
  _,
  begun c.args.t c.args.e c.requires.tidy c.requires.place_lt_places c.room_in.ensures c.max-last.ensures c.read_table.ensures
      c.figures_of.ensures,
)

pub returns : goal.returns
returns c =
    c.goes_well.ensures _
    (begun c.args.t c.args.e c.requires.tidy c.requires.place_lt_places c.room_in.ensures c.max-last.ensures c.read_table.ensures
    c.figures_of.ensures)
