use borrow.Author.Rules.{rules}
use Rattle.base_lists.specs.Tests.{within_both}
use Rattle.law_model.specs.Frames.{opening_units}
use Rattle.call_open.proofs.frame_of.Goals as goal

pub overflow_mul-count : goal.overflow_mul-count
overflow_mul-count c = let s = c.args.s in search (rules, within_both 1 1000 s.units (opening_units s c.requires))
