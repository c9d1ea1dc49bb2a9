-- `header_test::add_need` meets its contract. Assumes nothing.
use Rattle.std.proofs.Common.{arith, rules}
use Rattle.header_test.specs.DueLaws.{sum_small}
use Rattle.header_test.proofs.add_need.Goals as goal

-- of kind 1 the parts have a place
pub overflow_add-sums : goal.overflow_add-sums
overflow_add-sums c = omega (arith, sum_small c.requires.0 c.args.e.parts (c.requires.1 (search rules)))
