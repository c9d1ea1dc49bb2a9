use native.Mathlib.Omega.{arith}
use Rattle.ahead_even.specs.Need.{even_need, load_fits}
use Rattle.ahead_even.proofs.need_of.Goals as goal

pub overflow_add-result : goal.overflow_add-result
overflow_add-result c =
    omega (arith, c.load_of.ensures, load_fits c.args.e (omega arith) (omega arith))

pub returns : goal.returns
unfolding even_need
returns c =
    let even = c.even_slots-piece.ensures in
    let load = c.load_of.ensures in
    (omega arith, omega arith)
