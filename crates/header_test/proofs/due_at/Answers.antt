use Rattle.std.proofs.Common.{◌≡◌, List, ℕ, ◌+◌, ◌*◌, get_or, sym, ap, arith}
use Rattle.std.proofs.Math.Nat.{mul-zero}
use Rattle.header_test.specs.Due.{jobs_by}
use Rattle.header_test.specs.DueLaws.{due_none, due_more, need_small}
use Rattle.header_test.proofs.due_at.Goals as goal
use Rattle.header_test.proofs.due_at.Goals.{then-need-gt0, else-need-gt0}

-- what the jobs of a turn need, which is little
abbrev turn : (sums : List ℕ) (k m i : ℕ) → ℕ
turn sums k m i = jobs_by k m i * get_or sums i 0

pub loop-i-init : goal.loop-i-init
loop-i-init c = (omega arith, omega arith, sym (due_none _ _ _), omega arith)

pub overflow_mul-due : goal.overflow_mul-due
overflow_mul-due c = omega (arith, need_small c.args.sums.now c.args.k c.args.m c.requires.0 c.loop-i.i c.requires.1.0 c.loop-i-test.true)

pub overflow_add-due : goal.overflow_add-due
overflow_add-due c =
    let h = c.loop-i-test.true in
    let small = need_small c.args.sums.now c.args.k c.args.m c.requires.0 c.loop-i.i c.requires.1.0 h in
    omega (arith, c.loop-i.invariant.3)

-- where nobody has so many parts it is none
pub loop-i-preserved : goal.loop-i-preserved
loop-i-preserved c =
    let a = c.args in
    let jobs = jobs_by a.k a.m c.loop-i.i in
    let turned : c.if-need-gt0.due ≡ c.loop-i.due + turn a.sums.now a.k a.m c.loop-i.i = elim c.if-need-gt0.branch [
      | then-need-gt0 w ↦ w.due-is
      | else-need-gt0 w ↦ (let none : get_or a.sums.now c.loop-i.i 0 ≡ 0 = omega (arith, w.if-need-gt0.false) in
          omega (arith, w.due-is, ap (λ n. jobs * n) none, mul-zero jobs))
    ] in
    let v = c.loop-i.invariant in
    let i = c.loop-i-test.true in
    let small = need_small a.sums.now a.k a.m c.requires.0 c.loop-i.i c.requires.1.0 i in (
      omega arith,
      omega arith,
      omega (arith, v.2, due_more a.sums.now a.k a.m c.loop-i.i v.0),
      omega (arith, v.3),
    )
