use Rattle.std.proofs.Common.{ℕ, ◌≤◌, get_or, arith, rules, tests}
use Rattle.std.proofs.lemmas.Iterator.{cases_from_all, YieldsList-from_range}
use Rattle.header_test.specs.Due.{EndsFit}
use Rattle.header_test.proofs.Told.{told}
use Rattle.header_test.proofs.passes.Goals as goal

pub returns : goal.returns
returns c =
    let a = c.args in
    let fits : ℕ → Type 0 = λ m. 1 ≤ get_or a.sums.now m 0 → EndsFit a.f a.sums.now m in
    told fits c.all.result 2 15 (cases_from_all _ _ _ fits (λ m. fits m → ⊥) c.all.ensures.ran
    (YieldsList-from_range 2 17 15 (cc) (omega arith)) (λ m q e. search (rules, tests)) (λ m q e. search (rules, tests)))
