use Rattle.std.proofs.Common.{◌+◌, arith, rules, tests}
use Rattle.std.proofs.lemmas.Iterator.{cases_from_all, YieldsList-from_range}
use Rattle.header_test.specs.Due.{RoomAt}
use Rattle.header_test.proofs.Told.{told}
use Rattle.header_test.proofs.ends_fit.Goals as goal

pub returns : goal.returns
returns c =
    let a = c.args in
    let fits = RoomAt a.f a.sums.now a.m in
    let t = told fits c.all.result 1 a.m (cases_from_all _ _ _ fits (λ k. fits k → ⊥) c.all.ensures.ran
    (YieldsList-from_range 1 (a.m + 1) a.m (cc) (omega arith)) (λ k q e. search (rules, tests)) (λ k q e. search (rules, tests))) in
    (λ e k l m. t.0 e k l (omega arith), λ h. t.1 (λ k l m. h k l (omega arith)))
