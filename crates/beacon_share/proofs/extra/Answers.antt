use native.Mathlib.Omega.{arith}
use borrow.Author.Tests.{lt-ltb, le-leb, lt-leb}
use Rattle.spec_model.proofs.Products.{product_fits}
use Rattle.spec_rules.specs.Share.{extra}
use Rattle.law_steps.proofs.Extras.{extra_le}
use Rattle.beacon_share.proofs.extra.Goals as goal

pub returns-then-rest-eq0 : goal.returns-then-rest-eq0
unfolding extra
returns-then-rest-eq0 c = rw c.if-rest-eq0.true

pub returns-then-weight-rest : goal.returns-then-weight-rest
unfolding extra
returns-then-weight-rest c =
    let a = c.args in
    rw (lt-ltb 0 a.remains.0 (omega arith), le-leb _ _ c.if-weight-rest.true)

pub overflow_mul-part : goal.overflow_mul-part
overflow_mul-part c = record { fits = product_fits _ _ (omega arith) (omega arith) }

pub returns : goal.returns
unfolding extra
returns c =
    let a = c.args in
    rw (lt-ltb 0 a.remains.0 (omega arith), lt-leb _ _ c.if-weight-rest.false)

-- the quotient is the extra, which is no more than the headroom
pub overflow_cast-result : goal.overflow_cast-result
overflow_cast-result c =
    let a = c.args in
    omega (arith, returns c, extra_le a.remains.0 a.weight a.headroom.0)
