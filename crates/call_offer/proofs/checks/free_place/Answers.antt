use Rattle.std.proofs.lemmas.Result.{err_from_is_err_and}
use borrow.Author.Tests.{ne_eqb}
use Rattle.call_answers.specs.Refused.{offer_refused}
use Rattle.call_offer.specs.Offer.{but_last, place_number}
use Rattle.call_offer.proofs.checks.free_place.Goals as goal

pub returns-then-s-clause-checks : goal.returns-then-s-clause-checks
returns-then-s-clause-checks c = rw (but_last _ _ _ _, c.requires, c.if-s.true)

pub returns-in_err-check_fields-clause-checks : goal.returns-in_err-check_fields-clause-checks
returns-in_err-check_fields-clause-checks c =
    let p = err_from_is_err_and c.from_residual.result c.from_residual.ensures.1 in
    rw (p.1, p.2, but_last _ _ _ _, c.requires, c.if-s.false, ← c.in_err-check_fields.ensures, ne_eqb _ _ (offer_refused c.in_err-check_fields.field-0.0))

-- every field is in range too: the last question is whether a place is free
pub returns-clause-checks : goal.returns-clause-checks
returns-clause-checks c =
    rw (c.ok_or.ensures.value, but_last _ _ _ _, c.requires, c.if-s.false, ← c.in_ok-check_fields.ensures) (place_number c.args.s.free)
