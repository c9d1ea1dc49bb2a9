use Rattle.std.proofs.Common.{sym, ◌∙◌, inl, inr, arith}
use Rattle.std.proofs.lemmas.Result.{err_from_is_err_and}
use Rattle.call_offer.specs.Offer.{Checked, Tested, outside_answer, refused_answer, checked, inside_tidy}
use Rattle.call_offer.specs.Offer.{says_no_before, says_no, says_yes, says_yes_early}
use Rattle.call_offer.proofs.decide.Goals as goal
use Rattle.call_offer.proofs.decide.Goals.{then-frame-gt0+else-not-minimums_pass, else-frame-gt0}

pub returns-then-not-in_range-clause-is : goal.returns-then-not-in_range-clause-is
returns-then-not-in_range-clause-is c = outside_answer c.args.t c.requires c.args.q (sym c.in_range.ensures ∙ c.if-not-in_range.true)

pub returns-in_err-place-clause-is : goal.returns-in_err-place-clause-is
returns-in_err-place-clause-is c =
    let s = c.survey_for-s.ensures in
    let p = err_from_is_err_and c.from_residual.result c.from_residual.ensures.1 in
    rw (p.1, p.2) (refused_answer c.args.t c.requires c.args.q _ (s.0, s.1) c.in_err-place.ensures.checks)

-- k: a place is free, and the request is in order but for looking ahead
pub minimums_pass-requires-clause-place_lt_places : goal.minimums_pass-requires-clause-place_lt_places
minimums_pass-requires-clause-place_lt_places c =
    let s = c.survey_for-s.ensures in
    let k : Checked c.args.t c.args.q c.in_ok-place.place c.entry_of-entry.result
    = checked c.requires (s.0, s.1) c.in_ok-place.ensures.checks c.in_ok-place.ensures.place c.entry_of-entry.ensures
    in
    inside_tidy c.requires k

pub returns-then-not-minimums_pass-clause-is : goal.returns-then-not-minimums_pass-clause-is
returns-then-not-minimums_pass-clause-is c =
    let s = c.survey_for-s.ensures in
    let k : Checked c.args.t c.args.q c.in_ok-place.place c.entry_of-entry.result
    = checked c.requires (s.0, s.1) c.in_ok-place.ensures.checks c.in_ok-place.ensures.place c.entry_of-entry.ensures
    in
    says_no_before c.requires k c.minimums_pass.ensures c.if-not-minimums_pass.true

pub returns-then-fits_with : goal.returns-then-fits_with
returns-then-fits_with c =
    let s = c.survey_for-s.ensures in
    let k : Checked c.args.t c.args.q c.in_ok-place.place c.entry_of-entry.result
    = checked c.requires (s.0, s.1) c.in_ok-place.ensures.checks c.in_ok-place.ensures.place c.entry_of-entry.ensures
    in
    let tested : Tested c.requires k =
    elim c.if-frame-gt0.branch [
      | then-frame-gt0+else-not-minimums_pass w ↦ inr (sym w.minimums_pass.ensures ∙ w.if-not-minimums_pass.false)
      | else-frame-gt0 w ↦ inl (omega (arith, w.if-frame-gt0.false))
    ] in
    record { is = says_yes_early c.requires k tested s.2 c.fits_with.ensures c.if-fits_with.true; place = k.inside }

pub keeps_up_ahead-requires-clause-place_lt_places : goal.keeps_up_ahead-requires-clause-place_lt_places
keeps_up_ahead-requires-clause-place_lt_places c =
    let s = c.survey_for-s.ensures in
    let k : Checked c.args.t c.args.q c.in_ok-place.place c.entry_of-entry.result
    = checked c.requires (s.0, s.1) c.in_ok-place.ensures.checks c.in_ok-place.ensures.place c.entry_of-entry.ensures
    in
    inside_tidy c.requires k

pub returns-then-not-keeps_up_ahead-clause-is : goal.returns-then-not-keeps_up_ahead-clause-is
returns-then-not-keeps_up_ahead-clause-is c =
    let s = c.survey_for-s.ensures in
    let k : Checked c.args.t c.args.q c.in_ok-place.place c.entry_of-entry.result
    = checked c.requires (s.0, s.1) c.in_ok-place.ensures.checks c.in_ok-place.ensures.place c.entry_of-entry.ensures
    in
    let tested : Tested c.requires k =
    elim c.if-frame-gt0.branch [
      | then-frame-gt0+else-not-minimums_pass w ↦ inr (sym w.minimums_pass.ensures ∙ w.if-not-minimums_pass.false)
      | else-frame-gt0 w ↦ inl (omega (arith, w.if-frame-gt0.false))
    ] in
    says_no c.requires k tested c.keeps_up_ahead.ensures c.if-not-keeps_up_ahead.true

pub returns : goal.returns
returns c =
    let s = c.survey_for-s.ensures in
    let k : Checked c.args.t c.args.q c.in_ok-place.place c.entry_of-entry.result
    = checked c.requires (s.0, s.1) c.in_ok-place.ensures.checks c.in_ok-place.ensures.place c.entry_of-entry.ensures
    in
    let tested : Tested c.requires k =
    elim c.if-frame-gt0.branch [
      | then-frame-gt0+else-not-minimums_pass w ↦ inr (sym w.minimums_pass.ensures ∙ w.if-not-minimums_pass.false)
      | else-frame-gt0 w ↦ inl (omega (arith, w.if-frame-gt0.false))
    ] in
    record { is = says_yes c.requires k tested c.keeps_up_ahead.ensures c.if-not-keeps_up_ahead.false; place = k.inside }
