-- The checks of an offer's fields, kind by kind. Assumes nothing.
use Rattle.std.specs.Prelude.{◌≡◌, ◌≢◌}
use borrow.Author.Tests.{eq-eqb, ne_eqb}
use Rattle.spec_model.specs.Requests.{refusal, fraction_checks, whole_checks, transfer_checks, field_checks}
use Rattle.spec_model.specs.Answers.{fields_answer}
use Rattle.spec_model.specs.declared.Request.{Request}
use Rattle.spec_model.specs.declared.Frame.{Frame}
use Rattle.spec_model.specs.Frames.{slots_in}

module _ (F : Frame) (q : Request) where
  pub fields_fraction : q.kind ≡ 1 → fields_answer F q ≡ refusal (fraction_checks (slots_in F) q.period q.min q.max q.life)
  unfolding fields_answer field_checks
  fields_fraction h = rw (eq-eqb q.kind 1 h)

  pub fields_whole : q.kind ≡ 2 → fields_answer F q ≡ refusal (whole_checks (slots_in F) q.period q.min q.max q.life)
  unfolding fields_answer field_checks
  fields_whole h = rw (h)

  pub fields_transfer : q.kind ≡ 3 → fields_answer F q ≡ refusal (transfer_checks q.period q.min q.max q.life)
  unfolding fields_answer field_checks
  fields_transfer h = rw (h)

  pub fields_unknown : q.kind ≢ 1 → q.kind ≢ 2 → q.kind ≢ 3 → 12 ≡ fields_answer F q
  unfolding fields_answer field_checks refusal
  fields_unknown h k l = rw (ne_eqb q.kind 1 h, ne_eqb q.kind 2 k, ne_eqb q.kind 3 l)
