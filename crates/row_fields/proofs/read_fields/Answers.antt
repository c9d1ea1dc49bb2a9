-- `row_fields::read_fields` meets its contract. Assumes nothing.
use Rattle.std.proofs.Common.{◌≡◌, ◌∷◌, rules, arith, length, length-set, ◌∙◌}
use Rattle.row_fields.specs.ReadLaws.{too_few, refused, kept, all_read}
use Rattle.row_fields.proofs.read_fields.Goals as goal

pub returns-in_err-after : goal.returns-in_err-after
returns-in_err-after c =
    let l = c.loop-i in
    let none : length l.rest.now ≡ 0 = search rules in
    c.from_residual.ensures ∙ too_few c.args.form l.i l.values l.rest.now (omega arith) none l.invariant.1

pub returns-in_err-values : goal.returns-in_err-values
returns-in_err-values c =
    let l = c.loop-i in
    let o = c.in_ok-after in
    let s : l.rest.now ≡ o.field-0-0.now ∷ o.after.now = search rules in
    c.from_residual-in_err-values.ensures
    ∙ refused c.args.form l.i l.values o.after.now (omega arith) s c.first_comma-size.ensures.value c.read_field.ensures l.invariant.1 c.in_err-values.was

pub loop-i-preserved : goal.loop-i-preserved
loop-i-preserved c =
    let l = c.loop-i in
    let o = c.in_ok-after in
    let s : l.rest.now ≡ o.field-0-0.now ∷ o.after.now = search rules in
    let v = c.in_ok-values in (
      simp length-set l.invariant.0,
      kept c.args.form l.i l.values o.after.now (omega arith) s c.first_comma-size.ensures.value c.read_field.ensures l.invariant.1 v.field-0 (omega arith) v.was,
    )

pub returns : goal.returns
returns c =
    let l = c.loop-i in
    c.then_some.ensures ∙ rw c.is_empty.ensures (all_read c.args.form l.i l.values l.rest.now (omega arith) (omega arith) l.invariant.1)
