-- `row_fields::read_number` meets its contract. Assumes nothing.
use Rattle.std.proofs.Common.{◌≡◌, rules, tests, arith, ℕ, ◌<◌, ◌+◌, ◌-◌, ◌*◌, List, drop, length, get_or, true, false, Option, None, refl, sym, ◌∙◌}
use Rattle.std.proofs.lemmas.Bool.Decides.{nat_tests}
use Rattle.spec_lists.specs.Lists.{within}
use Rattle.spec_text.specs.declared.Field.TheVariants.{Needed}
use Rattle.row_fields.specs.FieldReads.{field_read}
use Rattle.row_fields.specs.ReadLaws.{digits_read, needed_read, not_read, no_digit, digit_next, too_large, digits_end}
use Rattle.row_fields.proofs.read_number.Goals as goal

pub returns-then-not-contains : goal.returns-then-not-contains
returns-then-not-contains c =
    let n = length c.args.field.now in
    let e : within 1 10 n ≡ false = search (rules, tests) in
    rw (needed_read c.args.field.now, e)

pub loop-byte-init : goal.loop-byte-init
loop-byte-init c = (omega arith, refl)

-- what the loop has read so far has no number, so the field has none
module _ (f : List ℕ) {r : Option ℕ} (i v : ℕ) (h : i < length f) (e : digits_read v (drop i f) ≡ digits_read 0 f) (q : r ≡ None) where
  no_more : within 48 57 (get_or f i 0) ≡ false → r ≡ field_read Needed f
  no_more k = q ∙ sym (not_read f (sym e ∙ no_digit f i v h k))

  past : within 48 57 (get_or f i 0) ≡ true → 4294967295 < 10 * v + (get_or f i 0 - 48) → r ≡ field_read Needed f
  past d k = q ∙ sym (not_read f (sym e ∙ digit_next f i v h d ∙ too_large _ _ k))

pub returns-then-not-is_ascii_digit : goal.returns-then-not-is_ascii_digit
returns-then-not-is_ascii_digit c =
    no_more _ _ _ c.loop-byte-test.true c.loop-byte.invariant.1 refl (sym c.is_ascii_digit.ensures.value ∙ c.if-not-is_ascii_digit.true)

pub returns-in_err-checked_mul : goal.returns-in_err-checked_mul
returns-in_err-checked_mul c =
    past _ _ _ c.loop-byte-test.true c.loop-byte.invariant.1 c.from_residual.ensures (sym c.is_ascii_digit.ensures.value ∙ c.if-not-is_ascii_digit.false) (omega arith)

pub returns-in_err-value : goal.returns-in_err-value
returns-in_err-value c =
    past _ _ _ c.loop-byte-test.true c.loop-byte.invariant.1 c.from_residual-in_err-value.ensures (sym c.is_ascii_digit.ensures.value ∙ c.if-not-is_ascii_digit.false) (omega arith)

pub loop-byte-preserved : goal.loop-byte-preserved
loop-byte-preserved c =
    let e : c.in_ok-value.value ≡ 10 * c.loop-byte.value + (get_or c.args.field.now c.loop-byte.byte-index 0 - 48) = omega arith in
    (omega arith, rw e (sym (digit_next _ _ _ c.loop-byte-test.true (sym c.is_ascii_digit.ensures.value ∙ c.if-not-is_ascii_digit.false)) ∙ c.loop-byte.invariant.1))

pub returns : goal.returns
returns c =
    let n = length c.args.field.now in
    let e : within 1 10 n ≡ true = grind (arith, nat_tests) in
    rw (needed_read c.args.field.now, e) (sym (digits_end _ _ _ c.loop-byte-test.false c.loop-byte.invariant.0) ∙ c.loop-byte.invariant.1)
