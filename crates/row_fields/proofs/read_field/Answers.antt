-- `row_fields::read_field` meets its contract, by what is asked for. Assumes nothing.
use Rattle.std.proofs.Common.{◌≡◌, length, rules, tests}
use Rattle.row_fields.specs.ReadLaws.{may_be_empty, not_empty, empty_read}
use Rattle.row_fields.proofs.read_field.Goals as goal

pub returns-in-MayBeEmpty : goal.returns-in-MayBeEmpty
returns-in-MayBeEmpty c = rw c.in-MayBeEmpty.is (may_be_empty _ _ (search (rules, tests)))

pub returns-in-Empty : goal.returns-in-Empty
returns-in-Empty c = rw (c.in-Empty.is, c.then_some.ensures, c.is_empty-in-Empty.ensures) (empty_read c.args.field.now)

pub returns-in-Needed : goal.returns-in-Needed
returns-in-Needed c = rw c.in-Needed.is c.read_number.ensures

pub returns-in-MayBeEmpty-2 : goal.returns-in-MayBeEmpty-2
returns-in-MayBeEmpty-2 c =
    let n : length c.args.field.now ≡ 0 → ⊥ = λ e. search (rules, tests) in
    rw c.in-MayBeEmpty-2.is (not_empty _ _ n c.read_number-in-MayBeEmpty-2.ensures)
