-- `row_command::command_of` meets its contract, by what it reads of the row. Assumes nothing.
use Rattle.std.proofs.Common.{◌∙◌}
use Rattle.row_command.specs.CommandLaws.{row_long, row_unknown, row_read}
use Rattle.row_command.proofs.command_of.Goals as goal

pub returns-then-row-gt-ROW_MOST : goal.returns-then-row-gt-ROW_MOST
returns-then-row-gt-ROW_MOST c = row_long _ c.if-row-gt-ROW_MOST.true

pub returns-in_default : goal.returns-in_default
returns-in_default c = row_unknown _ c.if-row-gt-ROW_MOST.false c.first_comma-end.ensures.value c.verb_of.ensures c.in_default.is

pub returns-in_default-read_fields : goal.returns-in_default-read_fields
returns-in_default-read_fields c =
    rw c.in_default-read_fields.is at
    (row_read c.args.row.now c.if-row-gt-ROW_MOST.false c.first_comma-end.ensures.value c.verb_of.ensures c.in-Some.verb c.in-Some.is c.form_of.ensures c.read_fields.ensures)

pub returns : goal.returns
returns c =
    c.asked_for.ensures
    ∙ rw c.in-Some-read_fields.is at
    (row_read c.args.row.now c.if-row-gt-ROW_MOST.false c.first_comma-end.ensures.value c.verb_of.ensures c.in-Some.verb c.in-Some.is c.form_of.ensures c.read_fields.ensures)
