-- `shelf_withdraw::answer_withdraw` meets its contract, with a table and without. Assumes nothing.
use Rattle.std.proofs.Common.{ap, ◌∙◌}
use Rattle.spec_shelf.specs.Meaning.{with_table, state_after, rows_for}
use Rattle.shelf_withdraw.proofs.answer_withdraw.Goals as goal
use Rattle.shelf_withdraw.proofs.answer_withdraw.Goals.{in-Some, in-None}

pub withdraw_from-number-requires : goal.withdraw_from-number-requires
withdraw_from-number-requires c = c.requires.ready _ c.in-Some.is

pub returns-clause-state : goal.returns-clause-state
unfolding state_after
returns-clause-state c =
    elim c.match-table.branch [
      | in-Some w ↦ rw w.in-Some.is (w.table-is ∙ ap with_table w.withdraw_from-number.ensures.1)
      | in-None w ↦ rw w.in-None.is (w.table-is ∙ w.in-None.is)
    ]

pub returns-clause-rows : goal.returns-clause-rows
unfolding rows_for
returns-clause-rows c =
    elim c.match-table.branch [
      | in-Some w ↦ rw (w.in-Some.is, ← w.withdraw_from-number.ensures.0, ← w.number-is) c.stream_row.ensures
      | in-None w ↦ rw (w.in-None.is, ← w.number-is) c.stream_row.ensures
    ]
