-- What a turn of `beacon_plan::write_runs`'s loop knows. The invariant: what stands at t is a state of the plan, of each row the first
-- unfinished job is kept, and next, if it is ahead, is the next release. The measure is what is to come, so the turns are few.
-- Assumes nothing.
use Rattle.std.specs.Prelude.{◌≡◌, ◌<◌}
use Rattle.beacon_plan.specs.Rows.{row_jobs, row_plan}
use Rattle.beacon_plan.specs.Needs.{names_of, lengths_of, needs_of}
use Rattle.beacon_plan.specs.Progress.{rows_of, left_in}
use Rattle.beacon_plan.specs.Next.{next_of}
use Rattle.beacon_plan.specs.Turns.{turns}
use Rattle.beacon_plan.specs.Steps.{State}
use Rattle.beacon_plan.proofs.write_runs.Given as goal

abbrev pub invariant-loop-t : goal.invariant-loop-t
invariant-loop-t l = record {
  state : State l.b.0 l.t.0 (names_of l.rows) (lengths_of l.rows) (row_plan l.b.0 l.initial.t.0 (names_of l.rows) (lengths_of l.rows) (needs_of l.rows)) l.initial.plan l.plan (left_in l.progress) l.pen;
  kept : l.progress ≡ rows_of (lengths_of l.rows) (left_in l.progress);
  ahead : l.t.0 < l.next.0 → l.next.0 ≡ next_of l.b.0 l.t.0 (lengths_of l.rows);
}

abbrev pub decreases-loop-t : goal.decreases-loop-t
decreases-loop-t l = turns l.b.0 l.t.0 (row_jobs (names_of l.rows) (lengths_of l.rows) (left_in l.progress))
