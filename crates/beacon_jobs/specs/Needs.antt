-- The jobs of an entry, and what they need. Assumes nothing.
use Rattle.std.specs.Prelude.{cond, List, ℕ, ◌+◌, ◌≤◌}
use Rattle.spec_model.specs.Entries.{is_kind, asks}
use Rattle.spec_model.specs.declared.Entry.{Entry}
use Rattle.spec_rules.specs.Share.{job_count}
use Rattle.spec_rules.specs.Slots.{job_length}
use Rattle.spec_model.specs.declared.Frame.{Frame}
use Rattle.beacon_share.specs.Shares.{grant_of}
use Rattle.beacon_share.specs.declared.Granted.{Granted}
use Rattle.beacon_share.specs.declared.Sharing.{Sharing}
use Rattle.table_queue.specs.Queues.{largest32}
use Rattle.beacon_plan.specs.declared.JobRow.{JobRow}

-- min + extra for kind 1; the step B and C slots of a piece
abbrev pub need_by : Granted → Entry → ℕ
need_by g e = cond (is_kind 1 e) (asks e + g.extra.0) (g.piece.0 + g.extra.0)

-- what each job of an entry needs, beside the entries ps
abbrev pub need_for : Sharing → List Entry → Entry → ℕ
need_for s ps e = need_by (grant_of s ps e) e

-- its row of jobs
abbrev pub row_by : Frame → Granted → Entry → JobRow
row_by F g e = record { name = e.name; length = record { 0 = job_length F e }; count = job_count e; need = record { 0 = need_by g e } }

abbrev pub row_in : Frame → Sharing → List Entry → Entry → JobRow
row_in F s ps e = row_by F (grant_of s ps e) e

-- its needs have 32 bits
abbrev pub Narrow : Sharing → List Entry → Entry → Type 0
Narrow s ps e = need_for s ps e ≤ largest32
