-- `beacon_share::whole_weight` meets its contract. The invariant: the weights of the first places. Assumes nothing.
use Rattle.std.proofs.Common.{◌≡◌, ℕ, ◌*◌, ◌≤◌, length}
use Rattle.base_lists.specs.Loops.{summed}
use Rattle.table_queue.specs.Claims.{jobs_of}
use Rattle.table_queue.specs.Queues.{largest32}
use Rattle.table_queue.specs.Zips.{zip}
use Rattle.beacon_share.specs.Shares.{rooms_by}
use Rattle.beacon_share.specs.InUse.{limits_of, numbers}
use Rattle.beacon_share.proofs.whole_weight.Given as goal

-- sixteen times the largest room
abbrev pub most : ℕ
most = 16 * largest32

abbrev pub times : (jobs room : ℕ) → ℕ
times m d = m * d

abbrev pub invariant-loop-i : goal.invariant-loop-i
invariant-loop-i l =
    (l.i ≤ length l.claims)
    × (l.weight ≡ summed (λ v. v) l.i (zip times (jobs_of l.claims) (rooms_by (limits_of l.fractions l.claims) (numbers l.pieces))))
    × (l.weight ≤ most * l.i)
