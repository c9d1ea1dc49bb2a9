-- `beacon_share::owed_below` meets its contract. The invariant: what is owed at lower ranks among the first places. Assumes nothing.
use Rattle.std.proofs.Common.{◌≡◌, ℕ, ◌*◌, ◌≤◌, cond}
use Rattle.std.specs.Prelude.{ltb}
use Rattle.base_lists.specs.Loops.{summed}
use Rattle.table_queue.specs.Queues.{largest32}
use Rattle.table_queue.specs.declared.Claim.{Claim}
use Rattle.beacon_share.proofs.owed_below.Given as goal

-- what is owed at a place, where its rank is lower
abbrev pub lower : ℕ → Claim → ℕ
lower own c = cond (ltb c.rank own) c.owed.0 0

abbrev pub invariant-loop-claim : goal.invariant-loop-claim
invariant-loop-claim l = (l.all ≡ summed (lower l.own) l.claim-index l.claims) × (l.all ≤ largest32 * l.claim-index)
