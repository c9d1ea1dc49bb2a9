-- The invariant: the first k rows are made. Assumes nothing.
use Rattle.std.specs.Prelude.{◌≡◌, length, map, take}
use Rattle.spec_model.specs.Tables.{places}
use Rattle.beacon_share.specs.Shares.{sharing_of}
use Rattle.beacon_jobs.specs.Needs.{row_in}
use Rattle.beacon_jobs.specs.Listing.{entry_at}
use Rattle.beacon_jobs.proofs.write_jobs.Given as goal

abbrev pub invariant-loop-k : goal.invariant-loop-k
invariant-loop-k l = record {
  sized : length l.rows ≡ places;
  made : take l.k l.rows ≡ map (λ p. row_in l.t.frame (sharing_of l.t) l.t.entries (entry_at l.t p)) (take l.k l.listed);
}
