-- What a place claims of an interval, and the columns of claims: the ranks, what is owed, the limits and the jobs, place by place.
-- Assumes nothing.
use Rattle.std.specs.Prelude.{List, map, ℕ}
use Rattle.spec_model.specs.declared.Entry.{Entry}
use Rattle.law_steps.specs.Ranks.{rank}
use Rattle.table_entry.specs.Amounts.{owed_to, limit_of, jobs_in}
use Rattle.table_queue.specs.declared.Claim.{Claim}

-- by its numbers
abbrev pub claim : (rank owed limit jobs : ℕ) → Claim
claim k o d n = record { rank = k; owed = record { 0 = o }; limit = record { 0 = d }; jobs = n }

-- that of a free place
abbrev pub no_claim : Claim
no_claim = claim 0 0 0 0

-- what an entry claims
abbrev pub claim_of : Entry → Claim
claim_of e = claim (rank e) (owed_to e) (limit_of e) (jobs_in e)

-- ---- columns
abbrev pub ranks_in : List Claim → List ℕ
ranks_in cs = map (λ (c : Claim). c.rank) cs

abbrev pub owed_in : List Claim → List ℕ
owed_in cs = map (λ (c : Claim). c.owed.0) cs

abbrev pub limits_in : List Claim → List ℕ
limits_in cs = map (λ (c : Claim). c.limit.0) cs

abbrev pub jobs_of : List Claim → List ℕ
jobs_of cs = map (λ (c : Claim). c.jobs) cs
