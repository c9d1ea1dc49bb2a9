-- The header test by sums: what a job of each stream needs is added up by the number m of parts, the periods of an interval. What is due at
-- a period's end by these sums, and the test by it. Assumes nothing.
use Rattle.std.specs.Prelude.{◌≡◌, Bool, true, cond, List, ℕ, ◌+◌, ◌*◌, ◌/◌, ◌≤◌, ◌<◌, length, set, get_or}
use Rattle.spec_lists.specs.Lists.{span}
use Rattle.spec_lists.specs.All.{All}
use Rattle.spec_model.specs.Entries.{is_kind}
use Rattle.spec_model.specs.Frames.{header_in, part_of}
use Rattle.spec_model.specs.Tables.{places}
use Rattle.spec_model.specs.declared.Entry.{Entry}
use Rattle.spec_model.specs.declared.Frame.{Frame}
use Rattle.law_model.specs.Frames.{most_slots}

-- a test says whether P holds
abbrev pub Tells : Bool → Type 0 → Type 0
Tells r P = (r ≡ true → P) × (P → r ≡ true)

-- ---- the sums
-- an array by the number of parts, which is at most 16
abbrev pub parts_room : ℕ
parts_room = 17

-- no sum is more: every place has a stream, each job of which needs a whole interval
abbrev pub most_needs : ℕ
most_needs = places * most_slots

pub record Summed (sums : List ℕ) : Type 0 where
  pub size : length sums ≡ parts_room
  pub most : All (λ v. v ≤ most_needs) sums

-- of kind 1 the parts have a place there
abbrev pub PartsIn : Entry → Type 0
PartsIn e = e.kind ≡ 1 → e.parts < parts_room

-- one stream more, a job of which needs n; only kind 1 counts
abbrev pub added : (n : ℕ) → Entry → List ℕ → List ℕ
added n e sums = cond (is_kind 1 e) (set sums e.parts (get_or sums e.parts 0 + n)) sums

-- ---- the test
-- the jobs of a stream of i parts that are due by period end k of m
abbrev pub jobs_by : (k m i : ℕ) → ℕ
jobs_by k m i = k * i / m

-- what the jobs of all streams of 2 to n - 1 parts need that are due by then
unfoldable pub due_to : (sums : List ℕ) (k m n : ℕ) → ℕ
due_to sums k m n = span (λ i. jobs_by k m i * get_or sums i 0) 2 n

-- those of all streams
abbrev pub due_at : (sums : List ℕ) (k m : ℕ) → ℕ
due_at sums k m = due_to sums k m parts_room

-- no more jobs than k times i, which are at most 16 each; and what is due needs no more
abbrev pub most_jobs : ℕ
most_jobs = 256

abbrev pub most_due : ℕ
most_due = parts_room * (most_jobs * most_needs)

-- after the header there is room for them before period end k of m
abbrev pub RoomAt : Frame → (sums : List ℕ) (m k : ℕ) → Type 0
RoomAt F sums m k = due_at sums k m + header_in F ≤ k * part_of F m

-- at each end of m
abbrev pub EndsFit : Frame → (sums : List ℕ) (m : ℕ) → Type 0
EndsFit F sums m = (k : ℕ) → 1 ≤ k → k ≤ m → RoomAt F sums m k

-- at the ends of all streams
abbrev pub Passes : Frame → (sums : List ℕ) → Type 0
Passes F sums = (m : ℕ) → 2 ≤ m → m < parts_room → 1 ≤ get_or sums m 0 → EndsFit F sums m
