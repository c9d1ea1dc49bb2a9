-- Greedy service by earliest deadline of sources that each ask a job at a time, under a capacity that varies with time:
-- where in no window the jobs ask more than its capacity, none misses its deadline, and so it stays for what is left.
-- Assumes nothing.
use Rattle.std.specs.Prelude.{◌≡◌, List, ℕ, zero, suc, ◌+◌, ◌-◌, ◌≤◌, min}
use Rattle.spec_lists.specs.Lists.{sum_of, span}
use Rattle.spec_lists.specs.All.{All}
use Rattle.base_edf.specs.Time.{due}

-- rem: still owed for the current job; left: the time to its deadline;
-- need: what each later job asks; period: the length of each; jobs: how many follow, the first when the current one is due
pub data Source : Type 0 where
  source : (rem left need period jobs : ℕ) → Source

-- what is still owed for the current job
abbrev pub rem : Source → ℕ
rem (source r l n p j) = r

-- the time to its deadline
abbrev pub left : Source → ℕ
left (source r l n p j) = l

-- a source with no job
abbrev pub gone : Source
gone = source 0 0 0 0 0

-- a source after it was given g and one unit of time has passed
abbrev pub next : Source → ℕ → Source
next (source r zero n p j) g = gone
next (source r (suc zero) n p zero) g = gone
next (source r (suc zero) n p (suc j)) g = source n p n p j
next (source r (suc (suc l)) n p j) g = source (r - g) (suc l) n p j

-- j jobs follow one another, the first released at l, each p long and asking n: what those of them ask that lie in s .. d
abbrev pub later : (l n p j s d : ℕ) → ℕ
later l n p zero s d = 0
later l n p (suc j) s d = due s l (due (l + p) d n) + later (l + p) n p j s d

-- what the jobs of a source ask that are released at or after s and due at or before d
abbrev pub dem : Source → ℕ → ℕ → ℕ
dem (source r l n p j) zero d = due l d r + later l n p j 0 d
dem (source r l n p j) (suc s) d = later l n p j (suc s) d

-- ---- a list of things of which each is a source
module _ {A : Type 0} (at : A → Source) where
  -- what the jobs of all ask in a window
  abbrev pub dems : List A → ℕ → ℕ → ℕ
  dems xs s d = sum_of (λ x. dem (at x) s d) xs

  -- in no window do the jobs ask more than the capacity
  abbrev pub Room : List A → (ℕ → ℕ) → Type 0
  Room xs c = (s d : ℕ) → dems xs s d ≤ span c s d

  -- g is what an earliest-deadline service with capacity c gives: nobody more than it is owed,
  -- and to those due within d, whatever d is, together all that they are owed or the whole capacity
  pub record Greedy (xs : List A) (g : A → ℕ) (c : ℕ) : Type 0 where
    pub within : All (λ x. g x ≤ rem (at x)) xs
    pub first : (d : ℕ) → sum_of (λ x. due (left (at x)) d (g x)) xs ≡ min c (sum_of (λ x. due (left (at x)) d (rem (at x))) xs)

  -- nothing reaches its deadline with something owed
  abbrev pub NoMiss : List A → (A → ℕ) → Type 0
  NoMiss xs g = All (λ x. left (at x) ≤ 1 → rem (at x) ≤ g x) xs

  -- of x, if it is due within d: what it is owed, what it is given, and what it is still owed then
  abbrev pub owed : ℕ → A → ℕ
  owed d x = due (left (at x)) d (rem (at x))

  abbrev pub given : (A → ℕ) → ℕ → A → ℕ
  given g d x = due (left (at x)) d (g x)
