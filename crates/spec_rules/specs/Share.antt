-- What each request gets of an interval: steps A to C of document 01, "One beacon"; document 02, No. 1.
-- F is the interval, es are the entries held. Assumes nothing.
use Rattle.std.specs.Prelude.{ℕ, ◌+◌, ◌*◌, ◌-◌, ◌/◌, min, Bool, true, cond, not, ◌&&◌, ◌||◌, List, [], ◌∷◌, map, ltb, leb, eqb}
use Rattle.spec_lists.specs.Lists.{keep, sum_of, sort}
use Rattle.spec_model.specs.Frames.{room_in}
use Rattle.spec_model.specs.Names.{same, lower}
use Rattle.spec_model.specs.Entries.{is_kind, is_piece, asks}
use Rattle.spec_model.specs.declared.Frame.{Frame}
use Rattle.spec_model.specs.declared.Name.{Name}
use Rattle.spec_model.specs.declared.Entry.{Entry}
use Rattle.spec_rules.specs.Header.{header_test}

-- A. capacity: what an entry takes of every interval, m times min for kind 1
unfoldable pub load_of : Entry → ℕ
load_of e = cond (is_kind 1 e) (e.parts * asks e) 0

unfoldable pub load : List Entry → ℕ
load es = sum_of load_of es

-- E is negative
abbrev pub overfull : Frame → List Entry → Bool
overfull F es = ltb (room_in F) (load es)

-- E, where it is not negative
abbrev pub capacity : Frame → List Entry → ℕ
capacity F es = room_in F - load es

-- B. kinds 2 and 3 take what they are owed: slots of the interval for a request
pub record Grant : Type 0 where
  pub name : Name
  pub slots : ℕ

abbrev pub grant : Name → ℕ → Grant
grant n x = record { name = n; slots = x }

-- what a list of grants has for a name
unfoldable pub slots_for : Name → List Grant → ℕ
slots_for n [] = 0
slots_for n (g ∷ gs) = let r = slots_for n gs in cond (same g.name n) g.slots r

-- fewest intervals left, then kind 2 before 3, then lower stream number
abbrev pub sooner : Entry → Entry → Bool
sooner e f =
    ltb e.left.0 f.left.0
    || (eqb e.left.0 f.left.0
    && (ltb e.kind f.kind || (eqb e.kind f.kind && lower e.name f.name)))

unfoldable pub order : List Entry → List Entry
order es = sort sooner (keep is_piece es)

-- each in turn takes the smaller of what it is owed and what is left, r
unfoldable pub take_turns : ℕ → List Entry → List Grant
take_turns r [] = []
take_turns r (e ∷ es) = let t = min e.owed.0 r in grant e.name t ∷ take_turns (r - t) es

unfoldable pub step_b : Frame → List Entry → List Grant
step_b F es = take_turns (capacity F es) (order es)

-- L
unfoldable pub remains : Frame → List Entry → ℕ
remains F es = capacity F es - sum_of (λ (g : Grant). g.slots) (step_b F es)

-- C. what remains is shared in proportion: d, for an entry with b slots of step B: what it may still get; a transfer has no part in it
abbrev pub headroom : Entry → ℕ → ℕ
headroom e b = cond (is_kind 1 e) (e.max.0 - asks e) (cond (is_kind 2 e) (e.max.0 - e.given.0 - b) 0)

-- the jobs of an entry in an interval: m for kind 1, one piece for the others
abbrev pub job_count : Entry → ℕ
job_count e = cond (is_kind 1 e) e.parts 1

-- ---- a sharing: L slots among those that take part, by what each may still get, d
-- d of an entry after the slots bs; 0 for one that does not take part
abbrev pub share_of : (takes_part : Entry → Bool) → List Grant → Entry → ℕ
share_of takes_part bs e = cond (takes_part e) (headroom e (slots_for e.name bs)) 0

-- W
unfoldable pub weight : (takes_part : Entry → Bool) → List Grant → List Entry → ℕ
weight takes_part bs es = sum_of (λ (e : Entry). job_count e * share_of takes_part bs e) es

-- the extra for d, of L to share among W
unfoldable pub extra : (L W d : ℕ) → ℕ
extra L W d = cond (ltb 0 L) (cond (leb W L) d (d * L / W)) 0

unfoldable pub share_among : (takes_part : Entry → Bool) → (L : ℕ) → List Grant → List Entry → List Grant
share_among takes_part L bs es =
    let W = weight takes_part bs es in
    map (λ (e : Entry). grant e.name (extra L W (share_of takes_part bs e))) es

-- ---- who takes part: everyone, where kind 1 passes the header test with what it would get; else all but kind 1
abbrev pub everyone : Entry → Bool
everyone e = true

-- min + extra
abbrev pub need_with : (cs : List Grant) → Entry → ℕ
need_with cs e = asks e + slots_for e.name cs

unfoldable pub extras_pass : Frame → List Entry → Bool
extras_pass F es = header_test F (need_with (share_among everyone (remains F es) (step_b F es) es)) es

abbrev pub takes_part : Frame → List Entry → Entry → Bool
takes_part F es e = extras_pass F es || not (is_kind 1 e)

unfoldable pub step_c : Frame → List Entry → List Grant
step_c F es = share_among (takes_part F es) (remains F es) (step_b F es) es
