-- The table after an interval, and looking ahead: step F and "Looking ahead" of document 01; document 02, No. 1. Assumes nothing.
use Rattle.std.specs.Prelude.{ℕ, zero, suc, ◌+◌, ◌-◌, Bool, true, false, cond, not, ◌&&◌, ◌||◌, List, [], map, ltb, eqb}
use Rattle.spec_lists.specs.Lists.{keep, most_of, any_of}
use Rattle.spec_model.specs.Entries.{free_entry, is_held, is_kind, is_piece, asks}
use Rattle.spec_model.specs.declared.Frame.{Frame}
use Rattle.spec_model.specs.declared.Entry.{Entry}
use Rattle.spec_rules.specs.Header.{header_test}
use Rattle.spec_rules.specs.Share.{Grant, slots_for, overfull, step_b}

-- F. the entry with another life left, owed, given and intervals left
abbrev pub standing : Entry → (lives owed given left : ℕ) → Entry
standing e lives owed given left =
    record {
      name = e.name;
      kind = e.kind;
      parts = e.parts;
      period = e.period;
      min = e.min;
      max = e.max;
      life = e.life;
      life_left = record { 0 = lives };
      owed = record { 0 = owed };
      given = record { 0 = given };
      left = record { 0 = left };
    }

-- with b slots of step B and c of step C owed falls by b, given grows by b and c, life and intervals left fall by one; kind 1 has a
-- life alone
unfoldable pub passed : (b c : ℕ) → Entry → Entry
passed b c e =
    let for_pieces : ℕ → ℕ = cond (is_kind 1 e) 0 in
    standing e (e.life_left.0 - 1) (for_pieces (e.owed.0 - b)) (for_pieces (e.given.0 + b + c)) (for_pieces (e.left.0 - 1))

-- the next period begins: owed is what it asks, given = 0, intervals left = period
unfoldable pub renewed : Entry → Entry
renewed e = standing e e.life_left.0 (asks e) 0 e.period.0

-- an entry with life 0 leaves; a kind 2 entry with 0 intervals left begins its next period
unfoldable pub settled : Entry → Entry
settled e = cond (eqb e.life_left.0 0) free_entry (cond (is_kind 2 e && eqb e.left.0 0) (renewed e) e)

-- a free place stays free, since its life is 0
unfoldable pub step_f : (bs cs : List Grant) → List Entry → List Entry
step_f bs cs es = map (λ (e : Entry). settled (passed (slots_for e.name bs) (slots_for e.name cs) e)) es

-- Looking ahead, steps A, B and F in turn: a kind 2 or 3 request ends the interval of its deadline with owed above 0
abbrev pub misses : List Grant → Entry → Bool
misses bs e = is_piece e && (eqb e.left.0 1 && ltb (slots_for e.name bs) e.owed.0)

-- in none of n intervals is E negative, or the header test failed with minimums, or a deadline missed
unfoldable pub goes_well : (n : ℕ) → Frame → List Entry → Bool
goes_well zero F es = true
goes_well (suc n) F es =
    let bs = step_b F es in
    let r = goes_well n F (keep is_held (step_f bs [] es)) in
    cond (overfull F es || (not (header_test F asks es) || any_of (misses bs) es)) false r

-- until every life is used up
unfoldable pub fits_ahead : Frame → List Entry → Bool
fits_ahead F es = goes_well (most_of (λ (e : Entry). e.life_left.0) es) F es
