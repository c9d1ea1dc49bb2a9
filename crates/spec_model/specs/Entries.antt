-- An entry of the table: free, and as accepted. Document 01, "Units and one request". Assumes nothing.
use Rattle.std.specs.Prelude.{ℕ, Bool, cond, not, ◌||◌, eqb}
use Rattle.spec_model.specs.Names.{same, nobody, is_nobody}
use Rattle.spec_model.specs.declared.Name.{Name}
use Rattle.spec_model.specs.declared.Entry.{Entry}
use Rattle.spec_model.specs.declared.Request.{Request}

-- a free place is all zero
abbrev pub free_entry : Entry
free_entry = record {
  name = nobody;
  kind = 0;
  parts = 0;
  period = record { 0 = 0 };
  min = record { 0 = 0 };
  max = record { 0 = 0 };
  life = record { 0 = 0 };
  life_left = record { 0 = 0 };
  owed = record { 0 = 0 };
  given = record { 0 = 0 };
  left = record { 0 = 0 };
}

abbrev pub is_held : Entry → Bool
is_held e = not (is_nobody e.name)

abbrev pub is_named : Name → Entry → Bool
is_named n e = same e.name n

abbrev pub is_kind : ℕ → Entry → Bool
is_kind k e = eqb e.kind k

-- kinds 2 and 3, which are served in pieces, one an interval
abbrev pub is_piece : Entry → Bool
is_piece e = is_kind 2 e || is_kind 3 e

-- what each of its periods asks: the minimum, of a transfer its amount
abbrev pub asks : Entry → ℕ
asks e = e.min.0

-- an entry on acceptance: owed = min, given = 0, intervals left = period; for kind 1 these are 0.
-- The period field is m for kind 1 (`parts`) and a count of intervals for the others (`period`)
unfoldable pub entry_of : Request → Entry
entry_of q =
    let fraction = eqb q.kind 1 in
    record {
      name = q.name;
      kind = q.kind;
      parts = cond fraction q.period 0;
      period = record { 0 = cond fraction 0 q.period };
      min = record { 0 = q.min };
      max = record { 0 = q.max };
      life = record { 0 = q.life };
      life_left = record { 0 = q.life };
      owed = record { 0 = cond fraction 0 q.min };
      given = record { 0 = 0 };
      left = record { 0 = cond fraction 0 q.period };
    }
