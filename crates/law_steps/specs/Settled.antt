-- One entry over one interval, in which it has b slots of step B and c slots of step C: what becomes of it, and that a held
-- entry stays held or leaves, so that what is owed stays the minimum less what was had, and what was had within the maximum.
-- Assumes nothing.
use Rattle.std.specs.Prelude.{◌≡◌, ◌⊎◌, true, ℕ, suc, ◌-◌, ◌≤◌}
use Rattle.spec_model.specs.Entries.{free_entry, is_piece}
use Rattle.spec_model.specs.declared.Entry.{Entry}
use Rattle.spec_model.specs.declared.Frame.{Frame}
use Rattle.spec_rules.specs.Share.{headroom}
use Rattle.spec_rules.specs.Ahead.{standing, passed, renewed, settled}
use Rattle.spec_rules.specs.WellFormed.{Held}
use Rattle.law_steps.specs.Held.{Piece}

abbrev pub after : (b c : ℕ) → Entry → Entry
after b c e = settled (passed b c e)

-- the b slots of step B and c slots of step C that an entry may be given: b is at most what a piece is owed, c is at most the
-- headroom, and a piece that is not given all that it is owed has none of step C
pub record Granted (b c : ℕ) (e : Entry) : Type 0 where
  pub owed : is_piece e ≡ true → b ≤ e.owed.0
  pub extra : c ≤ headroom e b
  pub last : is_piece e ≡ true → (c ≡ 0) ⊎ (b ≡ e.owed.0)

-- a life one shorter, all else the same
abbrev pub aged : Entry → Entry
aged e = standing e (e.life_left.0 - 1) e.owed.0 e.given.0 e.left.0

-- ---- a fraction stream
-- it leaves at the end of its life; until then only its life changes
pub data FractionFate (b c : ℕ) (e : Entry) : Type 0 where
  ended : e.life_left.0 ≡ 1 → after b c e ≡ free_entry → FractionFate b c e
  ages : 2 ≤ e.life_left.0 → after b c e ≡ aged e → FractionFate b c e

-- ---- a piece
-- it leaves at its last deadline, begins its next period, or goes on in this one
pub data PieceFate (b c : ℕ) {F : Frame} {e : Entry} (p : Piece F e) : Type 0 where
  over : e.left.0 ≡ 1 → e.life_left.0 ≡ 1 → p.following ≡ 0 → after b c e ≡ free_entry → PieceFate b c p
  anew : (j : ℕ) → e.kind ≡ 2 → e.left.0 ≡ 1 → p.following ≡ suc j → after b c e ≡ renewed (passed b c e) → PieceFate b c p
  on : (l : ℕ) → e.left.0 ≡ suc (suc l) → after b c e ≡ passed b c e → PieceFate b c p

-- x, which e became, is a free place or is held for e's stream
abbrev pub Stays : Frame → Entry → Entry → Type 0
Stays F e x = (x ≡ free_entry) ⊎ ((x.name ≡ e.name) × Held F x)
