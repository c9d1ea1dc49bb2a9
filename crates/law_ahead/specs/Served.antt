-- Entries some intervals on, where neither a life nor a period ends by then: what is shared in them can be shared as one. An entry takes
-- of the slots of all of them what it takes of each in turn, since the order stays, and those before it take first. Assumes nothing.
use Rattle.std.specs.Prelude.{◌≡◌, List, map}
use Rattle.std.proofs.Math.Bool.{true}
use Prim.Native.Nat.{ℕ, ◌+◌, ◌-◌, ◌≤◌}
use Rattle.spec_model.specs.Entries.{is_piece}
use Rattle.spec_model.specs.declared.Entry.{Entry}
use Rattle.spec_rules.specs.Ahead.{standing}
use Rattle.law_steps.specs.Closed.{takes}

-- ---- an entry n intervals on, of which it has b slots
abbrev pub later : (n b : ℕ) → Entry → Entry
later n b e = standing e (e.life_left.0 - n) (e.owed.0 - b) (e.given.0 + b) (e.left.0 - n)

-- ---- all entries n intervals on, which have c slots to share
abbrev pub served : (n c : ℕ) → List Entry → List Entry
served n c ps = map (λ e. later n (takes c ps e) e) ps

-- no period ends within n intervals
abbrev pub Lasts : ℕ → Entry → Type 0
Lasts n e = is_piece e ≡ true → n ≤ e.left.0
