-- The name of a request: what tells requests apart, and orders them where nothing else does. Document 01, "Units and one request" and
-- "One beacon". Assumes nothing.
use Rattle.std.specs.Prelude.{ℕ, Bool, ltb, eqb}
use Rattle.spec_lists.specs.Lists.{within}
use Rattle.spec_model.specs.declared.Name.{Name}

unfoldable pub same : Name → Name → Bool
same a b = eqb a.stream b.stream

unfoldable pub lower : Name → Name → Bool
lower a b = ltb a.stream b.stream

unfoldable pub name_in_range : Name → Bool
name_in_range n = within 1 65535 n.stream

-- the name of a free place
abbrev pub nobody : Name
nobody = record { stream = 0 }

abbrev pub is_nobody : Name → Bool
is_nobody n = eqb n.stream 0

-- ---- the code's own: a number for a name in range, below `name_room`, the lower the sooner
unfoldable pub name_rank : Name → ℕ
name_rank n = n.stream

abbrev pub name_room : ℕ
name_room = 65536

-- and of any name: no larger
abbrev pub name_top : ℕ
name_top = 4503599627370495
