-- The order of step B: fewest intervals left, then kind 2 before 3, then the lower name. It tells entries of different names
-- apart, so that sorting by it leaves each entry before all that follow it, and the deadlines never fall. Assumes nothing.
use Rattle.std.specs.Prelude.{◌≡◌, true, ◌<◌}
use Rattle.spec_model.specs.declared.Entry.{Entry}
use Rattle.spec_model.specs.Names.{lower}

-- e comes before f
pub data Before (e f : Entry) : Type 0 where
  by_left : e.left.0 < f.left.0 → Before e f
  by_kind : e.left.0 ≡ f.left.0 → e.kind < f.kind → Before e f
  by_name : e.left.0 ≡ f.left.0 → e.kind ≡ f.kind → lower e.name f.name ≡ true → Before e f
