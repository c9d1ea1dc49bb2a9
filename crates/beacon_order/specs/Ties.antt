-- The tie rules as one order: sorting by it gives document 01's order, kind 1 by name and then the pieces by the order of
-- step B. Among held entries it is the order of their ranks. Assumes nothing.
use Rattle.std.specs.Prelude.{Bool, true, false, cond}
use Rattle.spec_model.specs.Entries.{is_kind}
use Rattle.spec_model.specs.declared.Entry.{Entry}
use Rattle.spec_rules.specs.Share.{sooner}
use Rattle.spec_rules.specs.Slots.{lower_named}

abbrev pub ties : Entry → Entry → Bool
ties e f = cond (is_kind 1 e) (cond (is_kind 1 f) (lower_named e f) true) (cond (is_kind 1 f) false (sooner e f))
