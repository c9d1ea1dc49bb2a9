-- An even share is enough: where every interval has, beside what kind 1 takes now, slots for each piece to be served evenly, in its period
-- and in those that follow, all are served in time, and looking ahead, but for the header test, says yes. The converse does not hold.
-- Assumes nothing.
use Rattle.std.specs.Prelude.{cond}
use Prim.Native.Nat.{ℕ, max}
use Rattle.base_numbers.specs.Upward.{upward}
use Rattle.spec_model.specs.Entries.{is_kind, is_piece, asks}
use Rattle.spec_model.specs.declared.Entry.{Entry}

-- so many slots of each interval serve a piece in time: what it is owed by its deadline, and kind 2 its minimum in each later period
unfoldable pub evenly : Entry → ℕ
evenly e =
    let now = upward e.owed.0 e.left.0 in
    let on = upward (asks e) e.period.0 in
    cond (is_piece e) (cond (is_kind 2 e) (max now on) now) 0
