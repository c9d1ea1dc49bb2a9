-- An entry as a source of the theory, a unit of whose time is an interval: a held piece asks what it is owed by its deadline and
-- then its minimum in each period that follows; a fraction stream asks nothing. Each takes its load of the capacity while it lives.
-- An interval makes of the entry what a step of the theory makes of its source. Assumes nothing.
use Rattle.std.specs.Prelude.{cond}
use Prim.Native.Nat.{ℕ, suc, ◌-◌, ◌/◌}
use Rattle.base_edf.specs.Time.{due}
use Rattle.base_edf.specs.Edf.{Source, source, gone}
use Rattle.spec_model.specs.Entries.{is_piece, asks}
use Rattle.spec_model.specs.declared.Entry.{Entry}
use Rattle.spec_rules.specs.Share.{load_of}

-- the period that runs is the current job, those that follow it in the life are the later ones; no job for other kinds
unfoldable pub source_of : Entry → Source
source_of e =
    let following = (e.life_left.0 - e.left.0) / e.period.0 in
    cond (is_piece e) (source e.owed.0 e.left.0 (asks e) e.period.0 following) gone

-- what an entry takes, while it lives, of the interval t intervals on
unfoldable pub load_at : Entry → ℕ → ℕ
load_at e t = due (suc t) e.life_left.0 (load_of e)
