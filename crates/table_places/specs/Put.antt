-- An entry put past the last place changes nothing. Assumes nothing.
use Rattle.std.specs.Prelude.{◌≡◌, ℕ, ◌≤◌, length}
use Rattle.std.proofs.Common.{ap}
use Rattle.std.proofs.Math.Seq.{set_out}
use Rattle.spec_model.specs.declared.Entry.{Entry}
use Rattle.spec_model.specs.declared.Table.{Table}
use Rattle.spec_model.specs.Tables.{with_entries, put_in}

pub put_past : (t : Table) (p : ℕ) (e : Entry) → length t.entries ≤ p → put_in t p e ≡ t
put_past t p e h = ap (with_entries t) (set_out t.entries p e h)
