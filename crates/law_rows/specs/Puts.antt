-- An entry that is put past a table's last place, which is what the decision of a refused offer or withdrawal stands for. Assumes nothing.
use Rattle.std.specs.Prelude.{ℕ, ◌≤◌, ◌≡◌, refl, length, None, Some}
use Rattle.std.specs.Option.{option_map}
use Rattle.std.proofs.Common.{sym, ap, ◌∙◌, arith}
use Rattle.std.proofs.Math.Seq.{set_out}
use Rattle.spec_model.specs.declared.Entry.{Entry}
use Rattle.spec_model.specs.declared.Table.{Table}
use Rattle.spec_model.specs.Tables.{no_place, with_entries, put_in}
use Rattle.spec_shelf.specs.declared.Command.{Command}
use Rattle.spec_shelf.specs.Meaning.{State, state_after}
use Rattle.spec_shelf.specs.Room.{Ready}

-- an entry that is put past the last place changes nothing
pub none_put : (t : Table) (p : ℕ) (e : Entry) → length t.entries ≤ p → put_in t p e ≡ t
none_put t p e h = ap (with_entries t) (set_out t.entries p e h)

-- a call that changes nothing where there is no table changes nothing either where it puts an entry there
pub put_none : (s : State) (c : Command) (p : ℕ) (e : Entry) → Ready s → None ≡ state_after None c → no_place ≤ p
    → option_map (λ t. put_in t p e) s ≡ state_after s c → s ≡ state_after s c
put_none None c p e w k h q = k
put_none (Some t) c p e w k h q = sym (ap Some (none_put t p e (omega (arith, (w t refl).tidy.size)))) ∙ q
