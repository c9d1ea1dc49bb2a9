-- A table moved on by what each of its places is given, whatever that is: what is asked of it, and the table then. Assumes nothing.
use Rattle.std.specs.Prelude.{◌≡◌, ℕ, ◌+◌, ◌≤◌, ◌<◌, max, length, get_or}
use Rattle.std.proofs.Common.{ap, ◌∙◌}
use Rattle.spec_model.specs.Entries.{free_entry}
use Rattle.spec_model.specs.Tables.{with_entries}
use Rattle.spec_model.specs.declared.Entry.{Entry}
use Rattle.spec_model.specs.declared.Table.{Table}
use Rattle.law_steps.specs.Settled.{after}
use Rattle.table_queue.specs.Zips.{zip}
use Rattle.table_queue.specs.Queues.{Used}
use Rattle.beacon_share.specs.Shares.{grant_at}
use Rattle.beacon_share.specs.declared.Granted.{Granted}
use Rattle.beacon_share.specs.declared.Shares.{Shares}
use Rattle.beacon_advance.specs.Zipped.{zipped, zipped_at}

-- what an entry was given in its period, with its grant, is no more than an amount of its request: it has 32 bits
abbrev pub WithinAmounts : Granted → Entry → Type 0
WithinAmounts g e = e.given.0 + g.piece.0 + g.extra.0 ≤ max e.min.0 e.max.0

-- what becomes of an entry by its grant
abbrev pub after_grant : Granted → Entry → Entry
after_grant g e = after g.piece.0 g.extra.0 e

-- grants that the first n places may be given; the others are free
pub record Movable (t : Table) (n : ℕ) (s : Shares) : Type 0 where
  pub used : Used n t
  pub sized : length s.grants ≡ length t.entries
  pub within : (i : ℕ) → i < n → WithinAmounts (grant_at s i) (get_or t.entries i free_entry)

-- the table then
abbrev pub moved_by : Shares → Table → Table
moved_by s t = with_entries t (zip after_grant s.grants t.entries)

-- ---- a loop over the places, before place i
module _ (t : Table) (s : Shares) (e : length s.grants ≡ length t.entries) {next : Table} (i : ℕ)
    (so : next ≡ with_entries t (zipped after_grant i s.grants t.entries)) where
  -- it has not come to it
  pub unmoved : i < length t.entries → get_or next.entries i free_entry ≡ get_or t.entries i free_entry
  unmoved h = ap (λ (u : Table). get_or u.entries i free_entry) so ∙ zipped_at after_grant s.grants t.entries i free_entry e h
