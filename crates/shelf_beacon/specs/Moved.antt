-- The table after a beacon, by what the call says moves the table on. Assumes nothing.
use Rattle.std.specs.Prelude.{◌≡◌, ℕ, ◌<◌}
use Rattle.std.proofs.Common.{sym, ◌∙◌}
use Rattle.spec_model.specs.declared.Table.{Table}
use Rattle.beacon_share.specs.declared.Shares.{Shares}
use Rattle.beacon_advance.specs.Moving.{Movable, moved_by}
use Rattle.beacon_advance.specs.Next.{moved_shares, shares_movable}
use Rattle.call_beacon.specs.Moves.{Moves}
use Rattle.spec_rules.specs.Calls.{advanced}

module _ {t : Table} {n : ℕ} {s : Shares} (m : Moves t n s (advanced t)) where
  pub movable : 0 < n → Movable t n s
  movable h = let k = m.moves h in shares_movable t k.0.0 k.0.1 k.1.0

  pub moved_on : {u : Table} → 0 < n → u ≡ moved_by s t → u ≡ advanced t
  moved_on h e = let k = m.moves h in e ∙ moved_shares t k.0.0 k.1.0

  pub stayed : n ≡ 0 → t ≡ advanced t
  stayed z = sym (m.stays z)
