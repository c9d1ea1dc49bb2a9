-- `beacon_share::grants_of` meets its contract. The invariant: the first i places have what they get, and the others nothing. Assumes nothing.
use Rattle.std.proofs.Common.{length}
use Rattle.base_lists.specs.Spare.{Filling}
use Rattle.beacon_share.specs.Shares.{granted}
use Rattle.beacon_share.specs.InUse.{grants_to}
use Rattle.beacon_share.proofs.grants_of.Given as goal

abbrev pub invariant-loop-i : goal.invariant-loop-i
invariant-loop-i l = Filling (granted 0 0) (grants_to l.s l.claims l.pieces) (length l.claims) l.grants l.i
