-- `beacon_share::pieces` meets its contract. The invariant: the first i places have their pieces, and the others none. Assumes nothing.
use Rattle.std.proofs.Common.{length}
use Rattle.base_lists.specs.Spare.{Filling}
use Rattle.beacon_share.specs.InUse.{slots, pieces_by}
use Rattle.beacon_share.proofs.pieces.Given as goal

abbrev pub invariant-loop-i : goal.invariant-loop-i
invariant-loop-i l = Filling (slots 0) (pieces_by l.capacity.0 l.claims) (length l.claims) l.pieces l.i
