use Rattle.std.proofs.Common.{◌≡◌, List, map, ℕ, ◌≤◌, length, sym, ap, ◌∙◌, subst, arith}
use Rattle.std.proofs.lemmas.List.{length-map}
use Rattle.base_lists.specs.Loops.{map_at}
use Rattle.base_lists.specs.Spare.{Spare, filling_none, filling_more, filling_all}
use Rattle.spec_model.specs.Tables.{places}
use Rattle.spec_model.specs.declared.Slots.{Slots}
use Rattle.table_queue.specs.Claims.{no_claim}
use Rattle.table_queue.specs.declared.Claim.{Claim}
use Rattle.beacon_share.specs.InUse.{slots, filled, piece_among, filled_sized, filled_at, filled_spare}
use Rattle.beacon_share.proofs.pieces.Goals as goal

module _ (E : ℕ) (cs : List Claim) (few : length cs ≤ places) where
  abbrev own : Claim → Slots
  own c = slots (piece_among E cs c)

  sized : length (map own cs) ≡ length cs
  sized = length-map cs own

  room : length (map own cs) ≤ places
  room = omega (arith, sized)

pub loop-i-init : goal.loop-i-init
loop-i-init c =
    let a = c.args in
    filling_none (filled_sized (slots 0) (map (own a.capacity.0 a.claims.now c.requires) a.claims.now) (room a.capacity.0 a.claims.now c.requires))

pub loop-i-preserved : goal.loop-i-preserved
loop-i-preserved c =
    let E = c.args.capacity.0 in
    let cs = c.args.claims.now in
    let i = c.loop-i.i in
    let f : Claim → Slots = own E cs c.requires in
    let l = sized E cs c.requires in
    filling_more c.loop-i.invariant (slots 0) (omega (arith, l, filled_sized (slots 0) (map f cs) (room E cs c.requires))) c.loop-i-test.true
    (ap slots c.piece_of.ensures
    ∙ sym (filled_at (slots 0) (map f cs) (room E cs c.requires) i (omega (arith, l)) ∙ map_at f cs i no_claim (slots 0) c.loop-i-test.true))

pub returns : goal.returns
returns c =
    let E = c.args.capacity.0 in
    let cs = c.args.claims.now in
    let f : Claim → Slots = own E cs c.requires in
    filling_all c.loop-i.invariant c.loop-i-test.false
    (subst (λ n. Spare (slots 0) n (filled (slots 0) (map f cs))) (sized E cs c.requires) (filled_spare (slots 0) (map f cs) (room E cs c.requires)))
