use Rattle.std.proofs.Common.{◌≡◌, List, ℕ, ◌-◌, ◌≤◌, ◌<◌, length, get_or, sym, ap, ap₂, ◌∙◌, subst, arith}
use Rattle.std.proofs.lemmas.List.{length-map}
use Rattle.base_lists.specs.Loops.{map_at}
use Rattle.base_lists.specs.Spare.{Spare, filling_none, filling_more, filling_all}
use Rattle.spec_model.specs.Tables.{places}
use Rattle.spec_model.specs.declared.Slots.{Slots}
use Rattle.spec_rules.specs.Share.{extra}
use Rattle.table_queue.specs.Claims.{no_claim}
use Rattle.table_queue.specs.Zips.{length_zip, zip_at}
use Rattle.table_queue.specs.declared.Claim.{Claim}
use Rattle.beacon_share.specs.Shares.{granted, grants_by}
use Rattle.beacon_share.specs.InUse.{slots, numbers, filled, limits_of, limit_among, limits_length, limit_found, filled_sized, filled_at, filled_spare}
use Rattle.beacon_share.specs.declared.Granted.{Granted}
use Rattle.beacon_share.specs.declared.Sharing.{Sharing}
use Rattle.beacon_share.proofs.grants_of.Goals as goal

-- what a place gets by its numbers
abbrev own : (L W piece limit : ℕ) → Granted
own L W p d = granted p (extra L W (d - p))

module _ (s : Sharing) (cs : List Claim) (ps : List Slots) (few : length cs ≤ places) (all : length ps ≡ places) where
  abbrev found : List Granted
  found = grants_by s.remains.0 s.weight (limits_of s.fractions cs) (numbers ps)

  sized : length found ≡ length cs
  sized = omega (
    arith,
    length_zip (own s.remains.0 s.weight) (numbers ps) (limits_of s.fractions cs),
    length-map ps (λ (x : Slots). x.0),
    limits_length s.fractions cs,
  )

  here : (i : ℕ) → i < length cs
      → get_or found i (granted 0 0) ≡ own s.remains.0 s.weight (get_or ps i (slots 0)).0
      (limit_among s.fractions (get_or cs i no_claim).jobs (get_or cs i no_claim).limit.0)
  here i h =
      zip_at (own s.remains.0 s.weight) (numbers ps) (limits_of s.fractions cs) i 0 0 (granted 0 0)
      (omega (arith, length-map ps (λ (x : Slots). x.0))) (omega (arith, limits_length s.fractions cs))
      ∙ ap₂ (own s.remains.0 s.weight) (map_at (λ (x : Slots). x.0) ps i (slots 0) 0 (omega arith)) (limit_found s.fractions cs i h)

pub loop-i-init : goal.loop-i-init
loop-i-init c =
    let a = c.args in
    filling_none (filled_sized (granted 0 0) (found a.s a.claims.now a.pieces.now c.requires (omega arith))
    (omega (arith, sized a.s a.claims.now a.pieces.now c.requires (omega arith))))

pub loop-i-preserved : goal.loop-i-preserved
loop-i-preserved c =
    let a = c.args in
    let cs = a.claims.now in
    let all : length a.pieces.now ≡ places = omega arith in
    let l = sized a.s cs a.pieces.now c.requires all in
    let gs = found a.s cs a.pieces.now c.requires all in
    let i = c.loop-i.i in
    let z = c.extra.ensures ∙ ap (extra a.s.remains.0 a.s.weight) c.room_of-room.ensures in
    filling_more c.loop-i.invariant (granted 0 0) (omega (arith, l, filled_sized (granted 0 0) gs (omega (arith, l)))) c.loop-i-test.true
    (ap (granted _) z
    ∙ sym (filled_at (granted 0 0) gs (omega (arith, l)) i (omega (arith, l)) ∙ here a.s cs a.pieces.now c.requires all i c.loop-i-test.true))

pub returns : goal.returns
returns c =
    let a = c.args in
    let all : length a.pieces.now ≡ places = omega arith in
    let l = sized a.s a.claims.now a.pieces.now c.requires all in
    let gs = found a.s a.claims.now a.pieces.now c.requires all in
    filling_all c.loop-i.invariant c.loop-i-test.false
    (subst (λ n. Spare (granted 0 0) n (filled (granted 0 0) gs)) l (filled_spare (granted 0 0) gs (omega (arith, l))))
