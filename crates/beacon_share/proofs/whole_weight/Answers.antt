use Rattle.std.proofs.Common.{◌≡◌, Bool, List, ℕ, ◌*◌, ◌-◌, ◌≤◌, ◌<◌, length, get_or, sym, ap₂, ◌∙◌, arith}
use Rattle.std.proofs.Math.Nat.{mul-le-mul}
use Rattle.std.proofs.lemmas.List.{length-map}
use Rattle.spec_lists.specs.All.{All}
use Rattle.base_lists.specs.All.{all_at}
use Rattle.base_lists.specs.Loops.{map_at, summed_more, summed_all}
use Rattle.spec_model.specs.Tables.{places}
use Rattle.spec_model.specs.declared.Slots.{Slots}
use Rattle.table_queue.specs.Claims.{no_claim, jobs_of}
use Rattle.table_queue.specs.Queues.{largest32}
use Rattle.table_queue.specs.Zips.{zip, length_zip, zip_at}
use Rattle.table_queue.specs.declared.Claim.{Claim}
use Rattle.beacon_share.specs.Shares.{rooms_by}
use Rattle.beacon_share.specs.InUse.{slots, numbers, limits_of, limit_among, limits_length, limit_found}
use Rattle.beacon_share.proofs.whole_weight.Invariants.{most, times}
use Rattle.beacon_share.proofs.whole_weight.Goals as goal

abbrev room : (piece limit : ℕ) → ℕ
room p d = d - p

module _ (fractions : Bool) (cs : List Claim) (ps : List Slots) (few : length cs ≤ places) (all : length ps ≡ places) where
  abbrev rooms : List ℕ
  rooms = rooms_by (limits_of fractions cs) (numbers ps)

  abbrev weights : List ℕ
  weights = zip times (jobs_of cs) rooms

  rooms-sized : length rooms ≡ length cs
  rooms-sized = omega (arith, length_zip room (numbers ps) (limits_of fractions cs), length-map ps (λ (x : Slots). x.0), limits_length fractions cs)

  weights-sized : length weights ≡ length cs
  weights-sized = omega (arith, length_zip times (jobs_of cs) rooms, length-map cs (λ (c : Claim). c.jobs), rooms-sized)

  -- the weight of the room of a turn
  weighed : (i : ℕ) {d : ℕ} → i < length cs
      → d ≡ limit_among fractions (get_or cs i no_claim).jobs (get_or cs i no_claim).limit.0 - (get_or ps i (slots 0)).0
      → (get_or cs i no_claim).jobs * d ≡ get_or weights i 0
  weighed i h e =
      sym (zip_at times (jobs_of cs) rooms i 0 0 0 (omega (arith, length-map cs (λ (c : Claim). c.jobs))) (omega (arith, rooms-sized))
      ∙ ap₂ times (map_at (λ (c : Claim). c.jobs) cs i no_claim 0 h)
      (zip_at room (numbers ps) (limits_of fractions cs) i 0 0 0 (omega (arith, length-map ps (λ (x : Slots). x.0))) (omega (arith, limits_length fractions cs))
      ∙ ap₂ room (map_at (λ (x : Slots). x.0) ps i (slots 0) 0 (omega arith)) (limit_found fractions cs i h) ∙ sym e))

small : (cs : List Claim) (i : ℕ) {d : ℕ} → All (λ m. m ≤ 16) (jobs_of cs) → i < length cs → d ≤ largest32 → (get_or cs i no_claim).jobs * d ≤ most
small cs i a h low =
    let few = all_at (λ m. m ≤ 16) (jobs_of cs) 0 a i (omega (arith, length-map cs (λ (c : Claim). c.jobs))) in
    let own : (get_or cs i no_claim).jobs ≤ 16 = omega (arith, few, map_at (λ (c : Claim). c.jobs) cs i no_claim 0 h) in
    mul-le-mul own low

pub overflow_add-weight : goal.overflow_add-weight
overflow_add-weight c =
    let s = small c.args.claims.now c.loop-i.i {d = c.room_of-room.result.0} c.requires.1 c.loop-i-test.true (omega arith) in
    omega (arith, c.requires.0)

pub loop-i-preserved : goal.loop-i-preserved
loop-i-preserved c =
    let a = c.args in
    let cs = a.claims.now in
    let ps = a.pieces.now in
    let few = c.requires.0 in
    let all : length ps ≡ places = omega arith in
    let s = small cs c.loop-i.i {d = c.room_of-room.result.0} c.requires.1 c.loop-i-test.true (omega arith) in
    let v = c.loop-i.invariant in (
      omega arith,
      summed_more (λ w. w) (weights a.fractions cs ps few all) c.loop-i.i 0 (omega (arith, weights-sized a.fractions cs ps few all)) v.1
          (weighed a.fractions cs ps few all c.loop-i.i c.loop-i-test.true c.room_of-room.ensures),
      omega arith,
    )

pub returns : goal.returns
returns c =
    let a = c.args in
    let all : length a.pieces.now ≡ places = omega arith in
    c.loop-i.invariant.1
    ∙ summed_all (λ w. w) (weights a.fractions a.claims.now a.pieces.now c.requires.0 all) c.loop-i.i
    (omega (arith, c.loop-i-test.false, weights-sized a.fractions a.claims.now a.pieces.now c.requires.0 all))
