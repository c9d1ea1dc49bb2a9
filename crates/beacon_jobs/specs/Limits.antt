-- How long the jobs of an entry of a table are and how much they need: they fit the rows. Assumes nothing.
use Rattle.std.specs.Prelude.{◌≡◌, Bool, cond, ℕ, ◌+◌, ◌*◌, ◌≤◌}
use Rattle.std.proofs.Common.{ap, le_refl, mul-le-mul_left, mul-le-mul_right, arith, eq-eqb}
use Rattle.spec_lists.specs.All.{All}
use Rattle.base_lists.specs.Tests.{cond_le}
use Rattle.base_lists.specs.All.{all_keep}
use Rattle.spec_model.specs.Entries.{free_entry, is_held, is_kind}
use Rattle.spec_model.specs.Frames.{slots_in, part_of}
use Rattle.spec_model.specs.Tables.{held_of}
use Rattle.spec_model.specs.declared.Frame.{Frame}
use Rattle.spec_model.specs.declared.Entry.{Entry}
use Rattle.spec_model.specs.declared.Table.{Table}
use Rattle.spec_rules.specs.Share.{capacity, headroom}
use Rattle.spec_rules.specs.Slots.{job_length}
use Rattle.spec_rules.specs.WellFormed.{Tidy}
use Rattle.law_model.specs.Frames.{room_most, frame_some}
use Rattle.law_steps.specs.Held.{Fraction, Piece}
use Rattle.law_steps.proofs.Held.{not_fraction}
use Rattle.law_steps.proofs.Extras.{extra_le}
use Rattle.law_steps.proofs.Settled.{headroom_fraction, headroom_whole, headroom_transfer}
use Rattle.law_steps.proofs.Closed.{takes_owed, takes_most, slots_most, by_kind}
use Rattle.beacon_share.specs.Shares.{among, sharing_of, grant_of}
use Rattle.beacon_share.specs.declared.Sharing.{Sharing}
use Rattle.beacon_plan.specs.Rows.{Length}
use Rattle.beacon_jobs.specs.Needs.{need_by, Narrow}

module _ (t : Table) (w : Tidy t) where
  abbrev F : Frame
  F = t.frame

  abbrev B : ℕ
  B = slots_in F

  abbrev sh : Sharing
  sh = sharing_of t

  -- what an entry takes of the interval, and its extra
  abbrev piece : Entry → ℕ
  piece e = (grant_of sh t.entries e).piece.0

  abbrev more : Entry → ℕ
  more e = (grant_of sh t.entries e).extra.0

  more_le : (e : Entry) → more e ≤ headroom e (piece e)
  more_le e =
      omega (
        arith,
        extra_le sh.remains.0 sh.weight (cond (among sh.fractions e) (headroom e (piece e)) 0),
        cond_le (among sh.fractions e) (headroom e (piece e)),
      )

  piece_le : (e : Entry) → piece e ≤ B
  piece_le e = omega (arith, room_most F, takes_most (capacity F (held_of t)) t.entries e)

  -- a free place's one job needs nothing
  pub free_none : need_by (grant_of sh t.entries free_entry) free_entry ≡ 0
  free_none = omega (arith, more_le free_entry, takes_owed (capacity F (held_of t)) t.entries free_entry)

  -- m parts are the whole, so one is at most the whole
  part_le : (e : Entry) → Fraction F e → part_of F e.parts * 2 ≤ B
  part_le e f = omega (arith, mul-le-mul_left (part_of F e.parts) f.parts_least, f.whole)

  -- what is needed, by the test of kind
  need_by_lem : (e : Entry) {b : Bool} → is_kind 1 e ≡ b
      → need_by (grant_of sh t.entries e) e ≡ cond b (e.min.0 + more e) (piece e + more e)
  need_by_lem e q = ap (λ b. cond b (e.min.0 + more e) (piece e + more e)) q

  pub narrow_places : All (Narrow sh t.entries) t.entries
  narrow_places = by_kind t w (Narrow sh t.entries) (omega (arith, free_none)) fraction whole transfer
    where
      fraction : (e : Entry) → Fraction F e → Narrow sh t.entries e
      fraction e f =
          let q = eq-eqb e.kind 1 f.kind in
          omega (
            arith,
            need_by_lem e q,
            more_le e,
            headroom_fraction e (piece e) f.kind,
            f.least,
            f.most,
            part_le e f,
            slots_most t w,
          )

      whole : (e : Entry) → Piece F e → e.kind ≡ 2 → Narrow sh t.entries e
      whole e p k =
          let q = not_fraction e p.kind in
          let period = mul-le-mul_right B (p.period_whole k) in
          omega (
            arith,
            need_by_lem e q,
            piece_le e,
            more_le e,
            headroom_whole e (piece e) k,
            p.most k,
            period,
            slots_most t w,
          )

      transfer : (e : Entry) → Piece F e → e.kind ≡ 3 → Narrow sh t.entries e
      transfer e p k =
          let q = not_fraction e p.kind in
          omega (arith, need_by_lem e q, piece_le e, more_le e, headroom_transfer e (piece e) k, slots_most t w)

  -- ---- lengths
  some_slots : 1 ≤ B
  some_slots = omega (arith, frame_some w.setting)

  pub length_free : Length B (job_length F free_entry)
  length_free = record { some = some_slots; most = le_refl B; few = omega arith }

  pub length_held : All (λ e. Length B (job_length F e)) (held_of t)
  length_held =
      all_keep is_held (λ e q l. l)
      (by_kind t w (λ e. Length B (job_length F e)) length_free fraction (λ e p k. one e p) (λ e p k. one e p))
    where
      fraction : (e : Entry) → Fraction F e → Length B (job_length F e)
      fraction e f =
          rw (eq-eqb e.kind 1 f.kind)
          (record {
            some = omega (arith, f.min_least, f.least, f.most);
            most = omega (arith, part_le e f);
            few = omega (arith, mul-le-mul_left (part_of F e.parts) f.parts_most, f.whole);
          })

      one : (e : Entry) → Piece F e → Length B (job_length F e)
      one e p = rw (not_fraction e p.kind) length_free
