-- An even share is enough: where every interval has, beside what kind 1 takes now, slots for each piece to be served evenly, in its period
-- and in those that follow, all are served in time, and looking ahead, but for the header test, says yes. The converse does not hold.
-- Assumes nothing.
use Rattle.std.specs.Prelude.{◌≡◌, Bool, true, false, cond, List}
use Rattle.std.proofs.Math.Logic.{⊎_elim}
use Prim.Native.Nat.{ℕ, zero, suc, ◌+◌, ◌*◌, ◌≤◌, ◌<◌, max}
use Rattle.std.proofs.Common.{zero-add, suc-add, le_trans, mul-le-mul_right, arith}
use borrow.Author.Tests.{eq-eqb}
use Rattle.spec_lists.specs.Lists.{sum_of, span}
use Rattle.base_lists.specs.All.{all_map}
use Rattle.base_lists.specs.Sums.{sum_le}
use Rattle.base_numbers.specs.Upward.{upward}
use Rattle.base_numbers.proofs.RoundingUp.{upward_enough}
use Rattle.base_edf.specs.Necessity.{Fed}
use Rattle.base_edf.proofs.Necessity.{fed_gone, fed_room}
use Rattle.spec_model.specs.Entries.{is_kind, asks}
use Rattle.spec_model.specs.declared.Entry.{Entry}
use Rattle.spec_model.specs.declared.Frame.{Frame}
use Rattle.spec_model.specs.Frames.{room_in}
use Rattle.spec_rules.specs.Share.{load}
use Rattle.spec_rules.specs.WellFormed.{Held}
use Rattle.law_steps.specs.Held.{Piece}
use Rattle.law_steps.proofs.Held.{held_kinds, piece_of_lem}
use Rattle.law_steps.specs.Sources.{source_of, load_at}
use Rattle.law_steps.proofs.Sources.{load_falls, fraction_source, piece_source}
use Rattle.law_ahead.specs.Moved.{Together}
use Rattle.law_ahead.specs.Timely.{loads_at}
use Rattle.law_ahead.proofs.Timely.{loads_now}
use Rattle.law_ahead.specs.KeepsUp.{keeps_up_ahead}
use Rattle.law_ahead.proofs.KeepsUp.{timely_ahead}
use Rattle.law_ahead.specs.Even.{evenly}

-- the same in every interval
span_first : (c l : ℕ) → span (λ _. c) 0 l ≡ c * l
span_first c zero = omega arith
span_first c (suc l) = omega (arith, span_first c l)

span_even : (c s l : ℕ) → span (λ _. c) s (s + l) ≡ c * l
span_even c zero l = rw zero-add (span_first c l)
span_even c (suc s) l = rw suc-add (span_even c s l)

-- ---- a piece is served in time
module _ {F : Frame} {e : Entry} (p : Piece F e) where
  now_enough : e.owed.0 ≤ evenly e * e.left.0
  unfolding evenly
  now_enough = rw (piece_of_lem e p.kind) (go (is_kind 2 e))
    where
      now : ℕ
      now = upward e.owed.0 e.left.0

      on : ℕ
      on = upward (asks e) e.period.0

      go : (b : Bool) → e.owed.0 ≤ cond b (max now on) now * e.left.0
      go true = le_trans (upward_enough e.owed.0 e.left.0 p.ahead) (mul-le-mul_right e.left.0 (omega arith))
      go false = upward_enough e.owed.0 e.left.0 p.ahead

  later_enough : 0 < p.following → asks e ≤ evenly e * e.period.0
  unfolding evenly
  later_enough h =
      rw (piece_of_lem e p.kind, eq-eqb e.kind 2 whole)
      (le_trans (upward_enough (asks e) e.period.0 p.period_least) (mul-le-mul_right e.period.0 (omega arith)))
    where
      whole : e.kind ≡ 2
      whole = ⊎_elim (λ k. k) (λ k. absurd (omega (arith, p.once k))) p.kind

even_fed : {F : Frame} (e : Entry) → Held F e → Fed (source_of e) (λ _. evenly e)
even_fed {F} e h = ⊎_elim (λ f. rw (fraction_source e f.kind) (fed_gone _)) piece (held_kinds h)
  where
    piece : Piece F e → Fed (source_of e) (λ _. evenly e)
    piece p =
        rw (piece_source p) (
          omega (arith, span_first (evenly e) e.left.0, now_enough p),
          λ k i. omega (arith, span_even (evenly e) (e.left.0 + k * e.period.0) e.period.0, later_enough p (omega arith)),
        )

-- ---- together
module _ (F : Frame) (es : List Entry) (w : Together F es) (h : load es + sum_of evenly es ≤ room_in F) where
  loads_fall : (t : ℕ) → loads_at es t + sum_of evenly es ≤ room_in F
  loads_fall t =
      omega (
        arith,
        loads_now F es w,
        sum_le (λ e. load_at e t) (λ e. load_at e 0) (all_map (load_falls t) w.held),
      )

  pub even_ahead : keeps_up_ahead F es ≡ true
  even_ahead =
      timely_ahead F es w
      (record {
        load = λ t. omega (arith, loads_fall t);
        room = fed_room source_of (λ e _. evenly e) _ (λ t. omega (arith, loads_fall t)) (all_map even_fed w.held);
      })
