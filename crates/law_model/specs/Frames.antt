-- An interval, and what an opening makes of one. No other file opens these definitions. Assumes nothing.
use Rattle.std.proofs.Math.Path.{◌≡◌, refl}
use Rattle.std.proofs.Common.{ap, ◌∙◌, arith, ltb-true}
use Rattle.std.specs.Prelude.{Bool, cond, not, ℕ, ◌+◌, ◌*◌, ◌-◌, ◌≤◌, ◌<◌, ltb}
use Rattle.std.proofs.Math.Bool.{true, false}
use Rattle.spec_lists.specs.Lists.{within}
use Rattle.base_lists.specs.Tests.{within_both}
use Rattle.spec_model.specs.Frames.{slots_in, header_in, room_in}
use Rattle.spec_model.specs.Requests.{refusal}
use Rattle.spec_model.specs.declared.Frame.{Frame}
use Rattle.spec_model.specs.declared.Setting.{Setting}
use Rattle.spec_model.specs.Tables.{none_held}
use Rattle.spec_rules.specs.Settings.{unit_slots, slots_of, open_answer, Succeeds, frame_of, opened}

-- ---- what may be given, and the header
pub room_most : (F : Frame) → room_in F ≤ slots_in F
unfolding room_in
room_most F = omega arith

pub room_less : (F : Frame) → room_in F ≡ slots_in F - header_in F
unfolding room_in
room_less F = refl

pub room_header : (F : Frame) → header_in F ≤ slots_in F → room_in F + header_in F ≡ slots_in F
unfolding room_in
room_header F h = omega arith

-- the most slots of an interval, of 1,000 time units
abbrev pub most_slots : ℕ
most_slots = 1024000

-- ---- a successful opening
module _ (s : Setting) where
  -- both checks pass
  opening_both : Succeeds s → (within 1 1000 s.units ≡ true) × (ltb s.header (slots_of s) ≡ true)
  unfolding open_answer refusal
  opening_both h = go (within 1 1000 s.units) (ltb s.header (slots_of s)) h
    where
      go : (a b : Bool) → ◌≡◌ {A = ℕ} (cond (not a) 1 (cond (not b) 61 0)) 0 → (a ≡ true) × (b ≡ true)
      go true true z = (refl, refl)
      go true false z = absurd (omega arith)
      go false b z = absurd (omega arith)

  pub opening_units : Succeeds s → within 1 1000 s.units ≡ true
  opening_units h = (opening_both h).0

  pub opening_header : Succeeds s → s.header < slots_of s
  opening_header h = ltb-true s.header (slots_of s) (opening_both h).1

  pub units_opening : within 1 1000 s.units ≡ true → ltb s.header (slots_of s) ≡ true → Succeeds s
  unfolding open_answer refusal
  units_opening h k = rw (h, k)

  pub frame_slots : slots_in (frame_of s) ≡ slots_of s
  unfolding frame_of
  frame_slots = refl

  pub frame_header : header_in (frame_of s) ≡ s.header
  unfolding frame_of
  frame_header = refl

-- a table in which no place is held
pub opened_none : (s : Setting) → opened s ≡ none_held (frame_of s)
unfolding opened
opened_none s = refl

module _ {F : Frame} (o : (s : Setting) × Succeeds s × (F ≡ frame_of s)) where
  slots : slots_in F ≡ unit_slots * o.0.units
  slots = ap slots_in o.2 ∙ frame_slots o.0

  pub frame_some : unit_slots ≤ slots_in F
  frame_some = omega (arith, slots, within_both 1 1000 o.0.units (opening_units o.0 o.1))

  -- the header leaves a slot
  pub header_less : header_in F < slots_in F
  header_less = omega (arith, ap header_in o.2 ∙ frame_header o.0, slots, opening_header o.0 o.1)

  pub frame_most : slots_in F ≤ most_slots
  frame_most = omega (arith, slots, within_both 1 1000 o.0.units (opening_units o.0 o.1))
