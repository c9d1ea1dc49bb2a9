-- The minimums of a table's streams added up by their parts, place by place: all but one place, and then with an entry put there. What a
-- place of a tidy table adds, and that no sum gets too large. Assumes nothing.
use Rattle.std.specs.Prelude.{◌≡◌, ◌⊎◌, ◌≢◌, Bool, List, ℕ, ◌+◌, ◌≤◌, ◌<◌, length, take, set, get_or, replicate}
use Rattle.std.proofs.Common.{ap, subst, ◌∙◌, inl, inr, div-le_self, arith, length-take, length-set, get_or-set_same, get_or-set_other}
use Rattle.std.proofs.Math.Decide.{ℕ_discrete}
use Rattle.spec_lists.specs.All.{All}
use Rattle.base_lists.specs.All.{all_map, all_take, all_at, at_all}
use Rattle.base_lists.specs.Spare.{Spare, spare_at_lem, spare_of}
use Rattle.spec_model.specs.Entries.{free_entry, asks}
use Rattle.spec_model.specs.Frames.{slots_in}
use Rattle.spec_model.specs.Tables.{places, held_of, put_in}
use Rattle.spec_model.specs.declared.Entry.{Entry}
use Rattle.spec_model.specs.declared.Frame.{Frame}
use Rattle.spec_model.specs.declared.Table.{Table}
use Rattle.spec_rules.specs.Header.{header_test}
use Rattle.spec_rules.specs.WellFormed.{Held, Tidy}
use Rattle.law_model.specs.Frames.{most_slots, frame_some, frame_most}
use Rattle.law_steps.specs.Held.{Fraction}
use Rattle.law_steps.proofs.Held.{held_kinds, piece_other}
use Rattle.law_steps.proofs.Places.{tidy_held}
use Rattle.table_queue.specs.Queues.{Used}
use Rattle.header_test.specs.Due.{Tells, parts_room, Summed, PartsIn, added, Passes}
use Rattle.header_test.specs.Sums.{SumsOf, sums_none, sums_more, sums_free, sums_all, sums_put, sums_held, sums_small}
use Rattle.header_test.specs.Passing.{held_counts, header_by_sums}

-- ---- a place of a table
-- free or held
abbrev pub Place : Frame → Entry → Type 0
Place F e = (e ≡ free_entry) ⊎ Held F e

-- what holds of each kind 1 stream as it is held holds there, if it is of kind 1
pub place_fraction : {F : Frame} {e : Entry} → Place F e → e.kind ≡ 1 → Fraction F e
place_fraction (inl z) k = absurd (omega (arith, ap (λ (x : Entry). x.kind) z))
place_fraction (inr h) k = elim (held_kinds h) [ inl f ↦ f | inr p ↦ absurd (piece_other p k) ]

pub place_parts : {F : Frame} {e : Entry} → Place F e → PartsIn e
place_parts w k = omega (arith, (place_fraction w k).parts_most)

-- of kind 1 a maximum is at most a period, and so at most the interval
pub place_max : {F : Frame} {e : Entry} → slots_in F ≤ most_slots → Place F e → e.kind ≡ 1 → e.max.0 ≤ most_slots
place_max {F} {e} b w k = omega (arith, (place_fraction w k).most, div-le_self (slots_in F) e.parts)

place_min : {F : Frame} {e : Entry} → slots_in F ≤ most_slots → Place F e → e.kind ≡ 1 → asks e ≤ most_slots
place_min b w k = omega (arith, (place_fraction w k).least, place_max b w k)

-- ---- all places but one
abbrev pub without : Table → (place : ℕ) → List Entry
without t place = set t.entries place free_entry

-- the sums of the first i of them
pub record Beside (t : Table) (place used i : ℕ) (sums : List ℕ) : Type 0 where
  pub inside : i ≤ used
  pub so_far : SumsOf asks (take i (without t place)) sums

module _ (t : Table) (w : Tidy t) {used : ℕ} (u : Used used t) (place : ℕ) where
  abbrev F : Frame
  F = t.frame

  others : All (Place F) (without t place)
  others = at_all (Place F) (without t place) free_entry one
    where
      one : (i : ℕ) → i < length (without t place) → Place F (get_or (without t place) i free_entry)
      one i h =
          let l : i < length t.entries = omega (arith, length-set t.entries place free_entry) in
          elim (ℕ_discrete i place) [
            | yes q ↦ inl (rw q (get_or-set_same t.entries place free_entry free_entry (omega arith)))
            | no q ↦ rw (get_or-set_other t.entries place i free_entry free_entry q)
                (all_at (Place F) t.entries free_entry w.entries i l)
          ]

  pub beside_none : Beside t place used 0 (replicate parts_room 0)
  beside_none = record { inside = omega arith; so_far = sums_none asks }

  module _ {i : ℕ} {sums : List ℕ} (b : Beside t place used i sums) where
    pub beside_small : Summed sums
    beside_small =
        sums_small asks (omega (arith, length-take i (without t place), length-set t.entries place free_entry, w.size))
        (all_take i (all_map (λ e p. place_min (frame_most w.setting) p) others)) b.so_far

    module _ (l : i < used) where
      within : i < length (without t place)
      within = omega (arith, length-set t.entries place free_entry, w.size, u.0)

      -- the place of the turn
      pub turn_parts : (d : Entry) → PartsIn (get_or t.entries i d)
      turn_parts d = place_parts (all_at (Place F) t.entries d w.entries i (omega (arith, w.size, u.0)))

      pub beside_more : (d : Entry) {n : ℕ} → i ≢ place → n ≡ asks (get_or t.entries i d)
          → Beside t place used (i + 1) (added n (get_or t.entries i d) sums)
      beside_more d q e =
          record {
            inside = omega arith;
            so_far = sums_more asks (without t place) i d within b.so_far (get_or t.entries i d)
                (get_or-set_other t.entries place i free_entry d q) e (turn_parts d);
          }

      pub beside_same : i ≡ place → Beside t place used (i + 1) sums
      beside_same q =
          record {
            inside = omega arith;
            so_far = sums_free asks (without t place) i free_entry within b.so_far
                (rw q (get_or-set_same t.entries place free_entry free_entry (omega (arith, w.size, u.0))));
          }

    -- after the last place in use
    pub beside_all : used ≤ i → SumsOf asks (without t place) sums
    beside_all h =
        let e : i ≡ used = omega (arith, b.inside) in
        sums_all asks used (without t place) spare (subst (λ j. SumsOf asks (take j (without t place)) sums) e b.so_far)
      where
        spare : Spare free_entry used (without t place)
        spare = spare_of free_entry used (without t place) free_entry one
          where
            one : (j : ℕ) → used ≤ j → j < length (without t place) → get_or (without t place) j free_entry ≡ free_entry
            one j k h =
                let l : j < length t.entries = omega (arith, length-set t.entries place free_entry) in
                elim (ℕ_discrete j place) [
                  | yes q ↦ rw q (get_or-set_same t.entries place free_entry free_entry (omega arith))
                  | no q ↦ get_or-set_other t.entries place j free_entry free_entry q
                      ∙ spare_at_lem free_entry used j t.entries free_entry u.1 k l
                ]

-- ---- with the entry
module _ (t : Table) (w : Tidy t) {place : ℕ} (h : place < places) (e : Entry) (v : Tidy (put_in t place e)) where
  put_place : Place t.frame e
  put_place =
      rw (get_or-set_same t.entries place e free_entry (omega (arith, w.size)))
      at (all_at (Place t.frame) (put_in t place e).entries free_entry v.entries place (omega (arith, v.size)))

  pub put_parts : PartsIn e
  put_parts = place_parts put_place

  module _ {n : ℕ} {sums : List ℕ} (q : n ≡ asks e) (s : SumsOf asks (without t place) sums) where
    all : SumsOf asks (put_in t place e).entries (added n e sums)
    all = sums_put asks t.entries place e (omega (arith, w.size)) q put_parts s

    pub put_small : Summed (added n e sums)
    put_small =
        sums_small asks (omega (arith, v.size)) (all_map (λ x p. place_min (frame_most v.setting) p) v.entries) all

    pub minimums_right : (r : Bool) → Tells r (Passes t.frame (added n e sums))
        → r ≡ header_test t.frame asks (held_of (put_in t place e))
    minimums_right r p =
        header_by_sums t.frame asks (omega (arith, frame_some v.setting)) (held_of (put_in t place e)) (added n e sums)
        (held_counts asks (tidy_held v) (all_map (λ x f k. (place_fraction {F = t.frame} (inr f) k).min_least) (tidy_held v)))
        (sums_held asks v.entries all) r p
