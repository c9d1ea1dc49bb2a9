-- The needs of kind 1 with its extras, where everyone takes part, added up by the parts place by place; and who takes part of a well-formed
-- table's sharing where there is no header. Assumes nothing.
use Rattle.std.specs.Prelude.{◌≡◌, refl, ◌⊎◌, Bool, true, List, ℕ, ◌+◌, ◌≤◌, ◌<◌, length, take, get_or, replicate}
use Rattle.std.proofs.Common.{sym, ap, subst, ◌∙◌, inl, inr, zero-le, arith, length-take}
use Rattle.spec_lists.specs.All.{All}
use Rattle.base_lists.specs.All.{all_map, all_zip, all_at, all_take, all_kept}
use Rattle.spec_model.specs.Entries.{free_entry, is_held, asks}
use Rattle.spec_model.specs.Frames.{header_in}
use Rattle.spec_model.specs.Tables.{held_of}
use Rattle.spec_model.specs.declared.Entry.{Entry}
use Rattle.spec_model.specs.declared.Frame.{Frame}
use Rattle.spec_model.specs.declared.Table.{Table}
use Rattle.spec_rules.specs.Share.{slots_for, step_b, remains, share_of, share_among, everyone, need_with, extras_pass}
use Rattle.spec_rules.specs.WellFormed.{Held, Tidy, WellFormed}
use Rattle.law_model.specs.Frames.{most_slots, frame_some, frame_most}
use Rattle.law_steps.specs.Held.{Fraction, Piece}
use Rattle.law_steps.proofs.Held.{held_is, held_kinds, piece_other}
use Rattle.law_steps.proofs.Settled.{headroom_fraction}
use Rattle.law_steps.proofs.Places.{tidy_held}
use Rattle.law_steps.proofs.Extras.{among_within, all_take_part}
use Rattle.law_steps.proofs.Closed.{at_places, among_held}
use Rattle.law_ahead.proofs.Timely.{loads_now}
use Rattle.law_ahead.proofs.Tables.{formed_together, formed_fits}
use Rattle.law_interval.proofs.Jobs.{kinds_apart}
use Rattle.table_queue.specs.Queues.{Used}
use Rattle.beacon_share.specs.Shares.{sharing_among, shares_among, grant_of, grant_at, grant_among}
use Rattle.beacon_share.specs.declared.Granted.{Granted}
use Rattle.beacon_share.specs.declared.Shares.{Shares}
use Rattle.header_test.specs.Due.{Tells, parts_room, Summed, PartsIn, added, Passes}
use Rattle.header_test.specs.Sums.{SumsOf, sums_none, sums_more, sums_free, sums_all, sums_held, sums_small}
use Rattle.header_test.specs.Passing.{held_counts, header_by_sums}
use Rattle.header_test.specs.Minimums.{place_parts, place_max}

-- min + extra, where everyone takes part
abbrev pub need_in : Table → Entry → ℕ
need_in t e =
    let es = held_of t in
    need_with (share_among everyone (remains t.frame es) (step_b t.frame es) es) e

-- the sums of the first i places
pub record Added (t : Table) (used i : ℕ) (sums : List ℕ) : Type 0 where
  pub inside : i ≤ used
  pub so_far : SumsOf (need_in t) (take i t.entries) sums

module _ (t : Table) (w : Tidy t) where
  abbrev F : Frame
  F = t.frame

  abbrev es : List Entry
  es = held_of t

  abbrev need : Entry → ℕ
  need = need_in t

  -- by what the shares have for its place
  abbrev place_need : Entry → ℕ
  place_need e = asks e + (grant_of (sharing_among true t) t.entries e).extra.0

  held_need : All (λ e. place_need e ≡ need e) es
  held_need = all_map (λ e h. ap (λ v. asks e + v) (sym h)) (among_held t w everyone)

  -- of kind 1 it is at most the maximum
  need_most : All (λ e. e.kind ≡ 1 → need e ≤ most_slots) es
  need_most = all_zip (λ e h k f. one e h (held_kinds h) k f) (tidy_held w) (among_within everyone F es w.once)
    where
      one : (e : Entry) → Held F e → Fraction F e ⊎ Piece F e
          → slots_for e.name (share_among everyone (remains F es) (step_b F es) es) ≤ share_of everyone (step_b F es) e → e.kind ≡ 1 → need e ≤ most_slots
      one e h (inl f) k z =
          omega (arith, k, headroom_fraction e (slots_for e.name (step_b F es)) z, f.least, place_max (frame_most w.setting) (inr h) z)
      one e h (inr p) k z = absurd (piece_other p z)

  -- ---- place by place
  module _ {used : ℕ} (u : Used used t) {s : Shares} (q : s ≡ shares_among true t) where
    pub added_none : Added t used 0 (replicate parts_room 0)
    added_none = record { inside = zero-le; so_far = sums_none need }

    module _ {i : ℕ} {sums : List ℕ} (a : Added t used i sums) where
      pub added_small : Summed sums
      added_small =
          sums_small need (omega (arith, length-take i t.entries, w.size)) (all_take i (places_most)) a.so_far
        where
          places_most : All (λ e. e.kind ≡ 1 → need e ≤ most_slots) t.entries
          places_most = at_places t w (λ e. e.kind ≡ 1 → need e ≤ most_slots) (λ k. absurd (omega arith)) need_most

      module _ (h : i < used) where
        abbrev here : Entry
        here = get_or t.entries i free_entry

        there : i < length t.entries
        there = omega (arith, u.0, w.size)

        place : (here ≡ free_entry) ⊎ Held F here
        place = all_at (λ e. (e ≡ free_entry) ⊎ Held F e) t.entries free_entry w.entries i there

        pub added_parts : PartsIn here
        added_parts = place_parts place

        pub added_more : Added t used (i + 1) (added (here.min.0 + (grant_at s i).extra.0) here sums)
        added_more = record { inside = omega arith; so_far = go place }
          where
            got : (grant_at s i).extra.0 ≡ (grant_of (sharing_among true t) t.entries here).extra.0
            got = ap (λ (g : Granted). g.extra.0) (grant_among true t q i there)

            go : (here ≡ free_entry) ⊎ Held F here → SumsOf need (take (i + 1) t.entries) (added (here.min.0 + (grant_at s i).extra.0) here sums)
            go (inl z) =
                subst (λ x. SumsOf need (take (i + 1) t.entries) (added (x.min.0 + (grant_at s i).extra.0) x sums)) (sym z)
                (sums_free need t.entries i free_entry there a.so_far z)
            go (inr d) =
                sums_more need t.entries i free_entry there a.so_far here refl
                (ap (λ v. here.min.0 + v) got
                ∙ all_at (λ e. is_held e ≡ true → place_need e ≡ need e) t.entries free_entry
                (all_kept (λ e. place_need e ≡ need e) is_held t.entries held_need) i there (held_is d))
                added_parts

      -- all that are in use, and so all that are held
      pub added_all : used ≤ i → {r : Bool} → Tells r (Passes F sums) → r ≡ extras_pass F es
      unfolding extras_pass
      added_all h {r} p =
          let same : i ≡ used = omega (arith, a.inside) in
          let all = sums_held need w.entries (sums_all need i t.entries (rw same u.1) a.so_far) in
          header_by_sums F need (omega (arith, frame_some w.setting)) es sums
          (held_counts need (tidy_held w) (all_map (λ e d k. some e (held_kinds d) k) (tidy_held w))) all r p
        where
          some : (e : Entry) → Fraction F e ⊎ Piece F e → e.kind ≡ 1 → 1 ≤ need e
          some e (inl f) k = omega (arith, f.min_least)
          some e (inr d) k = absurd (piece_other d k)

-- without a header everyone takes part
pub all_share : {t : Table} → WellFormed t → header_in t.frame ≡ 0 → extras_pass t.frame (held_of t) ≡ true
all_share {t} w z =
    let F = t.frame in
    let es = held_of t in
    let together = formed_together w in
    all_take_part F es w.tidy.once z (omega (arith, frame_some w.tidy.setting)) together.held (kinds_apart together.held)
    (omega (arith, (formed_fits w).timely.load 0, loads_now F es together))
