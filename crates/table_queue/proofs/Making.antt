-- The loop that makes a table's queue: what it has found after i turns. Assumes nothing.
use mathlib.Core.Path.{◌≡◌, refl, sym, ap, subst, ◌∙◌}
use mathlib.Core.Bool.{false}
use mathlib.Core.List.{List, map}
use Prim.Native.Nat.{ℕ, ◌+◌, ◌*◌, ◌≤◌, ◌<◌}
use native.Mathlib.Omega.{arith}
use lib.ListN.{length, take, set, get_or, replicate, length-take}
use lib.Seq.{take_all}
use Rattle.spec_lists.specs.All.{stop}
use Rattle.base_lists.specs.All.{all_at}
use Rattle.base_lists.specs.Loops.{summed, summed_more, summed_all, map_at}
use Rattle.base_lists.specs.Spare.{Spare, spare_end, spare_more, begun, begun_more, begun_same, begun_all}
use Rattle.spec_model.specs.Entries.{free_entry, is_held}
use Rattle.spec_model.specs.declared.Entry.{Entry}
use Rattle.spec_model.specs.declared.Table.{Table}
use Rattle.spec_model.specs.Tables.{places}
use Rattle.spec_rules.specs.Share.{load, load_of}
use Rattle.spec_rules.specs.WellFormed.{Tidy}
use Rattle.law_model.specs.Frames.{most_slots}
use Rattle.law_model.specs.Loads.{load_of_free}
use Rattle.law_steps.proofs.Places.{load_places}
use Rattle.law_steps.proofs.Closed.{load_most}
use Rattle.law_steps.proofs.Ranks.{rank_free}
use Rattle.std.proofs.lemmas.List.{length-map}
use Rattle.std.proofs.lemmas.Simd.{map-map}
use Rattle.table_places.proofs.Known.{inside, past}
use Rattle.table_queue.specs.declared.Queue.{Queue}
use Rattle.table_queue.specs.declared.Claim.{Claim}
use Rattle.table_queue.specs.Claims.{claim, no_claim, claim_of}
use Rattle.table_queue.specs.Queues.{Queued, free_place}

-- the claims of the first i places: that of a free one is what all began with
pub record Making (t : Table) (i : ℕ) (q : Queue) : Type 0 where
  pub within : i ≤ places
  pub last : q.used ≤ i
  pub free : Spare free_entry q.used (take i t.entries)
  pub load : q.load ≡ summed load_of i t.entries
  pub small : q.load ≤ most_slots * i
  pub claims : q.claims ≡ begun (claim_of free_entry) places i (map claim_of t.entries)

abbrev pub queue : (used load : ℕ) (claims : List Claim) → Queue
queue n all cs = record { used = n; load = all; claims = cs }

module _ (t : Table) (p : length t.entries ≡ places) (w : Tidy t) where
  pub making_none : Making t 0 (queue 0 0 (replicate places no_claim))
  making_none =
      record {
        within = omega arith;
        last = omega arith;
        free = stop;
        load = refl;
        small = omega arith;
        claims = ap (λ r. replicate places (claim r 0 0 0)) (sym rank_free);
      }

  sized : length (map claim_of t.entries) ≡ places
  sized = omega (arith, length-map t.entries claim_of)

  module _ {i : ℕ} {q : Queue} (m : Making t i q) (h : i < places) where
    abbrev here : Entry
    here = get_or t.entries i free_entry

    read : get_or (map claim_of t.entries) i no_claim ≡ claim_of here
    read = map_at claim_of t.entries i free_entry no_claim (inside t p h)

    pub load_small : load_of here ≤ most_slots
    load_small = all_at (λ e. load_of e ≤ most_slots) t.entries free_entry (load_most t w) i (inside t p h)

    -- a place that is held
    pub making_more : {v : ℕ} {c : Claim} → v ≡ load_of here → c ≡ claim_of here → Making t (i + 1) (queue (i + 1) (q.load + v) (set q.claims i c))
    making_more a b =
        record {
          within = omega arith;
          last = omega arith;
          free = spare_end free_entry (i + 1) (take (i + 1) t.entries) (omega (arith, length-take (i + 1) t.entries));
          load = summed_more load_of t.entries i free_entry (inside t p h) m.load a;
          small = omega (arith, load_small, m.small);
          claims = begun_more (claim_of free_entry) places i (map claim_of t.entries) no_claim sized h m.claims (b ∙ sym read);
        }

    -- a free one adds nothing
    pub making_same : is_held here ≡ false → Making t (i + 1) q
    making_same z =
        record {
          within = omega arith;
          last = omega (arith, m.last);
          free = spare_more free_entry q.used i t.entries free_entry (inside t p h) free m.free;
          load = more;
          small = omega (arith, m.small);
          claims = begun_same (claim_of free_entry) places i (map claim_of t.entries) no_claim sized h m.claims (read ∙ ap claim_of free);
        }
      where
        free : here ≡ free_entry
        free = free_place t w i free_entry (inside t p h) z

        more : q.load ≡ summed load_of (i + 1) t.entries
        more = omega (arith, summed_more load_of t.entries i free_entry (inside t p h) m.load (sym (ap load_of free ∙ load_of_free)))

  -- all places are read
  pub making_all : {i : ℕ} {q : Queue} → Making t i q → places ≤ i → Queued t q
  unfolding load
  making_all {i} {q} m h =
      record {
        used = (omega (arith, m.within, m.last), subst (Spare free_entry q.used) (take_all i t.entries (past t p h)) m.free);
        load = m.load ∙ summed_all load_of t.entries i (past t p h) ∙ load_places t w;
        ranks = column (λ c. c.rank);
        owed = column (λ c. c.owed.0);
        limits = column (λ c. c.limit.0);
        jobs = column (λ c. c.jobs);
      }
    where
      whole : q.claims ≡ map claim_of t.entries
      whole =
          m.claims
          ∙ begun_all (claim_of free_entry) places i (map claim_of t.entries) sized
          (spare_end (claim_of free_entry) i (map claim_of t.entries) (omega (arith, sized)))

      column : (f : Claim → ℕ) → map f q.claims ≡ map (λ e. f (claim_of e)) t.entries
      column f = ap (map f) whole ∙ map-map f claim_of t.entries
