-- The rows of a table's entries in the tie order have the table's jobs, and beside them jobs that need nothing: so their plan is the
-- table's. Assumes nothing.
use Rattle.std.specs.Prelude.{◌≡◌, refl, List, [], ◌∷◌, ◌++◌, map, drop, replicate}
use Rattle.std.proofs.Math.Path.{sym, ap, subst}
use Rattle.std.proofs.Common.{◌∙◌, arith, length-append}
use Prim.Native.Nat.{ℕ, zero, suc, ◌-◌, ◌≤◌}
use Rattle.std.proofs.Math.ListN.{length}
use Rattle.std.proofs.Math.Seq.{take-append_seam}
use Rattle.spec_lists.specs.Lists.{sum_of, concat_map}
use Rattle.spec_lists.specs.All.{All, stop, and}
use Rattle.base_lists.specs.All.{all_map, all_of_map, all_keep}
use Rattle.base_lists.specs.Sums.{sum_keep_le}
use Rattle.spec_model.specs.Entries.{free_entry, is_held}
use Rattle.spec_model.specs.Names.{nobody}
use Rattle.spec_model.specs.Frames.{slots_in, header_in}
use Rattle.spec_model.specs.Tables.{places, held_of}
use Rattle.spec_model.specs.declared.Frame.{Frame}
use Rattle.spec_model.specs.declared.Entry.{Entry}
use Rattle.spec_model.specs.declared.Table.{Table}
use Rattle.spec_rules.specs.Share.{Grant, job_count, step_b, step_c}
use Rattle.spec_rules.specs.Slots.{Job, jobs_from, jobs_of, job_need, job_length, jobs, tie_order, slots_from, runs_from}
use Rattle.spec_rules.specs.Calls.{plan_of}
use Rattle.spec_rules.specs.WellFormed.{Tidy}
use Rattle.law_steps.proofs.Places.{tidy_held}
use Rattle.law_steps.proofs.Closed.{slots_most}
use Rattle.law_ahead.proofs.Tables.{tidy_together}
use Rattle.law_model.specs.Frames.{room_less}
use Rattle.law_interval.proofs.Jobs.{tie_sum, all_tie, jobs_keys}
use Rattle.law_interval.proofs.Plan.{plan_runs}
use Rattle.law_steps.specs.Ranks.{rank}
use Rattle.table_queue.specs.Queues.{Used, jobs_few}
use Rattle.beacon_share.specs.Shares.{sharing_of, grant_of, grants_right}
use Rattle.beacon_share.specs.declared.Sharing.{Sharing}
use Rattle.beacon_order.specs.Filled.{filled, filled_behind, filled_all}
use Rattle.beacon_order.specs.Listed.{listed, order_of}
use Rattle.beacon_order.proofs.TiePlaces.{listed_ties, listed_places_lem, listed_length}
use Rattle.beacon_order.specs.declared.Order.{Order}
use Rattle.std.proofs.lemmas.List.{length-map}
use Rattle.std.proofs.lemmas.Simd.{map-map}
use Rattle.beacon_plan.specs.declared.JobRow.{JobRow}
use Rattle.beacon_plan.specs.Rows.{row_from, row_jobs, row_plan, Rows, Spare}
use Rattle.beacon_plan.specs.Needs.{needs_row, names_of, lengths_of, needs_of, Few}
use Rattle.beacon_plan.specs.RowLaws.{row_skipped, plan_skipped}
use Rattle.beacon_plan.specs.Skipped.{Skipped, over, skipped_append, skipped_names}
use Rattle.beacon_jobs.specs.Needs.{need_by, need_for, row_in}
use Rattle.beacon_jobs.specs.Limits.{free_none, length_free, length_held}
use Rattle.beacon_jobs.specs.Listing.{Listed, entry_at, found, rows_in, rows_size, rows_spare}

module _ (F : Frame) (s : Sharing) (ps : List Entry) where
  abbrev rows_of : List Entry → List Job
  rows_of os = let rs = map (row_in F s ps) os in row_jobs (names_of rs) (lengths_of rs) (needs_of rs)

  held_skipped : (bs cs : List Grant) {os : List Entry} → All (λ e. need_by (grant_of s ps e) e ≡ job_need bs cs e) os
      → Skipped (rows_of os) (concat_map (jobs_of F bs cs) os)
  unfolding row_jobs
  held_skipped bs cs stop = over
  held_skipped bs cs (and {x = e} q h) =
      skipped_append
      (subst (λ v. Skipped (row_from e.name (job_length F e) 0 (needs_row (job_count e) v)) (jobs_of F bs cs e)) (sym q)
      (row_skipped (job_count e) (16 - job_count e) e.name (job_length F e) (job_need bs cs e) 0))
      (held_skipped bs cs h)

  -- free places at the end
  free_skipped : (n : ℕ) → need_by (grant_of s ps free_entry) free_entry ≡ 0 → Skipped (rows_of (replicate n free_entry)) []
  unfolding row_jobs jobs_from
  free_skipped zero z = over
  free_skipped (suc n) z =
      skipped_append
      (subst (λ v. Skipped (row_from nobody (slots_in F) 0 (needs_row 1 v)) []) (sym z) (row_skipped 0 16 nobody (slots_in F) 0 0))
      (free_skipped n z)

  rows_skipped : (bs cs : List Grant) (n : ℕ) → need_by (grant_of s ps free_entry) free_entry ≡ 0
      → {os : List Entry} → All (λ e. need_by (grant_of s ps e) e ≡ job_need bs cs e) os
      → Skipped (rows_of (os ++ replicate n free_entry)) (concat_map (jobs_of F bs cs) os)
  unfolding row_jobs
  rows_skipped bs cs n z stop = free_skipped n z
  rows_skipped bs cs n z (and {x = e} q h) =
      skipped_append
      (subst (λ v. Skipped (row_from e.name (job_length F e) 0 (needs_row (job_count e) v)) (jobs_of F bs cs e)) (sym q)
      (row_skipped (job_count e) (16 - job_count e) e.name (job_length F e) (job_need bs cs e) 0))
      (rows_skipped bs cs n z h)

-- ---- a table's rows
module _ (t : Table) (w : Tidy t) where
  abbrev F : Frame
  F = t.frame

  abbrev es : List Entry
  es = held_of t

  abbrev os : List Entry
  os = tie_order es

  abbrev sh : Sharing
  sh = sharing_of t

  abbrev rs : List JobRow
  rs = map (row_in F sh t.entries) os

  -- all entries have a place
  length_sum : {A : Type 0} (xs : List A) → length xs ≡ sum_of (λ x. 1) xs
  length_sum [] = refl
  length_sum (x ∷ xs) = omega (arith, length_sum xs)

  tie_few : length (tie_order es) ≤ places
  tie_few =
      omega (
        arith,
        length_sum (tie_order es),
        tie_sum (tidy_held w) (λ e. 1),
        sum_keep_le (λ (e : Entry). 1) is_held t.entries,
        length_sum t.entries,
        w.size,
      )

  own_needs : All (λ e. need_by (grant_of sh t.entries e) e ≡ job_need (step_b F es) (step_c F es) e) (tie_order es)
  own_needs = all_tie (tidy_held w) (all_map (λ e q. ap (λ g. need_by g e) q) (grants_right t w))

  table_skipped : Skipped (rows_of F sh t.entries os) (jobs F es)
  unfolding jobs
  table_skipped = held_skipped F sh t.entries (step_b F es) (step_c F es) own_needs

  rows_fit : Rows (slots_in F) (names_of rs) (lengths_of rs) (needs_of rs)
  rows_fit =
      record {
        short = slots_most t w;
        each = all_of_map (λ r. r.length.0) (all_of_map (row_in F sh t.entries) (all_tie (tidy_held w) (length_held t w)));
        names = skipped_names table_skipped (jobs_keys (tidy_together w));
      }

  rows_plan : row_plan (slots_in F) (header_in F) (names_of rs) (lengths_of rs) (needs_of rs) ≡ plan_of t
  unfolding plan_of
  rows_plan =
      plan_skipped (slots_in F) (header_in F) _ _ _ table_skipped
      ∙ sym (plan_runs F es ∙ ap (λ n. runs_from (header_in F) (slots_from n (header_in F) (jobs F es))) (room_less F))

  -- a row has room for the jobs, and the plan for the rows
  rows_few : Few rs
  rows_few =
      record {
        rows = simp length-map tie_few;
        jobs = all_of_map (row_in F sh t.entries) (all_tie (tidy_held w) (all_keep is_held (λ e q l. l) (jobs_few t w)));
      }

  -- ---- the rows with free places behind them
  abbrev gs : List JobRow
  gs = map (row_in F sh t.entries) (filled os)

  filled_skipped : Skipped (rows_of F sh t.entries (filled os)) (jobs F es)
  unfolding jobs
  filled_skipped =
      subst (λ l. Skipped (rows_of F sh t.entries l) (jobs F es)) (sym (filled_behind os tie_few))
      (rows_skipped F sh t.entries (step_b F es) (step_c F es) (places - length os) (free_none t w) own_needs)

  filled_fit : Rows (slots_in F) (names_of gs) (lengths_of gs) (needs_of gs)
  filled_fit =
      record {
        short = slots_most t w;
        each = all_of_map (λ r. r.length.0)
            (all_of_map (row_in F sh t.entries) (filled_all _ (length_free t w) (all_tie (tidy_held w) (length_held t w))));
        names = skipped_names filled_skipped (jobs_keys (tidy_together w));
      }

  filled_plan : row_plan (slots_in F) (header_in F) (names_of gs) (lengths_of gs) (needs_of gs) ≡ plan_of t
  unfolding plan_of
  filled_plan =
      plan_skipped (slots_in F) (header_in F) _ _ _ filled_skipped
      ∙ sym (plan_runs F es ∙ ap (λ n. runs_from (header_in F) (slots_from n (header_in F) (jobs F es))) (room_less F))

  -- a row has room for the jobs
  counts_few : All (λ e. job_count e ≤ 16) (filled os)
  counts_few = filled_all _ (omega arith) (all_tie (tidy_held w) (all_keep is_held (λ e q l. l) (jobs_few t w)))

-- ---- rows that a program has made
module _ (t : Table) (w : Tidy t) {n : ℕ} (u : Used n t) {o : Order} (e : o ≡ order_of (map rank t.entries) n) where
  abbrev ps : List ℕ
  ps = listed (map rank t.entries) n

  few : length ps ≤ places
  few = omega (arith, listed_length t w n u.0 u.1, tie_few t w)

  -- the places of the order are those listed
  pub order_listed : Listed o
  order_listed =
      rw e
      (record {
        few = few;
        room = omega (arith, length-append ps (replicate (places - length ps) 0));
        each = rw (take-append_seam ps (replicate (places - length ps) 0)) (listed_places_lem t w n u.0 u.1);
      })

  found_tied : found t o ≡ tie_order (held_of t)
  found_tied =
      ap (found t) e
      ∙ ap (map (entry_at t)) (take-append_seam ps (replicate (places - length ps) 0))
      ∙ listed_ties t w n u.0 u.1

  rows_tied : rows_in t o ≡ filled (tie_order (held_of t))
  rows_tied = ap filled found_tied

  -- one for each place that is listed
  pub rows_made : {rs : List JobRow} → rs ≡ map (row_in t.frame (sharing_of t) t.entries) (found t o)
      → Rows (slots_in t.frame) (names_of rs) (lengths_of rs) (needs_of rs)
      × (Few rs × (row_plan (slots_in t.frame) (header_in t.frame) (names_of rs) (lengths_of rs) (needs_of rs) ≡ plan_of t))
  rows_made m = rw (m, found_tied) (rows_fit t w, (rows_few t w, rows_plan t w))

  -- with free places behind them: the same plan, and what stands behind needs nothing
  module _ {gs : List JobRow} (m : gs ≡ map (row_in t.frame (sharing_of t) t.entries) (rows_in t o)) where
    pub filled_made : Rows (slots_in t.frame) (names_of gs) (lengths_of gs) (needs_of gs)
        × (row_plan (slots_in t.frame) (header_in t.frame) (names_of gs) (lengths_of gs) (needs_of gs) ≡ plan_of t)
    filled_made = rw (m, rows_tied) (filled_fit t w, filled_plan t w)

    -- what each of the rows needs
    abbrev needs_in : Entry → List ℕ
    needs_in e = needs_row (job_count e) (need_for (sharing_of t) t.entries e)

    pub filled_spare : (o.count ≤ places) × Spare (slots_in t.frame) o.count (lengths_of gs) (needs_of gs)
    filled_spare =
        let row : Entry → JobRow = row_in t.frame (sharing_of t) t.entries in
        let size : JobRow → ℕ = λ r. r.length.0 in
        let need : JobRow → List ℕ = λ r. needs_row r.count r.need.0 in (
          order_listed.few,
          rw (m, map-map size row (rows_in t o), map-map need row (rows_in t o))
              (record {
                lengths = rows_spare t o order_listed (job_length t.frame);
                needs = subst (λ r. All (λ ns. ns ≡ r) (drop o.count (map needs_in (rows_in t o))))
                    (ap (needs_row 1) (free_none t w)) (rows_spare t o order_listed needs_in);
              }),
        )

    pub filled_sized : (length gs ≡ places) × All (λ r. r.count ≤ 16) gs
    filled_sized = (
      ap length m ∙ rows_size t o order_listed (row_in t.frame (sharing_of t) t.entries),
      rw (m, rows_tied) (all_of_map (row_in t.frame (sharing_of t) t.entries) (counts_few t w)),
    )
