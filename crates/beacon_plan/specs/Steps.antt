-- The plan by events: what stands at time t, where it begins, what a run of one job or idle time makes of it, and that it ends with the
-- plan. Assumes nothing.
use Rattle.std.specs.Prelude.{◌≡◌, refl, Option, None, Some, List, [], ◌++◌, map, ℕ, ◌+◌, ◌*◌, ◌-◌, ◌≤◌, ◌<◌, min, get_or, drop}
use Rattle.std.proofs.Math.Path.{sym, ap}
use Rattle.std.proofs.Common.{subst, subst₂, ◌∙◌, append_assoc, length-set, length-append, length-drop}
use Rattle.std.proofs.Math.Option.{none, some}
use native.Mathlib.Omega.{arith}
use Rattle.std.proofs.Math.ListN.{length}
use Rattle.spec_lists.specs.Lists.{keep}
use Rattle.spec_lists.specs.All.{All}
use Rattle.base_lists.specs.All.{all_at}
use Rattle.spec_model.specs.Names.{nobody}
use Rattle.spec_model.specs.Tables.{places, no_place}
use Rattle.spec_model.specs.declared.Name.{Name}
use Rattle.spec_rules.specs.Slots.{Job, choose, slots_from, Run, runs_from}
use Rattle.spec_rules.specs.Records.{record_words, plan_words, words_of}
use Rattle.law_slots.specs.Choice.{Keys, Choice, takes}
use Rattle.law_slots.proofs.Choice.{chooses, ready_both}
use Rattle.law_slots.specs.Events.{less_by, spent, Quiet, joined}
use Rattle.law_slots.proofs.Events.{idle_on, runs_joined, runs_idle}
use Rattle.law_model.specs.Frames.{most_slots}
use Rattle.law_model.specs.Records.{length_words}
use Rattle.plan_record.specs.Recorded.{recorded, recorded_after}
use Rattle.plan_record.specs.declared.Pen.{Pen}
use Rattle.plan_record.specs.Pens.{named, blank, open_run, end_of, closed, extended, extended_count, extended_ends}
use Rattle.beacon_plan.specs.Rows.{few_runs, unfinished, row_jobs, row_plan, Length, Rows}
use Rattle.beacon_plan.specs.Skipped.{Skipped, Changed, skipped_done, keys_spent, changed_spent, run_changed}
use Rattle.beacon_plan.specs.RowLaws.{Wide, need_at, with_need, job_in, in_row, in_rows, rows_changed, wide_with}
use Rattle.beacon_plan.specs.Heads.{first_left}
use Rattle.beacon_plan.specs.Places.{Short, short, no_release, releases_of, chosen_at, head_in, place_chosen}
use Rattle.beacon_plan.specs.declared.Progress.{Progress}
use Rattle.beacon_plan.specs.Progress.{rows_of, heads_in, chosen_from, chosen_placed, job_of, job_placed}
use Rattle.beacon_plan.specs.Next.{next_of, next_ahead, next_quiet}
use Rattle.beacon_plan.specs.Turns.{turns, next_turn, job_turn}
use Rattle.beacon_plan.specs.Pending.{pending, pending_end, pending_blank, extended_pending}

-- the runs from t on
abbrev to_run : (b t : ℕ) → List Job → List Run
to_run b t js = runs_from t (slots_from (b - t) t js)

-- what the rows have, however their jobs run
pub record Given (b : ℕ) (ss : List Name) (Ts : List ℕ) : Type 0 where
  pub streams : length ss ≡ length Ts
  pub few : length Ts ≤ places
  pub short : b ≤ most_slots
  pub each : All (Length b) Ts

pub lengths_short : {b : ℕ} {ss : List Name} {Ts : List ℕ} → Given b ss Ts → Short Ts
lengths_short g = short g.short g.each

-- What stands at t: the jobs left, of those that need something; the records done, which are the first words; and the runs to come,
-- of which the pen has begun the first. Together they are the plan.
pub record State (b t : ℕ) (ss : List Name) (Ts : List ℕ) (total : List Run) (old ws : List ℕ) (nss : List (List ℕ)) (p : Pen) : Type 0 where
  pub given : Given b ss Ts
  pub time : t ≤ b
  pub rows : length nss ≡ length Ts
  pub wide : Wide nss
  pub left : List Job
  pub skipped : Skipped (row_jobs ss Ts nss) left
  pub names : Keys left
  pub done : List Run
  pub count : length done ≡ p.count
  pub words : ws ≡ words_of done ++ drop (record_words * p.count) old
  pub plan : done ++ pending p (to_run b t (row_jobs ss Ts nss)) ≡ total
  pub ended : end_of p.run ≤ t

pub begin : {b h : ℕ} {ss : List Name} {Ts : List ℕ} {nss : List (List ℕ)} (old : List ℕ) → Rows b ss Ts nss → Given b ss Ts → h ≤ b
    → length nss ≡ length Ts → Wide nss → {p : Pen} → p ≡ blank → State b h ss Ts (row_plan b h ss Ts nss) old old nss p
unfolding row_plan words_of
begin {b} {h} {ss} {Ts} {nss} old r g q l w e =
    rw e record {
      given = g;
      time = q;
      rows = l;
      wide = w;
      left = keep unfinished (row_jobs ss Ts nss);
      skipped = skipped_done (row_jobs ss Ts nss);
      names = r.names;
      done = [];
      count = refl;
      words = refl;
      plan = pending_blank (to_run b h (row_jobs ss Ts nss));
      ended = omega arith;
    }

-- a chosen job needs something
pub chosen_needs : (t : ℕ) (js : List Job) {k : Job} → choose t js ≡ some k → 1 ≤ k.need
chosen_needs t js {k} e = go (subst (Choice t js) e (chooses t js))
  where
    go : Choice t js (some k) → 1 ≤ k.need
    go (takes pick r a) = (ready_both t k r).1

module _ {b t : ℕ} {ss : List Name} {Ts : List ℕ} {total : List Run} {old ws : List ℕ} {nss : List (List ℕ)} {p : Pen}
    (s : State b t ss Ts total old ws nss p) where
  -- room for a record more
  pub room : length total ≤ few_runs → plan_words ≤ length old
      → (length ws ≡ length old) × (record_words * (p.count + 1) ≤ length ws)
  room f l =
      let few : p.count ≤ few_runs =
      omega (arith, s.count, ap length s.plan, length-append s.done (pending p (to_run b t (row_jobs ss Ts nss)))) in
      let same : length ws ≡ length old =
      ap length s.words ∙ length-append (words_of s.done) (drop (record_words * p.count) old)
      ∙ omega (arith, s.count, length_words s.done, length-drop (record_words * p.count) old) in
      (same, omega arith)

  pub finish : b ≤ t
      → (p.count + length (open_run p) ≡ length total)
      × (recorded p.count (open_run p) ws ≡ words_of total ++ drop (record_words * (p.count + length (open_run p))) old)
  unfolding slots_from runs_from
  finish h =
      let z : b - t ≡ 0 = omega arith in
      let e : s.done ++ open_run p ≡ total =
      ap (λ l. s.done ++ l)
      (sym (ap (λ n. pending p (runs_from t (slots_from n t (row_jobs ss Ts nss)))) z ∙ pending_end p)) ∙ s.plan in (
        omega (arith, s.count, sym (length-append s.done (open_run p)) ∙ ap length e),
        ap (recorded p.count (open_run p)) s.words ∙ recorded_after old s.done (open_run p) p.count s.count ∙ rw e,
      )

  -- the place chosen: its first unfinished job is the choice, and one of its sixteen; or there is none
  module _ (h : t < b) {ps : List Progress} (k : ps ≡ rows_of Ts nss) {c : Option ℕ} (f : c ≡ chosen_from t 0 None no_release (heads_in ps)) where
    held : job_of (head_in ss Ts nss) c ≡ choose t (row_jobs ss Ts nss)
    held =
        let g = s.given in
        let x = chosen_placed t 0 no_place no_release Ts nss (omega (arith, g.short)) (omega arith) (omega (arith, g.few)) in
        ap (job_of (head_in ss Ts nss)) (f ∙ ap (λ l. chosen_from t 0 None no_release (heads_in l)) k ∙ x)
        ∙ job_placed (head_in ss Ts nss) (chosen_at t Ts (releases_of Ts (map first_left nss)))
        ∙ place_chosen t ss Ts nss g.streams s.rows g.few s.wide (lengths_short g) (omega (arith, g.short))

    pub none_chosen : c ≡ None → choose t (row_jobs ss Ts nss) ≡ none
    none_chosen e = sym held ∙ ap (job_of (head_in ss Ts nss)) e

    pub job_chosen : {i : ℕ} → c ≡ Some i → let j = first_left (get_or nss i []) in
        (choose t (row_jobs ss Ts nss) ≡ some (job_in ss Ts nss i j)) × ((i < length Ts) × (j < 16))
    job_chosen {i} e =
        let j : ℕ = first_left (get_or nss i []) in
        let o : choose t (row_jobs ss Ts nss) ≡ some (job_in ss Ts nss i j) = sym held ∙ ap (job_of (head_in ss Ts nss)) e in
        let n : 1 ≤ need_at nss i j = chosen_needs t (row_jobs ss Ts nss) o in
        let r : i < length nss = in_rows nss i j n in (
          o,
          (omega (arith, s.rows), omega (arith, in_row (get_or nss i []) j n, all_at (λ (ns : List ℕ). length ns ≡ 16) nss [] s.wide i r)),
        )

  module _ (h : t < b) where
    -- the next release
    pub coming : {m : ℕ} → m ≡ next_of b t Ts → (t < m) × (m ≤ b)
    coming f = next_ahead b t h s.given.each f

    -- a release has come, or the end
    pub idle_less : {m : ℕ} → m ≡ next_of b t Ts → turns b m (row_jobs ss Ts nss) < turns b t (row_jobs ss Ts nss)
    idle_less f =
        let g = s.given in
        rw f
        (next_turn b t ss Ts nss g.streams s.rows h g.each s.wide)

    -- Idle time, to the next release.
    pub idle_step : {m : ℕ} → m ≡ next_of b t Ts → choose t (row_jobs ss Ts nss) ≡ none → State b m ss Ts total old ws nss p
    idle_step {m} f e =
        let js : List Job = row_jobs ss Ts nss in
        let l : (t < m) × (m ≤ b) = coming f in
        let n : b - t ≡ m - t + (b - m) = omega arith in
        let x : t + (m - t) ≡ m = omega arith in
        let runs : to_run b t js ≡ to_run b m js =
        ap (λ y. runs_from t (slots_from y t js)) n
        ∙ ap (runs_from t) (idle_on (m - t) (b - m) t js e (next_quiet b t (m - t) ss Ts nss (omega arith)))
        ∙ runs_idle (m - t) t (slots_from (b - m) (t + (m - t)) js)
        ∙ ap (λ y. runs_from y (slots_from (b - m) y js)) x in
        record {
          given = s.given;
          time = l.1;
          rows = s.rows;
          wide = s.wide;
          left = s.left;
          skipped = s.skipped;
          names = s.names;
          done = s.done;
          count = s.count;
          words = s.words;
          plan = ap (λ rs. s.done ++ pending p rs) (sym runs) ∙ s.plan;
          ended = omega (arith, s.ended);
        }

    -- n slots of job j of row i, to the nearer of its end and the next release. The jobs are those of the rows with the need that is
    -- left; the run that ends, if any, is one record more; and the runs to come are the same.
    module _ (i j n : ℕ) (f : n ≡ min (need_at nss i j) (next_of b t Ts - t)) (w : i < length Ts) (y : j < 16)
        (e : choose t (row_jobs ss Ts nss) ≡ some (job_in ss Ts nss i j)) where
      -- one job of the rows needs n slots less
      left_changed : Changed (job_in ss Ts nss i j) (less_by n (job_in ss Ts nss i j)) (row_jobs ss Ts nss)
          (row_jobs ss Ts (with_need nss i j (need_at nss i j - n)))
      left_changed =
          let r : i < length nss = omega (arith, s.rows) in
          let g = s.given in
          rows_changed ss Ts nss i j (need_at nss i j - n) (omega (arith, g.streams)) w r
          (omega (arith, all_at (λ (ns : List ℕ). length ns ≡ 16) nss [] s.wide i r))

      -- the job has ended, or a release or the end has come
      pub job_less : turns b (t + n) (row_jobs ss Ts (with_need nss i j (need_at nss i j - n))) < turns b t (row_jobs ss Ts nss)
      job_less =
          job_turn b t n (next_of b t Ts) left_changed (chosen_needs t (row_jobs ss Ts nss) e) h f (coming refl).0 (idle_less refl)

      ran : let k = named (get_or ss i nobody) j in
          State b (t + n) ss Ts total old (recorded p.count (closed p k t) ws) (with_need nss i j (need_at nss i j - n)) (extended p k t n)
      ran =
          let k = named (get_or ss i nobody) j in
          let js : List Job = row_jobs ss Ts nss in
          let x : Job = job_in ss Ts nss i j in
          let ks : List Job = row_jobs ss Ts (with_need nss i j (need_at nss i j - n)) in
          let need : 1 ≤ x.need = chosen_needs t js e in
          let l : (t < next_of b t Ts) × (next_of b t Ts ≤ b) = coming refl in
          let one : 1 ≤ n = omega arith in
          let r : i < length nss = omega (arith, s.rows) in
          let z : b - t ≡ n + (b - (t + n)) = omega arith in
          let quiet : All (Quiet n t) js = next_quiet b t n ss Ts nss (omega arith) in
          let runs : to_run b t js ≡ joined n t k (to_run b (t + n) ks) =
          ap (λ m. runs_from t (slots_from m t js)) z
          ∙ ap (runs_from t) (run_changed n (b - (t + n)) t x s.skipped s.names e (omega arith) quiet left_changed need)
          ∙ runs_joined n t k (slots_from (b - (t + n)) (t + n) ks) one in
          record {
            given = s.given;
            time = omega arith;
            rows = length-set nss i _ ∙ s.rows;
            wide = wide_with nss i j _ r s.wide;
            left = map (spent n (some k)) s.left;
            skipped = changed_spent n need left_changed s.skipped s.names;
            names = keys_spent n (some k) s.left s.names;
            done = s.done ++ closed p k t;
            count = length-append s.done (closed p k t) ∙ omega (arith, s.count, extended_count p k t n);
            words = ap (recorded p.count (closed p k t)) s.words
                ∙ recorded_after old s.done (closed p k t) p.count s.count
                ∙ ap (λ m. words_of (s.done ++ closed p k t) ++ drop (record_words * m) old) (sym (extended_count p k t n));
            plan = append_assoc s.done (closed p k t) (pending (extended p k t n) (to_run b (t + n) ks))
                ∙ ap (λ rs. s.done ++ rs) (extended_pending p k t n one (to_run b (t + n) ks) ∙ ap (pending p) (sym runs))
                ∙ s.plan;
            ended = extended_ends p k t n s.ended;
          }

      -- where the words and the pen are such
      pub job_step : {vs : List ℕ} {o : Pen} → let k = named (get_or ss i nobody) j in
          vs ≡ recorded p.count (closed p k t) ws → o ≡ extended p k t n
          → State b (t + n) ss Ts total old vs (with_need nss i j (need_at nss i j - n)) o
      job_step x y = subst₂ (λ vs o. State b (t + n) ss Ts total old vs (with_need nss i j (need_at nss i j - n)) o) (sym x) (sym y) ran
