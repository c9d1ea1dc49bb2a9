-- `beacon_plan::write_runs` meets its contract: from turn to turn by the laws of a state of the plan. Assumes nothing.
use Rattle.std.proofs.Common.{◌≡◌, sym, ap, ap₂, subst, ◌∙◌, List, [], ℕ, ◌+◌, ◌-◌, ◌≤◌, ◌<◌, min, length, get_or, set, arith}
use Rattle.std.proofs.lemmas.List.{length-map, map-set}
use Rattle.base_lists.specs.All.{all_at}
use Rattle.law_model.specs.Frames.{most_slots}
use Rattle.spec_model.specs.Frames.{slots_in, header_in}
use Rattle.spec_model.specs.Names.{nobody}
use Rattle.plan_record.specs.declared.Record.{Record}
use Rattle.plan_record.specs.Pens.{named, slots_of}
use Rattle.beacon_plan.specs.declared.JobRow.{JobRow}
use Rattle.beacon_plan.specs.declared.Progress.{Progress}
use Rattle.beacon_plan.specs.Rows.{row_jobs}
use Rattle.beacon_plan.specs.RowLaws.{need_at, with_need}
use Rattle.beacon_plan.specs.Needs.{names_of, lengths_of, needs_of, no_row, name_at, length_at, wide_needs, rows_few}
use Rattle.beacon_plan.specs.Heads.{first_left}
use Rattle.beacon_plan.specs.Next.{next_same}
use Rattle.beacon_plan.specs.Progress.{row_of, head_of, head_need, rows_begun, rows_of, row_at, rows_set, left_rows, left_in, left_at, no_progress}
use Rattle.beacon_plan.specs.Steps.{Given, lengths_short, begin, finish, room, chosen_needs, none_chosen, job_chosen, coming}
use Rattle.beacon_plan.specs.Steps.{idle_less, idle_step, job_less, job_step}
use Rattle.beacon_plan.proofs.write_runs.Goals as goal

-- row i, of which ps are kept
module _ (rs : List JobRow) (ps : List Progress) (i : ℕ) where
  abbrev row : JobRow
  row = get_or rs i no_row

  abbrev now : Progress
  now = get_or ps i no_progress

  -- its first unfinished job, by the lists
  abbrev j : ℕ
  j = first_left (get_or (left_in ps) i [])

  abbrev need : ℕ
  need = need_at (left_in ps) i j

  -- the slots that run
  abbrev slots : (t n : ℕ) → Record
  slots t n = slots_of (named (get_or (names_of rs) i nobody) j) t n

  same_slots : (t m : ℕ) → slots_of (named row.name (first_left now.left)) t (min (head_need now.left) m) ≡ slots t (min need m)
  same_slots t m = rw (name_at rs i, left_at ps i)

  module _ (k : ps ≡ rows_of (lengths_of rs) (left_in ps)) where
    head_kept : i < length (lengths_of rs) → i < length (left_in ps) → now.head ≡ head_of row.length.0 now.left
    head_kept h l =
        ap (λ qs. (get_or qs i no_progress).head) k
        ∙ ap (λ (q : Progress). q.head) (row_at (lengths_of rs) (left_in ps) i no_progress h l)
        ∙ ap₂ head_of (length_at rs i) (left_at ps i)

    -- what is left then, and that it is kept
    module _ (m : ℕ) {q : Progress} (e : q ≡ row_of row.length.0 (set now.left (first_left now.left) (head_need now.left - min (head_need now.left) m))) where
      abbrev rest : List ℕ
      rest = set (get_or (left_in ps) i []) j (need - min need m)

      made : q ≡ row_of (get_or (lengths_of rs) i 0) rest
      made = rw (length_at rs i, left_at ps i) e

      left_kept : left_in (set ps i q) ≡ with_need (left_in ps) i j (need - min need m)
      left_kept = map-set (λ (q : Progress). q.left) ps i q ∙ ap (λ (q : Progress). set (left_in ps) i q.left) made

      rows_kept : set ps i q ≡ rows_of (lengths_of rs) (left_in (set ps i q))
      rows_kept =
          ap₂ (λ l q. set l i q) k made
          ∙ sym (rows_set (lengths_of rs) (left_in ps) i rest)
          ∙ ap (rows_of (lengths_of rs)) (sym left_kept)

pub loop-t-init : goal.loop-t-init
loop-t-init c =
    let r = c.requires in
    let rs = c.args.rows.now in
    let e : c.args.progress.now ≡ rows_of (lengths_of rs) (needs_of rs) = r.few.1 ∙ rows_begun rs in
    let sized : length (needs_of rs) ≡ length (lengths_of rs) = simp length-map in
    let l : left_in c.args.progress.now ≡ needs_of rs = ap left_in e ∙ left_rows (lengths_of rs) (needs_of rs) sized in
    let g : Given (slots_in c.args.f) (names_of rs) (lengths_of rs) =
    record { streams = simp length-map; few = simp length-map r.few.0.rows; short = r.rows.0.short; each = r.rows.0.each } in
    record {
      state = rw l (begin c.args.plan.now r.rows.0 g r.rows.1.1 sized (wide_needs r.few.0) c.blank-pen.ensures);
      kept = rw l e;
      ahead = λ h. absurd (omega arith);
    }

pub loop-t-smaller-in_default : goal.loop-t-smaller-in_default
loop-t-smaller-in_default c = idle_less c.loop-t.invariant.state c.loop-t-test.true c.next_after-next.ensures

pub loop-t-preserved-in_default : goal.loop-t-preserved-in_default
loop-t-preserved-in_default c =
    let v = c.loop-t.invariant in
    record {
      state = idle_step v.state c.loop-t-test.true c.next_after-next.ensures
          (none_chosen v.state c.loop-t-test.true v.kept c.choose_place.ensures.place c.in_default.is);
      kept = v.kept;
      ahead = λ h. absurd (omega arith);
    }

pub run-slots-requires-clause-sized : goal.run-slots-requires-clause-sized
run-slots-requires-clause-sized c =
    let v = c.loop-t.invariant in
    let s = v.state in
    let rs = c.args.rows.now in
    let ps = c.loop-t.progress in
    let i = c.in-Some.i in
    let k = job_chosen s c.loop-t-test.true v.kept c.choose_place.ensures.place c.in-Some.is in (
      omega (arith, length_at rs i, all_at (λ T. T ≤ most_slots) (lengths_of rs) 0 (lengths_short s.given) i k.1.0),
      (
        sym (ap length (left_at ps i))
            ∙ all_at (λ (ns : List ℕ). length ns ≡ 16) (left_in ps) [] s.wide i (omega (arith, s.rows, k.1.0)),
        omega (arith, coming s c.loop-t-test.true c.next_after-next.ensures),
      ),
    )

pub run-slots-requires-clause-head : goal.run-slots-requires-clause-head
run-slots-requires-clause-head c =
    let v = c.loop-t.invariant in
    let s = v.state in
    let rs = c.args.rows.now in
    let ps = c.loop-t.progress in
    let i = c.in-Some.i in
    let k = job_chosen s c.loop-t-test.true v.kept c.choose_place.ensures.place c.in-Some.is in (
      head_kept rs ps i v.kept k.1.0 (omega (arith, s.rows, k.1.0)),
      subst (λ ns. 1 ≤ head_need ns) (left_at ps i) (chosen_needs c.loop-t.t.0 (row_jobs (names_of rs) (lengths_of rs) (left_in ps)) k.0),
    )

pub extend-pen-requires-clause-room : goal.extend-pen-requires-clause-room
extend-pen-requires-clause-room c =
    let r = c.requires in
    let s = c.loop-t.invariant.state in
    rw c.run-slots.ensures.0
    ((room s (rows_few (header_in c.args.f) r.rows.0 r.few.0) r.rows.1.0).1, s.ended)

pub extend-pen-requires-clause-slots : goal.extend-pen-requires-clause-slots
extend-pen-requires-clause-slots c =
    let s = c.loop-t.invariant.state in
    rw c.run-slots.ensures.0 (omega (arith, coming s c.loop-t-test.true c.next_after-next.ensures, s.given.short))

pub loop-t-smaller : goal.loop-t-smaller
loop-t-smaller c =
    let v = c.loop-t.invariant in
    let rs = c.args.rows.now in
    let ps = c.loop-t.progress in
    let i = c.in-Some.i in
    let t = c.loop-t.t.0 in
    let m = c.next_after-next.result.0 - t in
    let n = min (need rs ps i) m in
    let k = job_chosen v.state c.loop-t-test.true v.kept c.choose_place.ensures.place c.in-Some.is in
    rw (c.run-slots.ensures.0 ∙ same_slots rs ps i t m, left_kept rs ps i v.kept m c.run-slots.ensures.1)
    (job_less v.state c.loop-t-test.true i (j rs ps i) n (ap (λ x. min (need rs ps i) (x - t)) c.next_after-next.ensures) k.1.0 k.1.1 k.0)

pub loop-t-preserved : goal.loop-t-preserved
loop-t-preserved c =
    let v = c.loop-t.invariant in
    let rs = c.args.rows.now in
    let ps = c.loop-t.progress in
    let i = c.in-Some.i in
    let t = c.loop-t.t.0 in
    let p = c.loop-t.pen in
    let m = c.next_after-next.result.0 - t in
    let n = min (need rs ps i) m in
    let next = c.next_after-next.ensures in
    let k = job_chosen v.state c.loop-t-test.true v.kept c.choose_place.ensures.place c.in-Some.is in
    let ran : c.run-slots.result ≡ slots rs ps i t n = c.run-slots.ensures.0 ∙ same_slots rs ps i t m in
    let wrote = rw ran at c.extend-pen.ensures in
    record {
      state = rw (ran, left_kept rs ps i v.kept m c.run-slots.ensures.1)
          (job_step v.state c.loop-t-test.true i (j rs ps i) n (ap (λ x. min (need rs ps i) (x - t)) next) k.1.0 k.1.1 k.0 wrote.1 wrote.0);
      kept = rows_kept rs ps i v.kept m c.run-slots.ensures.1;
      ahead = rw ran (λ h. next ∙ next_same c.args.f.slots.0 t (t + n) (lengths_of rs) (omega arith) (omega (arith, h, next)));
    }

pub put-requires : goal.put-requires
put-requires c =
    let r = c.requires in
    (room c.loop-t.invariant.state (rows_few (header_in c.args.f) r.rows.0 r.few.0) r.rows.1.0).1

pub returns : goal.returns
returns c =
    let r = c.requires in
    let f = finish c.loop-t.invariant.state c.loop-t-test.false in
    let few = rows_few (header_in c.args.f) r.rows.0 r.few.0 in
    let e = c.put.ensures in
    (e.0 ∙ f.0, (omega (arith, e.0, f.0, few), e.1 ∙ f.1 ∙ rw e.0))
