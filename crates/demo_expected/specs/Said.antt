-- What the theorem of the worked cases, `cases_right`, says of each of its lines, so that a program can cite the line that it runs; then
-- openings, beacons and windows as those lines have them. Nothing is computed again but the plan of a table that holds nothing, which is
-- in no list. Assumes nothing.
use Rattle.std.specs.Prelude.{ℕ, zero, suc, ◌+◌, ◌*◌, ◌<◌, ◌≤◌, ◌≡◌, refl, Bool, true, false, cond, ◌&&◌, List, [], ◌∷◌, ◌++◌, eqb, ltb, length, get_or, take, drop}
use Rattle.std.specs.List.{fold}
use Rattle.std.proofs.Common.{sym, ap, ◌∙◌, arith, length-take, take_at, lt-ltb, le-ltb, eqb-true}
use Rattle.spec_lists.specs.Lists.{same_list}
use Rattle.base_lists.specs.Tests.{and_both, same_list_lem}
use Rattle.spec_model.specs.declared.Request.{Request}
use Rattle.spec_model.specs.declared.Table.{Table}
use Rattle.spec_model.specs.Frames.{room_in}
use Rattle.spec_rules.specs.Share.{order}
use Rattle.spec_rules.specs.Slots.{Run, tie_order, jobs, choose, slots_from, step_d, prepend, runs_from, step_e}
use Rattle.spec_rules.specs.Settings.{frame_of, opened}
use Rattle.spec_rules.specs.Records.{record_words, plan_words, words_of}
use Rattle.spec_rules.specs.Calls.{offer_answer, offered, plan_of, advanced, Beacon, refused_beacon, planned_beacon, beacon}
use Rattle.spec_rules.specs.Reading.{window_answer, window_part}
use Rattle.spec_rules.specs.Cases.{State, Line, Tick, Window, reply, plays, start, cases}
use Rattle.spec_rules.proofs.Cases.{cases_right}
use Rattle.spec_rules.specs.Cases.{offers1, case1, cases23, case4, case5, case6, case7, case8, case9, ties_of_kind1}
use Rattle.law_model.specs.Records.{length_words}
use Rattle.spec_model.specs.ByNumbers.{setting, request}
use Rattle.demo_expected.specs.Windows.{answer_alone, part_alone}
use Rattle.demo_expected.specs.Words.{rows, records_in, rows_all, row_count}

-- ---- one line
pub record Told (s : State) (l : Line) : Type 0 where
  pub answer : (reply s l.ask).answer ≡ l.answer
  pub shown : (reply s l.ask).shown ≡ l.shown

abbrev First : State → List Line → Type 0
First s [] = Unit
First s (l ∷ ls) = Told s l

-- the state after these lines
abbrev after : State → List Line → State
after s [] = s
after s (l ∷ ls) = after (reply s l.ask).next ls

-- the line that n others stand before
told : (n : ℕ) (s : State) (ls : List Line) → plays s ls ≡ true → First (after s (take n ls)) (drop n ls)
told zero s [] h = tt
told (suc n) s [] h = tt
told zero s (l ∷ ls) h =
    let r = reply s l.ask in
    let p = and_both (eqb r.answer l.answer && same_list r.shown l.shown) (plays r.next ls) h in
    let q = and_both (eqb r.answer l.answer) (same_list r.shown l.shown) p.0 in
    record { answer = eqb-true r.answer l.answer q.0; shown = same_list_lem r.shown l.shown q.1 }
told (suc n) s (l ∷ ls) h =
    let r = reply s l.ask in
    told n r.next ls
    (and_both (eqb r.answer l.answer && same_list r.shown l.shown) (plays r.next ls) h).1

pub line : (n : ℕ) → First (after start (take n cases)) (drop n cases)
line n = told n start cases cases_right

-- ---- where the cases begin; cases 1 to 3 are the first lines
abbrev pub at4 : ℕ
at4 = length (case1 ++ cases23)

abbrev pub at5 : ℕ
at5 = at4 + length case4

abbrev pub at6 : ℕ
at6 = at5 + length case5

abbrev pub at7 : ℕ
at7 = at6 + length case6

abbrev pub at8 : ℕ
at8 = at7 + length case7

abbrev pub at9 : ℕ
at9 = at8 + length case8

-- after the document's cases, ours
abbrev pub at_ties : ℕ
at_ties = at9 + length case9

abbrev pub at_kinds : ℕ
at_kinds = at_ties + length ties_of_kind1

-- the table of what case 1 offers
abbrev pub table1 : Table
table1 = (after start offers1).table

abbrev pub one_unit : Table
one_unit = opened (setting 1 0)

-- ---- offers, each with what it answers
abbrev pub Answered : Table → List (Request × ℕ) → Type 0
Answered t [] = Unit
Answered t (q ∷ qs) = (offer_answer t q.0 ≡ q.1) × Answered (offered t q.0) qs

-- the table after them
abbrev pub after_offers : Table → List (Request × ℕ) → Table
after_offers = fold (λ t q. offered t q.0)

-- ---- two requests, each by its six fields, on a new table of one time unit
abbrev pub asked : List ℕ → Request
asked q = request (get_or q 0 0) (get_or q 1 0) (get_or q 2 0) (get_or q 3 0) (get_or q 4 0) (get_or q 5 0)

abbrev one_held : List ℕ → Table
one_held p = offered one_unit (asked p)

abbrev pub two_held : (p q : List ℕ) → Table
two_held p q = offered (one_held p) (asked q)

-- both are taken, and the plan is these records
pub record PlanOfTwo (p q : List ℕ) (rs : List (List ℕ)) : Type 0 where
  pub first : offer_answer one_unit (asked p) ≡ 0
  pub second : offer_answer (one_held p) (asked q) ≡ 0
  pub plan : records_in (plan_of (two_held p q)) ≡ rs

-- so both offers answer 0, and the table after them has that plan
pub two_answered : {p q : List ℕ} {rs : List (List ℕ)} → PlanOfTwo p q rs
    → (let qs : List (Request × ℕ) = (asked p, 0) ∷ (asked q, 0) ∷ [] in
    Answered one_unit qs × (records_in (plan_of (after_offers one_unit qs)) ≡ rs))
two_answered w = ((w.first, (w.second, tt)), w.plan)

-- ---- a beacon
-- where fewer words are lent
pub short_beacon : (t : Table) (n : ℕ) (ws : List ℕ) → n < plan_words → beacon t (take n ws) ≡ refused_beacon t (take n ws)
unfolding beacon
short_beacon t n ws h =
    let l = length-take n ws in
    rw (lt-ltb (length (take n ws)) plan_words (omega arith))

-- where rs are the plan's records
pub long_beacon : (t : Table) (ws : List ℕ) {rs : List (List ℕ)} → plan_words ≤ length ws → records_in (plan_of t) ≡ rs
    → beacon t ws ≡ record { answer = 0; count = length rs; words = words_of (plan_of t) ++ drop (record_words * length rs) ws; table = advanced t }
unfolding beacon
long_beacon t ws h e = rw (le-ltb (length ws) plan_words h, row_count (plan_of t) e)

-- one that answers 0 has written the plan, and the table is one interval on
planned : (t : Table) (ws : List ℕ) → (beacon t ws).answer ≡ 0 → beacon t ws ≡ planned_beacon t ws (plan_of t)
unfolding beacon
planned t ws = go (ltb (length ws) plan_words)
  where
    go : (x : Bool) → (let b = cond x (refused_beacon t ws) (planned_beacon t ws (plan_of t)) in
        b.answer ≡ 0 → b ≡ planned_beacon t ws (plan_of t))
    go true z = absurd (omega arith)
    go false z = refl

module _ {s : State} {l : List ℕ} (p : Told s (record { ask = Tick; answer = 0; shown = l })) where
  abbrev runs : List Run
  runs = plan_of s.table

  words_told : words_of runs ≡ l
  words_told =
      sym (take_at (words_of runs) _ _ (length_words runs)) ∙ rw (planned s.table s.words p.answer) at p.shown

  pub plan_told : (records_in runs ≡ rows l) × ((beacon s.table s.words).table ≡ advanced s.table)
  plan_told = (rows_all runs words_told, ap (λ (b : Beacon). b.table) (planned s.table s.words p.answer))

  -- a window over words that are that plan's and then others
  pub window_told : {from until n : ℕ} {part : List ℕ}
      → Told (reply s Tick).next (record { ask = Window from until; answer = n; shown = part })
      → (ws : List ℕ) {plan : List ℕ} → plan ≡ words_of runs ++ ws
      → (window_answer plan (length (rows l)) from until ≡ n) × (window_part plan (length (rows l)) from until ≡ part)
  window_told {from} {until} w ws e =
      let b = planned s.table s.words p.answer in
      let old = drop (record_words * length runs) s.words in
      let n = row_count runs (rows_all runs words_told) in (
        rw (e, n, answer_alone runs ws from until, ← answer_alone runs old from until) (rw b at w.answer),
        rw (e, n, part_alone runs ws from until, ← part_alone runs old from until) (rw b at w.shown),
      )

-- a table that holds nothing has an empty plan
pub nothing_planned : records_in (plan_of one_unit) ≡ []
unfolding room_in order tie_order jobs choose slots_from step_d prepend runs_from step_e frame_of opened plan_of
nothing_planned = refl
