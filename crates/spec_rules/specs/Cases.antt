-- The worked cases 1 to 9 of document 01, "Tested by hand", and after them three of our own: one list; proofs/Cases.antt has the theorem. Where
-- a case leaves a field open, docs/DECISIONS.md says what was chosen. Assumes nothing.
use Rattle.std.specs.Prelude.{ℕ, ◌*◌, Bool, true, ◌&&◌, List, [], ◌∷◌, ◌++◌, eqb, take, replicate}
use Rattle.spec_lists.specs.Lists.{same_list}
use Rattle.spec_model.specs.ByNumbers.{stream, setting, request}
use Rattle.spec_model.specs.declared.Table.{Table}
use Rattle.spec_rules.specs.Share.{Grant, step_b, remains, weight, takes_part, step_c}
use Rattle.spec_model.specs.Tables.{held_of}
use Rattle.spec_rules.specs.Settings.{open_answer, opened}
use Rattle.spec_rules.specs.Records.{record_words, plan_words}
use Rattle.spec_rules.specs.Calls.{offer_answer, offered, held_answer, withdrawn, Beacon, beacon}
use Rattle.spec_rules.specs.Reading.{window_answer, window_part}

-- a call, or a look at the figures of the next step C: L, W, then each request's stream and extra
pub data Ask : Type 0 where
  Open : (units header : ℕ) → Ask
  Offer : (stream kind period least most life : ℕ) → Ask
  Withdraw : (stream : ℕ) → Ask
  Tick : Ask
  Figures : Ask
  Window : (from until : ℕ) → Ask

-- what stands between two asks: the table, and the last plan's words and record count
pub record State : Type 0 where
  pub table : Table
  pub words : List ℕ
  pub count : ℕ

-- what an ask answers, what it shows, and the state after it
pub record Reply : Type 0 where
  pub answer : ℕ
  pub shown : List ℕ
  pub next : State

abbrev on : State → Table → State
on s t = record { table = t; words = s.words; count = s.count }

abbrev numbers : List Grant → List ℕ
numbers [] = []
numbers (g ∷ gs) = g.name.stream ∷ g.slots ∷ numbers gs

abbrev after_tick : Beacon → Reply
after_tick b =
    record {
      answer = b.answer;
      shown = take (record_words * b.count) b.words;
      next = record { table = b.table; words = b.words; count = b.count };
    }

abbrev pub reply : State → Ask → Reply
reply s (Open u h) = record { answer = open_answer (setting u h); shown = []; next = on s (opened (setting u h)) }
reply s (Offer i k p a b l) =
    let q = request i k p a b l in
    record { answer = offer_answer s.table q; shown = []; next = on s (offered s.table q) }
reply s (Withdraw i) =
    record { answer = held_answer s.table (stream i); shown = []; next = on s (withdrawn s.table (stream i)) }
reply s Tick = after_tick (beacon s.table s.words)
reply s Figures =
    let F = s.table.frame in
    let es = held_of s.table in
    record { answer = 0; shown = remains F es ∷ weight (takes_part F es) (step_b F es) es ∷ numbers (step_c F es); next = s }
reply s (Window f u) =
    record { answer = window_answer s.words s.count f u; shown = window_part s.words s.count f u; next = s }

-- an ask with the answer and the numbers that the document gives
pub record Line : Type 0 where
  pub ask : Ask
  pub answer : ℕ
  pub shown : List ℕ

abbrev answers : Ask → ℕ → Line
answers a n = record { ask = a; answer = n; shown = [] }

abbrev shows : Ask → List ℕ → Line
shows a l = record { ask = a; answer = 0; shown = l }

abbrev pub plays : State → List Line → Bool
plays s [] = true
plays s (l ∷ ls) =
    let r = reply s l.ask in
    (eqb r.answer l.answer && same_list r.shown l.shown) && plays r.next ls

-- ---- the cases; each begins with an opening
abbrev pub offers1 : List Line
offers1 =
    answers (Open 1 0) 0 ∷ answers (Offer 5 1 2 100 300 4) 0 ∷ answers (Offer 7 2 2 600 1000 4) 0 ∷ answers (Offer 9 3 1 300 0 1) 0 ∷ []

abbrev pub case1 : List Line
case1 =
    offers1
    ++ (shows Tick (5 ∷ 0 ∷ 0 ∷ 100 ∷ 9 ∷ 0 ∷ 100 ∷ 300 ∷ 7 ∷ 0 ∷ 400 ∷ 112 ∷ 5 ∷ 1 ∷ 512 ∷ 100 ∷ 7 ∷ 0 ∷ 612 ∷ 412 ∷ [])
    ∷ [])

-- 2 and 3 go on from 1
abbrev pub cases23 : List Line
cases23 =
    shows Figures (748 ∷ 800 ∷ 5 ∷ 187 ∷ 7 ∷ 374 ∷ [])
    ∷ shows Tick (5 ∷ 0 ∷ 0 ∷ 287 ∷ 7 ∷ 0 ∷ 287 ∷ 225 ∷ 5 ∷ 1 ∷ 512 ∷ 287 ∷ 7 ∷ 0 ∷ 799 ∷ 225 ∷ [])
    ∷ shows Figures (224 ∷ 800 ∷ 5 ∷ 56 ∷ 7 ∷ 112 ∷ [])
    ∷ shows Tick (5 ∷ 0 ∷ 0 ∷ 156 ∷ 7 ∷ 0 ∷ 156 ∷ 356 ∷ 5 ∷ 1 ∷ 512 ∷ 156 ∷ 7 ∷ 0 ∷ 668 ∷ 356 ∷ [])
    ∷ []

abbrev pub case4 : List Line
case4 =
    offers1
    ++ (answers (Offer 11 3 2 748 0 2) 0 ∷ [])
    ++ offers1
    ++ (answers (Offer 11 3 2 749 0 2) 17 ∷ [])

abbrev pub case5 : List Line
case5 =
    answers (Open 1 0) 0
    ∷ answers (Offer 1 2 2 1024 1024 2) 0
    ∷ answers (Offer 2 2 2 1024 1024 2) 0
    ∷ shows Tick (1 ∷ 0 ∷ 0 ∷ 1024 ∷ [])
    ∷ answers (Withdraw 1) 0
    ∷ answers (Offer 3 2 1 1 1 1) 17
    ∷ []

abbrev pub case6 : List Line
case6 = answers (Open 1 0) 0 ∷ answers (Offer 1 1 2 512 512 1) 0 ∷ answers (Offer 2 1 2 1 1 1) 17 ∷ []

abbrev pub case7 : List Line
case7 =
    answers (Open 1 0) 0 ∷ answers (Offer 1 1 3 1 1 1) 13 ∷ answers (Open 3 0) 0 ∷ answers (Offer 1 1 3 1 1 1) 0 ∷ []

abbrev pub case8 : List Line
case8 = answers (Open 1 0) 0 ∷ answers (Offer 1 2 2 1 1 3) 15 ∷ answers (Offer 1 2 2 1 1 4) 0 ∷ []

abbrev pub case9 : List Line
case9 =
    case1
    ++ (shows (Window 100 512) (9 ∷ 0 ∷ 100 ∷ 300 ∷ 7 ∷ 0 ∷ 400 ∷ 112 ∷ [])
    ∷ shows (Window 512 512) []
    ∷ answers (Window 513 512) 41
    ∷ [])

-- ---- two that are ours and not the document's, whose cases say nothing of these orders
-- jobs of kind 1 due at once: the lower stream number goes first, though it was offered later
abbrev pub ties_of_kind1 : List Line
ties_of_kind1 =
    answers (Open 1 0) 0
    ∷ answers (Offer 8 1 2 200 200 1) 0
    ∷ answers (Offer 6 1 2 100 100 1) 0
    ∷ shows Tick (6 ∷ 0 ∷ 0 ∷ 100 ∷ 8 ∷ 0 ∷ 100 ∷ 200 ∷ 6 ∷ 1 ∷ 512 ∷ 100 ∷ 8 ∷ 1 ∷ 612 ∷ 200 ∷ [])
    ∷ []

-- as many intervals left, and an interval too short for both: kind 2 goes before 3, though the transfer has the lower stream number
abbrev pub kind2_first : List Line
kind2_first =
    answers (Open 1 0) 0
    ∷ answers (Offer 2 3 2 700 0 2) 0
    ∷ answers (Offer 4 2 2 800 800 2) 0
    ∷ shows Tick (4 ∷ 0 ∷ 0 ∷ 800 ∷ 2 ∷ 0 ∷ 800 ∷ 224 ∷ [])
    ∷ []

-- A header: 1 goes before 61, which is due from B on. Of 1,024 slots 400 are the header's; by slot 512 there is room for 112, so stream 5 fits
-- with 100, another with 13 does not, and no period of 256 slots does, though E is 424. With extras by W = 1,700 stream 5 would have 176 by slot
-- 512: it gets none, and stream 7 shares L = 324 alone. With a header of 200 both have their parts of L = 524. At the edges: two time
-- units may have a header of one; behind one of 100, a job of 101 and two of 28 are a slot too many for the 156 up to slot 256, in their last
-- interval too; behind one of 400, extras of 12 just fill the 112 up to slot 512.
abbrev pub headed : List Line
headed =
    answers (Open 0 2000) 1
    ∷ answers (Open 1 1024) 61
    ∷ answers (Open 1 400) 0
    ∷ answers (Offer 5 1 2 100 500 4) 0
    ∷ answers (Offer 7 2 1 100 1000 4) 0
    ∷ answers (Offer 6 1 4 10 10 4) 17
    ∷ answers (Offer 8 1 2 13 13 4) 17
    ∷ shows Figures (324 ∷ 900 ∷ 5 ∷ 0 ∷ 7 ∷ 324 ∷ [])
    ∷ shows Tick (5 ∷ 0 ∷ 400 ∷ 100 ∷ 7 ∷ 0 ∷ 500 ∷ 12 ∷ 5 ∷ 1 ∷ 512 ∷ 100 ∷ 7 ∷ 0 ∷ 612 ∷ 412 ∷ [])
    ∷ answers (Offer 8 1 2 12 12 4) 0
    ∷ answers (Open 1 200) 0
    ∷ answers (Offer 5 1 2 100 500 4) 0
    ∷ answers (Offer 7 2 1 100 1000 4) 0
    ∷ shows Figures (524 ∷ 1700 ∷ 5 ∷ 123 ∷ 7 ∷ 277 ∷ [])
    ∷ answers (Open 2 1024) 0
    ∷ answers (Open 1 100) 0
    ∷ answers (Offer 1 1 4 101 101 1) 0
    ∷ answers (Offer 2 1 8 28 28 1) 17
    ∷ answers (Offer 2 1 8 27 27 1) 0
    ∷ answers (Open 1 400) 0
    ∷ answers (Offer 5 1 2 100 112 1) 0
    ∷ shows Figures (424 ∷ 24 ∷ 5 ∷ 12 ∷ [])
    ∷ []

abbrev pub cases : List Line
cases = case1 ++ cases23 ++ case4 ++ case5 ++ case6 ++ case7 ++ case8 ++ case9 ++ ties_of_kind1 ++ kind2_first ++ headed

abbrev pub start : State
start = record { table = opened (setting 1 0); words = replicate plan_words 0; count = 0 }
