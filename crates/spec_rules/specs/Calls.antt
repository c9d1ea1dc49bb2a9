-- The calls: their answers, the table after them, and the words lent. Document 01, "Where each refusal is checked" and
-- "Reading, lending, printing". Assumes nothing.
use Rattle.std.specs.Prelude.{ℕ, ◌*◌, Bool, cond, not, List, [], ◌∷◌, ◌++◌, map, ltb, leb, eqb, length, drop}
use Rattle.spec_lists.specs.Lists.{any_of}
use Rattle.spec_model.specs.Names.{name_in_range}
use Rattle.spec_model.specs.Requests.{check, refusal, field_checks}
use Rattle.spec_model.specs.Entries.{free_entry, is_held, is_named, entry_of}
use Rattle.spec_model.specs.declared.Name.{Name}
use Rattle.spec_model.specs.declared.Entry.{Entry}
use Rattle.spec_model.specs.declared.Request.{Request}
use Rattle.spec_model.specs.declared.Table.{Table}
use Rattle.spec_rules.specs.Share.{step_b, step_c}
use Rattle.spec_rules.specs.Slots.{Run, step_e}
use Rattle.spec_rules.specs.Ahead.{step_f, fits_ahead}
use Rattle.spec_model.specs.Tables.{most_held, held_of, with_entries}
use Rattle.spec_rules.specs.Records.{record_words, plan_words, words_of}

abbrev pub holds : Table → Name → Bool
holds t n = any_of (is_named n) (held_of t)

-- an offer's answer
unfoldable pub offer_answer : Table → Request → ℕ
offer_answer t q =
    refusal
    (check 10 (not (name_in_range q.name))
    ∷ check 11 (holds t q.name)
    ∷ (field_checks t.frame q
    ++ (check 16 (leb most_held (length (held_of t)))
    ∷ check 17 (not (fits_ahead t.frame (entry_of q ∷ held_of t)))
    ∷ [])))

-- the entry goes to the first free place
unfoldable pub placed : Entry → List Entry → List Entry
placed e [] = []
placed e (f ∷ fs) = let r = placed e fs in cond (is_held f) (f ∷ r) (e ∷ fs)

unfoldable pub offered : Table → Request → Table
offered t q =
    cond (eqb (offer_answer t q) 0) (with_entries t (placed (entry_of q) t.entries)) t

-- a withdrawal's and an enquiry's
unfoldable pub held_answer : Table → Name → ℕ
held_answer t n = refusal (check 20 (not (holds t n)) ∷ [])

-- the place becomes free
abbrev pub freed : Name → List Entry → List Entry
freed n es = map (λ (e : Entry). cond (is_named n e) free_entry e) es

unfoldable pub withdrawn : Table → Name → Table
withdrawn t n = cond (holds t n) (with_entries t (freed n t.entries)) t

-- the plan, and the table after the interval
unfoldable pub plan_of : Table → List Run
plan_of t = step_e t.frame (held_of t)

unfoldable pub advanced : Table → Table
advanced t =
    let es = held_of t in
    with_entries t (step_f (step_b t.frame es) (step_c t.frame es) t.entries)

-- the answer, the record count, the words lent and the table after it
pub record Beacon : Type 0 where
  pub answer : ℕ
  pub count : ℕ
  pub words : List ℕ
  pub table : Table

-- everything as found
abbrev pub refused_beacon : Table → List ℕ → Beacon
refused_beacon t ws = record { answer = 30; count = 0; words = ws; table = t }

-- the plan in the first words, every later word as found
abbrev pub planned_beacon : Table → List ℕ → List Run → Beacon
planned_beacon t ws rs =
    record { answer = 0; count = length rs; words = words_of rs ++ drop (record_words * length rs) ws; table = advanced t }

unfoldable pub beacon : Table → List ℕ → Beacon
beacon t ws = cond (ltb (length ws) plan_words) (refused_beacon t ws) (planned_beacon t ws (plan_of t))
