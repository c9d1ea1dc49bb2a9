-- Reading: an enquiry's entry, and the window over a plan with its answer word and the part that it hands back. Document 01,
-- "Reading, lending, printing". ws are the plan's words, n is the record count. Assumes nothing.
use Rattle.std.specs.Prelude.{ℕ, suc, ◌*◌, ◌-◌, Bool, true, cond, not, ◌&&◌, List, [], ◌∷◌, map, ltb, eqb, length, take, drop}
use Rattle.spec_model.specs.Requests.{check, refusal}
use Rattle.spec_model.specs.Entries.{free_entry, is_named}
use Rattle.spec_model.specs.declared.Name.{Name}
use Rattle.spec_model.specs.declared.Entry.{Entry}
use Rattle.spec_model.specs.declared.Table.{Table}
use Rattle.spec_rules.specs.Slots.{Run}
use Rattle.spec_model.specs.Tables.{held_of}
use Rattle.spec_rules.specs.Records.{record_words, records_of}

-- ---- enquiry
-- the whole entry, or zeros
unfoldable pub entry_for : Name → List Entry → Entry
entry_for n [] = free_entry
entry_for n (e ∷ es) = let r = entry_for n es in cond (is_named n e) e r

abbrev pub enquired : Table → Name → Entry
enquired t n = entry_for n (held_of t)

-- ---- window
-- the starts of the first n records
unfoldable pub starts_of : ℕ → List ℕ → List ℕ
starts_of n ws = map (λ (r : Run). r.start) (records_of n ws)

-- they strictly rise
unfoldable pub rises : List ℕ → Bool
rises [] = true
rises (a ∷ []) = true
rises (a ∷ b ∷ r) = ltb a b && rises (b ∷ r)

-- how many stand before the first that is at least x
unfoldable pub before : ℕ → List ℕ → ℕ
before x [] = 0
before x (a ∷ r) = let n = before x r in cond (ltb a x) (suc n) 0

unfoldable pub window_answer : (ws : List ℕ) (n from until : ℕ) → ℕ
window_answer ws n from until =
    refusal
    (check 40 (ltb (length ws) (record_words * n))
    ∷ check 41 (ltb until from)
    ∷ check 42 (not (rises (starts_of n ws)))
    ∷ [])

-- from the first record with start ≥ from to just before the first with start ≥ until; empty where it is refused
unfoldable pub window_part : (ws : List ℕ) (n from until : ℕ) → List ℕ
window_part ws n from until =
    let a = before from (starts_of n ws) in
    let b = before until (starts_of n ws) in
    let part = take (record_words * (b - a)) (drop (record_words * a) ws) in
    cond (eqb (window_answer ws n from until) 0) part []
