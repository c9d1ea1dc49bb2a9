-- A record of a plan, as words: its layout, once. Document 01, "One beacon", step E, and "Reading, lending, printing". Assumes nothing.
use Rattle.std.specs.Prelude.{ℕ, zero, suc, ◌*◌, List, [], ◌∷◌, ◌++◌, drop, get_or}
use Rattle.spec_rules.specs.Slots.{Run}

-- the words of a record; the most records of a plan; the words of both
abbrev pub record_words : ℕ
record_words = 4

abbrev pub most_records : ℕ
most_records = 1024

abbrev pub plan_words : ℕ
plan_words = record_words * most_records

-- stream, job, start, length
unfoldable pub words_of_run : Run → List ℕ
words_of_run r = r.name.stream ∷ r.job ∷ r.start ∷ r.length ∷ []

-- the record in the first words
unfoldable pub record_at : List ℕ → Run
record_at ws =
    record { name = record { stream = get_or ws 0 0 }; job = get_or ws 1 0; start = get_or ws 2 0; length = get_or ws 3 0 }

-- the words of a plan
unfoldable pub words_of : List Run → List ℕ
words_of [] = []
words_of (r ∷ rs) = words_of_run r ++ words_of rs

-- the first n records of a plan's words
unfoldable pub records_of : ℕ → List ℕ → List Run
records_of zero ws = []
records_of (suc n) ws = record_at ws ∷ records_of n (drop record_words ws)
