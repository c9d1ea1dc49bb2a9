-- Where the records of a plan's words start, one by one. Assumes nothing.
use Rattle.std.specs.Prelude.{◌≡◌, List, ℕ, ◌*◌, ◌<◌, length, drop, get_or}
use Rattle.std.proofs.Common.{ap, ◌∙◌}
use Rattle.std.proofs.lemmas.List.{length-map}
use Rattle.base_lists.specs.Loops.{map_at}
use Rattle.spec_model.specs.Names.{nobody}
use Rattle.spec_rules.specs.Slots.{Run, run}
use Rattle.spec_rules.specs.Records.{record_words, record_at, records_of}
use Rattle.spec_rules.specs.Reading.{starts_of}
use Rattle.law_model.specs.Records.{records_length, records_at}

-- that of the i-th record
unfoldable pub start_at : List ℕ → ℕ → ℕ
start_at ws i = (record_at (drop (record_words * i) ws)).start

pub starts_length : (n : ℕ) (ws : List ℕ) → length (starts_of n ws) ≡ n
unfolding starts_of
starts_length n ws = length-map (records_of n ws) _ ∙ records_length n ws

pub start_at_lem : (n : ℕ) (ws : List ℕ) (i : ℕ) → i < n → get_or (starts_of n ws) i 0 ≡ start_at ws i
unfolding starts_of start_at
start_at_lem n ws i h =
    map_at (λ (r : Run). r.start) (records_of n ws) i none 0 (rw records_length h) ∙ ap (λ (r : Run). r.start) (records_at n i ws none h)
  where
    none : Run
    none = run (record { name = nobody; number = 0 }) 0 0
