-- The rows of a plan's records, one after the other: those from the n-th on are left. Assumes nothing.
use Rattle.std.specs.Prelude.{◌≡◌, List, [], ◌++◌, ℕ, ◌+◌, ◌*◌, ◌≤◌, ◌<◌, drop}
use Rattle.std.proofs.Math.Path.{refl}
use Rattle.std.proofs.Common.{ap, arith, drop_of_length-le}
use Rattle.spec_lists.specs.Lists.{concat_map}
use Rattle.base_lists.specs.Loops.{left_next}
use Rattle.spec_rules.specs.Slots.{Run}
use Rattle.spec_rules.specs.Records.{record_words, record_at, records_of}
use Rattle.law_model.specs.Records.{records_length, records_at}
use Rattle.spec_shelf.specs.Printed.{slot_row_of, slot_rows}

module _ (plan : List ℕ) (count : ℕ) where
  abbrev pub rows_from : ℕ → List ℕ
  rows_from n = concat_map slot_row_of (drop n (records_of count plan))

  pub rows_begin : rows_from 0 ≡ slot_rows count plan
  unfolding slot_rows
  rows_begin = refl

  pub rows_next : (n : ℕ) → n < count → rows_from n ≡ slot_row_of (record_at (drop (record_words * n) plan)) ++ rows_from (n + 1)
  rows_next n h =
      let first : Run = record_at plan in
      rw (left_next (records_of count plan) n first (omega (arith, records_length count plan)), records_at count n plan first h)

  pub rows_end : (n : ℕ) → count ≤ n → rows_from n ≡ []
  rows_end n h = ap (concat_map slot_row_of) (drop_of_length-le (records_of count plan) {i = n} (omega (arith, records_length count plan)))
