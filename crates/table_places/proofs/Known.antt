-- The places of a table that a function was passed, where it knows how many there are. Assumes nothing.
use Rattle.std.proofs.Common.{◌≡◌, ◌∙◌, map, ℕ, ◌≤◌, ◌<◌, length, arith}
use Rattle.std.proofs.lemmas.List.{length-map}
use Rattle.spec_model.specs.Tables.{places}
use Rattle.spec_model.specs.declared.Entry.{Entry}
use Rattle.spec_model.specs.declared.Table.{Table}

module _ (t : Table) (all : length t.entries ≡ places) where
  -- a place that a loop reads, and the end of the loop
  pub inside : {i : ℕ} → i < places → i < length t.entries
  inside h = omega arith

  pub past : {i : ℕ} → places ≤ i → length t.entries ≤ i
  past h = omega arith

  pub size : (f : Entry → ℕ) → length (map f t.entries) ≡ places
  size f = length-map t.entries f ∙ all
