-- What the program did when it stops. What a read of the system gives and what becomes of a write no contract can say. So there is an input,
-- as long as the reads gave, and the shelf, the plan's memory and the count of the bytes handed to writes are those of that input. Assumes
-- nothing.
use Rattle.std.specs.Prelude.{◌≡◌, refl, Bool, true, false, cond, List, [], ◌∷◌, ◌++◌, ℕ, zero, suc, ◌-◌, ◌^◌, min, Result, Ok, Err, length}
use Rattle.std.specs.Io.{ReadsAtMost}
use Rattle.std.proofs.Common.{ap, ◌∙◌, append-nil, arith}
use Rattle.std.proofs.Math.Nat.{zero-min}
use Rattle.spec_shelf.specs.Printed.{header_row}
use Rattle.spec_shelf.specs.Meaning.{output_of}
use Rattle.shelf_state.specs.Cutting.{first_shelf}
use Rattle.shelf_state.specs.Whole.{chunk_rows, shelf_after, served, whole_output}
use Rattle.shelf_write.specs.declared.Flow.{Flow}
use Rattle.shelf_write.specs.Flows.{counted, rows_to, plan_to, FlowedAfter}

-- ---- what a read answers: a number of bytes, or an error
-- no byte: the input has ended
abbrev pub ends : {E : Type 0} → Result ℕ E → Bool
ends (Ok zero) = true
ends (Ok (suc n)) = false
ends (Err e) = false

-- how many bytes of so many it gave: none where it failed
abbrev pub gave : {E : Type 0} → Result ℕ E → ℕ → ℕ
gave (Ok n) most = min n most
gave (Err e) most = 0

-- another read follows where this one gave bytes, and every write took what it was handed
abbrev pub reads_on : {E : Type 0} → Result ℕ E → Bool → Bool
reads_on (Ok zero) well = false
reads_on (Ok (suc n)) well = well
reads_on (Err e) well = false

-- a number of bytes that no input comes to: there it stops at the latest
abbrev pub most_bytes : ℕ
most_bytes = 2 ^ 63 - 1

-- ---- since the program began
-- the whole output, or what of it comes before the end of the input
abbrev pub output_to : Bool → List ℕ → List ℕ
output_to ended input = cond ended (output_of input) (header_row ++ chunk_rows first_shelf input)

-- the input that was served: how many bytes it has, the shelf after it, the bytes handed to writes, and the plan's memory
pub record Ran (ended : Bool) (plan : List ℕ) (r : Flow) (words : List ℕ) : Type 0 where
  pub input : List ℕ
  pub bytes : r.taken ≡ length input
  pub shelf : r.shelf ≡ shelf_after first_shelf input
  pub rows : r.put ≡ counted (output_to ended input)
  pub memory : words ≡ plan_to ended first_shelf input plan

-- ---- laws of what a read answers, by how many of its bytes count
pub gave_none : {E : Type 0} (got : Result ℕ E) (xs : List ℕ) (well : Bool) → ReadsAtMost got xs → gave got (length xs) ≡ 0
    → reads_on got well ≡ false
gave_none (Ok zero) xs well m e = refl
gave_none (Ok (suc k)) xs well m e = absurd (omega (arith, m.0))
gave_none (Err f) xs well m e = refl

pub gave_some : {E : Type 0} (got : Result ℕ E) (n : ℕ) → (gave got n ≡ 0 → ⊥) → ends got ≡ false
gave_some (Ok zero) n h = absurd (h (zero-min n))
gave_some (Ok (suc k)) n h = refl
gave_some (Err f) n h = refl

pub write_failed : {E : Type 0} (got : Result ℕ E) {well : Bool} → well ≡ false → reads_on got well ≡ false
write_failed (Ok zero) e = refl
write_failed (Ok (suc k)) e = e
write_failed (Err f) e = refl

-- ---- laws of a run
-- the reads' bytes so far
abbrev pub Running : (ended : Bool) (plan : List ℕ) (r : Flow) (words : List ℕ) → Type 0
Running ended plan r words = (input : List ℕ) × FlowedAfter header_row ended first_shelf input plan r words

pub running_on : {ended : Bool} {plan : List ℕ} {r : Flow} {words : List ℕ} → ended ≡ false → Running ended plan r words
    → Running false plan r words
running_on e f = rw e at f

pub output_is : (ended : Bool) (input : List ℕ) → header_row ++ rows_to ended first_shelf input ≡ output_to ended input
unfolding served
output_is true input = whole_output (input ∷ []) ∙ ap output_of (append-nil input)
output_is false input = refl

unfoldable pub ran : {ended : Bool} {plan : List ℕ} {r : Flow} {words : List ℕ} → Running ended plan r words → Ran ended plan r words
ran {ended} (input, f) =
    record {
      input = input;
      bytes = f.bytes;
      shelf = f.shelf;
      rows = f.rows ∙ ap counted (output_is ended input);
      memory = f.memory;
    }
