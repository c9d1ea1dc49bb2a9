-- Some bytes of the input are served: the shelf after them, the plan's memory, and how many bytes are handed to writes: as many as their
-- rows have. Others may follow. Assumes nothing.
use Rattle.std.specs.Prelude.{◌≡◌, ℕ, ◌+◌, ◌%◌, ◌^◌, ◌<◌, Bool, true, false, cond, List, [], ◌++◌, length, take, refl}
use Rattle.std.proofs.Common.{sym, ap, ap₂, ◌∙◌, append-nil, append_assoc, mod-eq_of_lt, length-append}
use Rattle.std.proofs.Math.Nat.{add-mod}
use Rattle.row_cut.specs.Lines.{lines_in, reader_after}
use Rattle.spec_shelf.specs.Meaning.{printed}
use Rattle.shelf_state.specs.declared.Shelf.{Shelf}
use Rattle.shelf_state.specs.Cutting.{last_rows, last_plan}
use Rattle.shelf_state.specs.Whole.{state_run, plan_run, chunk_rows, chunk_plan, shelf_after, rows_append, after_both, plan_both}
use Rattle.shelf_state.specs.Parts.{left_of, taken_then}
use Rattle.shelf_write.specs.declared.Flow.{Flow}

-- ---- what is handed to writes, counted in a number that wraps
abbrev pub counted : List ℕ → ℕ
counted bytes = length bytes % 2 ^ 64

-- the rows of some bytes, and where the input ends with them those of its last row too; the plan's memory after them
abbrev pub rows_to : Bool → Shelf → List ℕ → List ℕ
rows_to ended s p = cond ended (chunk_rows s p ++ last_rows (shelf_after s p)) (chunk_rows s p)

abbrev pub plan_to : Bool → Shelf → List ℕ → List ℕ → List ℕ
plan_to ended s p ws = cond ended (last_plan (shelf_after s p) (chunk_plan s p ws)) (chunk_plan s p ws)

-- ---- some bytes are served: how many they are, the shelf after them, what was handed to writes before and for them, and the plan's memory
pub record FlowedAfter (before : List ℕ) (ended : Bool) (s : Shelf) (p plan : List ℕ) (r : Flow) (words : List ℕ) : Type 0 where
  pub bytes : r.taken ≡ length p
  pub shelf : r.shelf ≡ shelf_after s p
  pub rows : r.put ≡ counted (before ++ rows_to ended s p)
  pub memory : words ≡ plan_to ended s p plan

abbrev pub Flowed : (ended : Bool) (s : Shelf) (p plan : List ℕ) (r : Flow) (words : List ℕ) → Type 0
Flowed = FlowedAfter []

-- some bytes are served, and then others
abbrev pub flow_then : Flow → Flow → Flow
flow_then a b = record { shelf = b.shelf; taken = a.taken + b.taken; put = (a.put + b.put) % 2 ^ 64; well = b.well }

-- ---- laws
counted_append : (xs ys : List ℕ) → counted (xs ++ ys) ≡ (counted xs + counted ys) % 2 ^ 64
counted_append xs ys = ap (λ n. n % 2 ^ 64) (length-append xs ys) ∙ add-mod (length xs) (length ys) (2 ^ 64)

pub counted_few : {n : ℕ} (bytes : List ℕ) → n < 2 ^ 64 → n ≡ length bytes → n ≡ counted bytes
counted_few bytes h e = e ∙ sym (mod-eq_of_lt (rw e at h))

pub rows_then : (ended : Bool) (s : Shelf) (p q : List ℕ) → chunk_rows s p ++ rows_to ended (shelf_after s p) q ≡ rows_to ended s (p ++ q)
rows_then true s p q = rw (rows_append s p q, after_both s p q) (sym (append_assoc (chunk_rows s p) _ _))
rows_then false s p q = sym (rows_append s p q)

plan_then : (ended : Bool) (s : Shelf) (p q ws : List ℕ) → plan_to ended (shelf_after s p) q (chunk_plan s p ws) ≡ plan_to ended s (p ++ q) ws
plan_then true s p q ws = rw (plan_both s p q ws, after_both s p q) refl
plan_then false s p q ws = sym (plan_both s p q ws)

-- nothing is served yet
pub flowed_none : (before : List ℕ) (s : Shelf) (plan : List ℕ) {n : ℕ} {well : Bool} → n < 2 ^ 64 → n ≡ length before
    → FlowedAfter before false s [] plan record { shelf = s; taken = 0; put = n; well = well } plan
unfolding shelf_after chunk_rows chunk_plan state_run plan_run printed lines_in reader_after
flowed_none before s plan h e = record { bytes = refl; shelf = refl; rows = rw append-nil (counted_few before h e); memory = refl }

-- at the end of the input the last row is
pub flowed_last : (s : Shelf) (plan : List ℕ) {n : ℕ} {well : Bool} {words : List ℕ} → n < 2 ^ 64 → n ≡ length (last_rows s)
    → words ≡ last_plan s plan → Flowed true s [] plan record { shelf = s; taken = 0; put = n; well = well } words
unfolding shelf_after chunk_rows chunk_plan state_run plan_run printed lines_in reader_after
flowed_last s plan h e w = record { bytes = refl; shelf = refl; rows = counted_few (last_rows s) h e; memory = w }

pub flowed_then : {before : List ℕ} {ended : Bool} {s : Shelf} {p q plan words words₂ : List ℕ} {a b : Flow}
    → FlowedAfter before false s p plan a words → Flowed ended a.shelf q words b words₂
    → FlowedAfter before ended s (p ++ q) plan (flow_then a b) words₂
flowed_then {before} {ended} {s} {p} {q} {plan} {a = a} {b} d e =
    record {
      bytes = ap₂ ◌+◌ d.bytes e.bytes ∙ sym (length-append p q);
      shelf = e.shelf ∙ ap (λ x. shelf_after x q) d.shelf ∙ sym (after_both s p q);
      rows = ap₂ (λ n m. (n + m) % 2 ^ 64) d.rows (e.rows ∙ ap (λ x. counted (rows_to ended x q)) d.shelf)
          ∙ sym (counted_append (before ++ chunk_rows s p) _)
          ∙ ap counted (append_assoc before (chunk_rows s p) _ ∙ ap (λ x. before ++ x) (rows_then ended s p q));
      memory = e.memory ∙ ap₂ (λ x ws. plan_to ended x q ws) d.shelf d.memory ∙ plan_then ended s p q plan;
    }

-- a part of a chunk after the parts before it
pub flowed_part : {s : Shelf} {plan words words₂ : List ℕ} {a b : Flow} (chunk : List ℕ)
    → Flowed false s (take a.taken chunk) plan a words
    → Flowed false a.shelf (take b.taken (left_of chunk a.taken)) words b words₂
    → Flowed false s (take (a.taken + b.taken) chunk) plan (flow_then a b) words₂
flowed_part {a = a} {b} chunk d e = rw (taken_then chunk a.taken b.taken) (flowed_then d e)
