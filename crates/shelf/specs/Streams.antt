-- What the program reads and writes, over a reader and a writer that say which bytes they have left and which they hold. Assumes nothing.
use Rattle.std.specs.Prelude.{◌≡◌, refl, Bool, true, false, Option, None, Some, List, [], ◌++◌, ℕ, zero, suc, ◌+◌, ◌≤◌, ◌<◌, Result, Ok, Err, codes, length, take, drop}
use Rattle.std.specs.Io.{ReadsAtMost}
use Rattle.std.specs.Io.KnownBytes.{Appends, Consumes, IsAtEnd, ReadConsumes}
use Rattle.std.proofs.Common.{◌∙◌, sym, ap, ap₂, subst, arith, append_assoc, append-nil, length-append, length-take, take-append-drop}
use Rattle.std.proofs.Math.Nat.{min-eq_left, zero-min}
use Rattle.std.proofs.Math.Seq.{take_all, take-take, take-append-add, take-append_seam}
use Rattle.std.proofs.KnownBytes.{Consumes-nil, Consumes-trans}
use Rattle.row_cut.specs.Lines.{lines_in, reader_after}
use Rattle.spec_shelf.specs.Printed.{header_row}
use Rattle.spec_shelf.specs.Meaning.{printed, output_of}
use Rattle.shelf_state.specs.declared.Shelf.{Shelf}
use Rattle.shelf_state.specs.Cutting.{first_shelf, last_rows}
use Rattle.shelf_state.specs.Whole.{state_run, chunk_rows, shelf_after, rows_append}
use Rattle.shelf_state.specs.Parts.{left_of, taken_then}
use Rattle.shelf_write.specs.declared.Flow.{Flow}
use Rattle.shelf_write.specs.Flows.{rows_to, rows_then, FlowedAfter, Flowed, flow_then, flowed_none, flowed_then}
use Rattle.shelf_write.specs.Taken.{Took, took_none, took_then, took_whole}
use Rattle.shelf.specs.declared.Stop.{Stop}
use Rattle.shelf.specs.declared.Stop.TheVariants.{Done, ReadingFailed, WritingFailed, Full}
use Rattle.shelf.specs.Runs.{ends, gave, output_to, output_is, Ran, ran}

-- ---- after the header was written: the bytes that reads gave, of which the first were served, and whose rows the writer took
pub record Streams (ended : Bool) (plan : List ℕ) (r : Flow) (words : List ℕ) (given : ℕ) (left left₂ held held₂ : Option (List ℕ)) : Type 0 where
  pub ran : Ran ended plan r words
  pub bytes : List ℕ
  pub count : given ≡ length bytes
  pub read : Consumes left left₂ bytes
  pub served : ran.input ≡ take r.taken bytes
  pub last : ended ≡ true → r.taken ≡ given
  pub took : Took held held₂ r.well (rows_to ended first_shelf ran.input)

-- ---- how the program stops, by the last read and write
abbrev pub stop_of : {E : Type 0} → Result ℕ E → Bool → Stop
stop_of got false = WritingFailed
stop_of (Ok zero) true = Done
stop_of (Ok (suc n)) true = Full
stop_of (Err e) true = ReadingFailed

-- what is written where it has read these bytes: at the end of the input all of its output, where a read failed what comes before that
-- end, and where a write failed a beginning
abbrev pub Wrote : Stop → (input : List ℕ) (left₂ held held₂ : Option (List ℕ)) → Type 0
Wrote Done input left₂ held held₂ = IsAtEnd left₂ × Appends held held₂ (output_of input)
Wrote ReadingFailed input left₂ held held₂ = Appends held held₂ (output_to false input)
Wrote WritingFailed input left₂ held held₂ = (n : ℕ) × Appends held held₂ (take n (output_of input))
Wrote Full input left₂ held held₂ = Appends held held₂ (output_to false input)

pub record Stopped (stop : Stop) (left left₂ held held₂ : Option (List ℕ)) : Type 0 where
  pub input : List ℕ
  pub read : Consumes left left₂ input
  pub wrote : Wrote stop input left₂ held held₂

-- what it says on the error output
abbrev pub message_of : Stop → List ℕ
message_of Done = []
message_of ReadingFailed = codes "shelf: reading failed\n"
message_of WritingFailed = codes "shelf: writing failed\n"
message_of Full = []

-- ---- laws of one read
pub read_gave : {E : Type 0} (got : Result ℕ E) (left left₂ : Option (List ℕ)) (xs : List ℕ) → ReadsAtMost got xs → ReadConsumes left left₂ got xs
    → Consumes left left₂ (take (gave got (length xs)) xs)
read_gave (Ok n) left left₂ xs m r = subst (λ k. Consumes left left₂ (take k xs)) (sym (min-eq_left m.0)) r.0
read_gave (Err e) None left₂ xs m r = tt
read_gave (Err e) (Some l) None xs m r = absurd r
read_gave (Err e) (Some l) (Some k) xs m r = sym r

gave_most : {E : Type 0} (got : Result ℕ E) (xs : List ℕ) → gave got (length xs) ≤ length xs
gave_most (Ok n) xs = omega arith
gave_most (Err e) xs = omega arith

pub gave_last : {E : Type 0} (got : Result ℕ E) (n : ℕ) → ends got ≡ true → gave got n ≡ 0
gave_last (Ok zero) n e = zero-min n
gave_last (Ok (suc k)) n e = absurd (cc)
gave_last (Err f) n e = refl

pub read_end : {E : Type 0} (got : Result ℕ E) (left left₂ : Option (List ℕ)) (xs : List ℕ) → ReadConsumes left left₂ got xs → 0 < length xs
    → ends got ≡ true → IsAtEnd left₂
read_end (Ok zero) left left₂ xs r h e = r.1 refl h
read_end (Ok (suc n)) left left₂ xs r h e = absurd (cc)
read_end (Err f) left left₂ xs r h e = absurd (cc)

-- ---- laws of the reads so far
pub record Going (ended : Bool) (plan : List ℕ) (r : Flow) (words : List ℕ) (given : ℕ) (left left₂ held held₂ : Option (List ℕ)) : Type 0 where
  pub bytes : List ℕ
  pub count : given ≡ length bytes
  pub read : Consumes left left₂ bytes
  pub flowed : FlowedAfter header_row ended first_shelf (take r.taken bytes) plan r words
  pub took : Took held held₂ r.well (rows_to ended first_shelf (take r.taken bytes))

pub streams : {ended : Bool} {plan : List ℕ} {r : Flow} {words : List ℕ} {given : ℕ} {left left₂ held held₂ : Option (List ℕ)}
    → Going ended plan r words given left left₂ held held₂ → (ended ≡ true → r.taken ≡ given)
    → Streams ended plan r words given left left₂ held held₂
unfolding ran
streams {r = r} g last =
    record {
      ran = ran (take r.taken g.bytes, g.flowed);
      bytes = g.bytes;
      count = g.count;
      read = g.read;
      served = refl;
      last = last;
      took = g.took;
    }

no_rows : (s : Shelf) → chunk_rows s [] ≡ []
unfolding chunk_rows printed lines_in
no_rows s = refl

pub took_no_rows : (s : Shelf) (held : Option (List ℕ)) → Took held held true (rows_to false s [])
took_no_rows s held = subst (Took held held true) (sym (no_rows s)) (took_none held)

pub took_last : (s : Shelf) {before after : Option (List ℕ)} {well : Bool} → Took before after well (last_rows s)
    → Took before after well (rows_to true s [])
unfolding shelf_after state_run lines_in reader_after
took_last s {before} {after} {well} t = subst (Took before after well) (ap (λ r. r ++ last_rows s) (sym (no_rows s))) t

-- a part of a chunk after the parts before it
pub took_part : {s : Shelf} {plan words : List ℕ} {a : Flow} {before between after : Option (List ℕ)} {ok well : Bool} (chunk : List ℕ)
    (more : ℕ) → Flowed false s (take a.taken chunk) plan a words → ok ≡ true → Took before between ok (rows_to false s (take a.taken chunk))
    → Took between after well (chunk_rows a.shelf (take more (left_of chunk a.taken)))
    → Took before after well (rows_to false s (take (a.taken + more) chunk))
took_part {s} {a = a} chunk more d e t u =
    rw (taken_then chunk a.taken more, rows_append s (take a.taken chunk) _) (took_then e t (rw d.shelf at u))

pub going_none : (s : Shelf) (plan : List ℕ) {n : ℕ} (left held : Option (List ℕ)) → s ≡ first_shelf → n ≡ length header_row
    → Going false plan record { shelf = s; taken = 0; put = n; well = true } plan 0 left left held held
going_none s plan left held e n =
    record {
      bytes = [];
      count = refl;
      read = Consumes-nil left;
      flowed = rw e (flowed_none header_row first_shelf plan (omega arith) n);
      took = took_no_rows first_shelf held;
    }

pub going_on : {ended : Bool} {plan : List ℕ} {r : Flow} {words : List ℕ} {given : ℕ} {left left₂ held held₂ : Option (List ℕ)}
    → ended ≡ false → Going ended plan r words given left left₂ held held₂ → Going false plan r words given left left₂ held held₂
going_on e g = rw e at g

-- what another read gave is served
pub going_then : {ended : Bool} {plan words words₂ : List ℕ} {r next : Flow} {given : ℕ} {left left₁ left₂ held held₁ held₂ : Option (List ℕ)}
    → (more : ℕ) (xs : List ℕ) → Going false plan r words given left left₁ held held₁ → r.well ≡ true → r.taken ≡ given
    → Consumes left₁ left₂ (take more xs) → more ≤ length xs → next.taken ≤ more → Flowed ended r.shelf (take next.taken xs) words next words₂
    → Took held₁ held₂ next.well (rows_to ended r.shelf (take next.taken xs))
    → Going ended plan (flow_then r next) words₂ (given + more) left left₂ held held₂
going_then {ended} {plan} {words₂ = words₂} {r} {next} {held = held} {held₂ = held₂} more xs g well all read m most f t =
    let p = take r.taken g.bytes in
    let q = take next.taken xs in
    let whole : p ≡ g.bytes = take_all r.taken g.bytes (omega (arith, g.count)) in
    let len : length g.bytes ≡ r.taken = omega (arith, g.count) in
    let both : take (r.taken + next.taken) (g.bytes ++ take more xs) ≡ p ++ q =
    ap (λ k. take (k + next.taken) (g.bytes ++ take more xs)) (sym len)
    ∙ take-append-add g.bytes (take more xs) next.taken
    ∙ ap₂ ◌++◌ (sym whole) (take-take next.taken more xs most) in
    let rows : chunk_rows first_shelf p ++ rows_to ended r.shelf q ≡ rows_to ended first_shelf (p ++ q) =
    ap (λ s. chunk_rows first_shelf p ++ rows_to ended s q) g.flowed.shelf ∙ rows_then ended first_shelf p q in
    record {
      bytes = g.bytes ++ take more xs;
      count = omega (arith, g.count, length-append g.bytes (take more xs), length-take more xs);
      read = Consumes-trans _ _ _ _ _ g.read read;
      flowed = subst (λ b. FlowedAfter header_row ended first_shelf b plan (flow_then r next) words₂) (sym both) (flowed_then g.flowed f);
      took = subst (Took held held₂ next.well) (rows ∙ ap (rows_to ended first_shelf) (sym both)) (took_then well g.took t);
    }

pub going_read : {plan words words₂ : List ℕ} {r next : Flow} {given n : ℕ} {left left₁ left₂ held held₁ held₂ : Option (List ℕ)} {E : Type 0}
    → (got : Result ℕ E) (xs : List ℕ) → Going false plan r words given left left₁ held held₁ → r.well ≡ true → r.taken ≡ given
    → ReadsAtMost got xs → ReadConsumes left₁ left₂ got xs → n ≡ gave got (length xs) → next.taken ≤ gave got (length xs)
    → Flowed (ends got) r.shelf (take next.taken xs) words next words₂
    → Took held₁ held₂ next.well (rows_to (ends got) r.shelf (take next.taken xs))
    → Going (ends got) plan (flow_then r next) words₂ (given + n) left left₂ held held₂
going_read got xs g well all bound bytes n most f t =
    rw n (going_then (gave got (length xs)) xs g well all (read_gave got _ _ xs bound bytes) (gave_most got xs) most f t)

pub streams_read : {plan words words₂ : List ℕ} {r next : Flow} {given n : ℕ} {left left₁ left₂ held held₁ held₂ : Option (List ℕ)} {E : Type 0}
    → (got : Result ℕ E) (xs : List ℕ) → Going false plan r words given left left₁ held held₁ → r.well ≡ true → r.taken ≡ given
    → ReadsAtMost got xs → ReadConsumes left₁ left₂ got xs → n ≡ gave got (length xs) → next.taken ≤ gave got (length xs)
    → Flowed (ends got) r.shelf (take next.taken xs) words next words₂
    → Took held₁ held₂ next.well (rows_to (ends got) r.shelf (take next.taken xs))
    → Streams (ends got) plan (flow_then r next) words₂ (given + n) left left₂ held held₂
streams_read got xs g well all bound bytes n most f t =
    streams (going_read got xs g well all bound bytes n most f t) (λ e. let z = gave_last got (length xs) e in omega arith)

-- ---- laws of the end: what is written is a beginning of the output
before_rest : (k : ℕ) (rows rest : List ℕ) → (n : ℕ) × (take k rows ≡ take n (rows ++ rest))
before_rest k rows rest = (
  length (take k rows),
  sym (take-append_seam (take k rows) (drop k rows ++ rest))
      ∙ ap (take (length (take k rows))) (sym (append_assoc (take k rows) (drop k rows) rest) ∙ ap (λ l. l ++ rest) (take-append-drop k rows)),
)

regroup : (h a b l : List ℕ) → h ++ ((a ++ b) ++ l) ≡ (h ++ a) ++ (b ++ l)
regroup h a b l = ap (λ x. h ++ x) (append_assoc a b l) ∙ sym (append_assoc h a (b ++ l))

-- of an input, what comes before its end begins the output, and what comes of its first bytes begins that
output_before : (ended : Bool) (n : ℕ) (input : List ℕ) → (ended ≡ true → take n input ≡ input)
    → (rest : List ℕ) × (output_of input ≡ output_to ended (take n input) ++ rest)
output_before true n input all = ([], ap output_of (sym (all refl)) ∙ sym (append-nil _))
output_before false n input all =
    let p = take n input in
    let q = drop n input in
    let later = chunk_rows (shelf_after first_shelf p) q in
    let last = last_rows (shelf_after first_shelf input) in
    let rows : chunk_rows first_shelf input ≡ chunk_rows first_shelf p ++ later =
    ap (chunk_rows first_shelf) (sym (take-append-drop n input)) ∙ rows_append first_shelf p q in
    (later ++ last, sym (output_is true input) ∙ ap (λ r. header_row ++ (r ++ last)) rows ∙ regroup header_row (chunk_rows first_shelf p) later last)

pub wrote_before : {held held₂ : Option (List ℕ)} {well : Bool} {rows : List ℕ} (input rest : List ℕ) → Took held held₂ well rows
    → output_of input ≡ rows ++ rest → (n : ℕ) × Appends held held₂ (take n (output_of input))
wrote_before {held} {held₂} {rows = rows} input rest t e =
    let b = before_rest t.count rows rest in
    (b.0, subst (Appends held held₂) (b.1 ∙ ap (take b.0) (sym e)) t.held)

-- the header was not taken whole
pub stopped_early : {held held₂ : Option (List ℕ)} {well : Bool} (left : Option (List ℕ)) → Took held held₂ well header_row
    → Stopped WritingFailed left left held held₂
unfolding output_of
stopped_early left t = record { input = []; read = Consumes-nil left; wrote = wrote_before [] _ t refl }

wrote_at : {E : Type 0} (got : Result ℕ E) (well : Bool) {took : Bool} (input : List ℕ) (n : ℕ) (left₂ : Option (List ℕ))
    {held held₂ : Option (List ℕ)} → took ≡ well → Took held held₂ took (output_to (ends got) (take n input)) → (took ≡ true → take n input ≡ input)
    → (ends got ≡ true → take n input ≡ input) → (ends got ≡ true → IsAtEnd left₂) → Wrote (stop_of got well) input left₂ held held₂
wrote_at got false input n left₂ w t all last end =
    let b = output_before (ends got) n input last in
    wrote_before input b.0 t b.1
wrote_at (Ok zero) true input n left₂ {held = held} {held₂} w t all last end =
    (end refl, subst (λ p. Appends held held₂ (output_of p)) (all w) (took_whole t w))
wrote_at (Ok (suc k)) true input n left₂ {held = held} {held₂} w t all last end =
    subst (λ p. Appends held held₂ (output_to false p)) (all w) (took_whole t w)
wrote_at (Err e) true input n left₂ {held = held} {held₂} w t all last end =
    subst (λ p. Appends held held₂ (output_to false p)) (all w) (took_whole t w)

pub stopped : {plan words : List ℕ} {r : Flow} {given : ℕ} {left left₂ held held₁ held₂ : Option (List ℕ)} {E : Type 0} (got : Result ℕ E)
    {ok : Bool} → ok ≡ true → Took held held₁ ok header_row → Streams (ends got) plan r words given left left₂ held₁ held₂
    → (r.well ≡ true → r.taken ≡ given) → (ends got ≡ true → IsAtEnd left₂) → Stopped (stop_of got r.well) left left₂ held held₂
stopped {r = r} {given} {held = held} {held₂ = held₂} got e h s all end =
    let input = s.bytes in
    let rows : header_row ++ rows_to (ends got) first_shelf s.ran.input ≡ output_to (ends got) (take r.taken input) =
    output_is (ends got) s.ran.input ∙ ap (output_to (ends got)) s.served in
    let t : Took held held₂ r.well (output_to (ends got) (take r.taken input)) =
    subst (Took held held₂ r.well) rows (took_then e h s.took) in
    let whole : r.taken ≡ given → take r.taken input ≡ input = λ a. take_all r.taken input (omega (arith, s.count)) in
    record {
      input = input;
      read = s.read;
      wrote = wrote_at got r.well input r.taken _ refl t (λ w. whole (all w)) (λ w. whole (s.last w)) end;
    }
