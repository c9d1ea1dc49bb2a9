-- The whole output, however the input is cut into chunks: the header, and the rows for each row of the input. The program serves one
-- chunk after the other, each in one part or more (`rows_append`), and then the last row (`whole_output`). Assumes nothing.
use Rattle.std.specs.Prelude.{◌≡◌, refl, true, false, cond, List, [], ◌∷◌, ◌++◌, map, ℕ, leb, eqb, length}
use Rattle.std.proofs.Common.{sym, ap, ap₂, ◌∙◌, ⊎_elim, append-nil, append_assoc, leb-true, leb-false}
use Rattle.std.proofs.lemmas.List.{map-append}
use Rattle.spec_lists.specs.Lists.{concat_map}
use Rattle.base_lists.specs.Tests.{either}
use Rattle.spec_text.specs.Rows.{row_most, rows_of}
use Rattle.row_cut.specs.Lines.{line_of, unheld, lines_in, reader_after, last_lines}
use Rattle.row_cut.specs.Chunks.{lines_append, after_append, rows_found}
use Rattle.row_cut.specs.Kept.{text_of, kept_whole, kept_long}
use Rattle.spec_shelf.specs.Commands.{command_of}
use Rattle.spec_shelf.specs.declared.Command.{Command}
use Rattle.spec_shelf.specs.declared.Command.TheVariants.{OtherForm}
use Rattle.spec_shelf.specs.Printed.{header_row}
use Rattle.spec_shelf.specs.Meaning.{State}
use Rattle.shelf_state.specs.declared.Shelf.{Shelf}
use Rattle.spec_shelf.specs.Meaning.{first_state, state_after, plan_after, rows_for, printed, output_of}
use Rattle.shelf_state.specs.Cutting.{first_shelf, command_in, last_rows}

-- ---- a chunk
unfoldable pub state_run : State → List Command → State
state_run s [] = s
state_run s (c ∷ cs) = state_run (state_after s c) cs

unfoldable pub plan_run : State → List Command → List ℕ → List ℕ
plan_run s [] ws = ws
plan_run s (c ∷ cs) ws = plan_run (state_after s c) cs (plan_after s c ws)

abbrev pub commands_in : Shelf → List ℕ → List Command
commands_in s chunk = map command_in (lines_in s.reader chunk)

-- the rows that a chunk gives, the plan's memory after it, and the shelf
unfoldable pub chunk_rows : Shelf → List ℕ → List ℕ
chunk_rows s chunk = printed s.state (commands_in s chunk)

unfoldable pub chunk_plan : Shelf → List ℕ → List ℕ → List ℕ
chunk_plan s chunk ws = plan_run s.state (commands_in s chunk) ws

unfoldable pub shelf_after : Shelf → List ℕ → Shelf
shelf_after s chunk = record { reader = reader_after s.reader chunk; state = state_run s.state (commands_in s chunk) }

-- one chunk after the other, and then the last row
unfoldable pub served : Shelf → List (List ℕ) → List ℕ
served s [] = last_rows s
served s (c ∷ cs) = chunk_rows s c ++ served (shelf_after s c) cs

-- ---- two chunks are as good as one
printed_append : (s : State) (cs ds : List Command) → printed s (cs ++ ds) ≡ printed s cs ++ printed (state_run s cs) ds
unfolding printed state_run
printed_append s [] ds = refl
printed_append s (c ∷ cs) ds =
    ap (λ r. rows_for s c ++ r) (printed_append (state_after s c) cs ds) ∙ sym (append_assoc (rows_for s c) _ _)

run_append : (s : State) (cs ds : List Command) → state_run s (cs ++ ds) ≡ state_run (state_run s cs) ds
unfolding state_run
run_append s [] ds = refl
run_append s (c ∷ cs) ds = run_append (state_after s c) cs ds

plan_append : (s : State) (cs ds : List Command) (ws : List ℕ) → plan_run s (cs ++ ds) ws ≡ plan_run (state_run s cs) ds (plan_run s cs ws)
unfolding state_run plan_run
plan_append s [] ds ws = refl
plan_append s (c ∷ cs) ds ws = plan_append (state_after s c) cs ds (plan_after s c ws)

commands_append : (s : Shelf) (xs ys : List ℕ) → commands_in s (xs ++ ys) ≡ commands_in s xs ++ commands_in (shelf_after s xs) ys
unfolding shelf_after
commands_append s xs ys = ap (map command_in) (lines_append s.reader xs ys) ∙ map-append command_in (lines_in s.reader xs) _

pub rows_append : (s : Shelf) (xs ys : List ℕ) → chunk_rows s (xs ++ ys) ≡ chunk_rows s xs ++ chunk_rows (shelf_after s xs) ys
unfolding chunk_rows shelf_after
rows_append s xs ys = ap (printed s.state) (commands_append s xs ys) ∙ printed_append s.state (commands_in s xs) _

pub after_both : (s : Shelf) (xs ys : List ℕ) → shelf_after s (xs ++ ys) ≡ shelf_after (shelf_after s xs) ys
unfolding shelf_after
after_both s xs ys =
    ap₂ (λ r t. record { reader = r; state = t }) (after_append s.reader xs ys)
    (ap (state_run s.state) (commands_append s xs ys) ∙ run_append s.state (commands_in s xs) _)

pub plan_both : (s : Shelf) (xs ys ws : List ℕ) → chunk_plan s (xs ++ ys) ws ≡ chunk_plan (shelf_after s xs) ys (chunk_plan s xs ws)
unfolding chunk_plan shelf_after
plan_both s xs ys ws =
    ap (λ cs. plan_run s.state cs ws) (commands_append s xs ys) ∙ plan_append s.state (commands_in s xs) _ ws

-- ---- the chunks are the input
last_printed : (s : Shelf) → last_rows s ≡ printed s.state (map command_in (last_lines s.reader))
unfolding last_rows last_lines printed
last_printed s = ⊎_elim (λ e. rw e refl) (λ e. rw e (sym (append-nil _))) (either (eqb (unheld s.reader).len 0))

abbrev input_of : List (List ℕ) → List ℕ
input_of cs = concat_map (λ c. c) cs

served_all : (s : Shelf) (cs : List (List ℕ)) → served s cs
    ≡ printed s.state (map command_in (lines_in s.reader (input_of cs) ++ last_lines (reader_after s.reader (input_of cs))))
unfolding served lines_in reader_after chunk_rows shelf_after
served_all s [] = last_printed s
served_all s (c ∷ cs) =
    let r = s.reader in
    let bs = input_of cs in
    let ls = lines_in r c in
    let after = lines_in (reader_after r c) bs ++ last_lines (reader_after (reader_after r c) bs) in
    let whole : lines_in r (c ++ bs) ++ last_lines (reader_after r (c ++ bs)) ≡ ls ++ after =
    rw (lines_append r c bs, after_append r c bs) (append_assoc ls _ _) in
    ap (λ x. chunk_rows s c ++ x) (served_all (shelf_after s c) cs)
    ∙ sym (printed_append s.state (map command_in ls) (map command_in after))
    ∙ ap (printed s.state) (sym (map-append command_in ls after))
    ∙ ap (λ x. printed s.state (map command_in x)) (sym whole)

-- what a line keeps of its row is enough
line_command : (row : List ℕ) → command_in (line_of row) ≡ command_of row
unfolding command_in command_of
line_command row = ⊎_elim short long (either (leb (length row) row_most))
  where
    short : leb (length row) row_most ≡ true → command_in (line_of row) ≡ command_of row
    short e =
        let k = kept_whole row (leb-true _ _ e) in
        ap (λ n. cond (leb n row_most) (command_of (text_of (line_of row))) OtherForm) k.0 ∙ rw (e, k.1, e) refl

    long : leb (length row) row_most ≡ false → command_in (line_of row) ≡ command_of row
    long e = rw (kept_long row (leb-false _ _ e), e) refl

lines_commands : (rows : List (List ℕ)) → map command_in (map line_of rows) ≡ map command_of rows
lines_commands [] = refl
lines_commands (r ∷ rs) = rw (line_command r, lines_commands rs) refl

pub whole_output : (chunks : List (List ℕ)) → header_row ++ served first_shelf chunks ≡ output_of (input_of chunks)
unfolding output_of first_shelf
whole_output cs =
    ap (λ x. header_row ++ x) (served_all first_shelf cs
    ∙ ap (λ x. printed first_state (map command_in x)) (rows_found (input_of cs))
    ∙ ap (printed first_state) (lines_commands (rows_of (input_of cs))))
