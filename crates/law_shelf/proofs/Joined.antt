-- What `shelf` prints is what histories show, proved. From any table, the rows up to the next opening that succeeds show the history of
-- their calls and leave its table (`table_told`); where there is no table, each call answers 51 (`first_told`). Both go row by row, and an
-- opening that succeeds goes on from its own table. Demand 3 is then that of each history. Assumes nothing.
use Rattle.std.specs.Prelude.{◌≡◌, Bool, true, false, cond, List, [], ◌∷◌, ◌++◌, map, ℕ, eqb, length, take}
use Rattle.std.proofs.Math.Path.{refl, ap}
use Rattle.std.proofs.Common.{sym, ◌∙◌, append_assoc, arith, eqb-true}
use Rattle.std.proofs.lemmas.Bool.{eqb-false}
use Rattle.std.proofs.lemmas.List.{length-replicate}
use Rattle.spec_lists.specs.Lists.{concat_map}
use Rattle.base_lists.specs.Tests.{clash}
use Rattle.spec_lists.specs.All.{stop, and}
use Rattle.base_lists.specs.All.{all_map}
use Rattle.spec_model.specs.declared.Setting.{Setting}
use Rattle.spec_model.specs.declared.Table.{Table}
use Rattle.spec_shelf.specs.Commands.{open_verb}
use Rattle.spec_shelf.specs.declared.Command.{Command}
use Rattle.spec_shelf.specs.declared.Command.TheVariants.{Open, Offer as OfferRow, Withdraw as WithdrawRow, Beacon as BeaconRow, OtherForm}
use Rattle.spec_rules.specs.Slots.{Run}
use Rattle.spec_rules.specs.Settings.{open_answer, opened}
use Rattle.spec_rules.specs.Records.{plan_words}
use Rattle.spec_rules.specs.Calls.{offered, withdrawn, plan_of, advanced, Beacon as Sent}
use Rattle.spec_shelf.specs.Printed.{header_row, plain_row}
use Rattle.spec_shelf.specs.Meaning.{State}
use Rattle.spec_shelf.specs.Meaning.{first_state, with_table, state_after, rows_for, printed, output_of}
use Rattle.law_model.specs.Records.{records_back}
use Rattle.law_rows.specs.Plans.{planned}
use Rattle.shelf_state.specs.Whole.{state_run, whole_output}
use Rattle.spec_demand.specs.History.{Call, Beacon, Seen, answer_on, plan_on, seen, after, history, table_after}
use Rattle.law_demand.specs.Proof.{demand3}
use Rattle.law_shelf.specs.Segments.{Segment, Cut, adds_row, opens, cut, Refused, Cuts}
use Rattle.law_shelf.specs.Segments.{memory, calls_of, rows_of_call, shown, unopened, segment_rows, leaves, commands, ShelfKeeps}

-- ---- the cut
goes_on_lem : {c : Command} {cs : List Command} {k : Cut} → Refused c → Cuts cs k → Cuts (c ∷ cs) (adds_row c k)
goes_on_lem {c} r h = record { all = ap (λ l. c ∷ l) h.all; early = and r h.early; segments = h.segments }

-- a row that is no opening
no_opening : {c : Command} → ((s : Setting) → c ≡ Open s → true ≡ false) → Refused c
no_opening h s e z = clash true refl (h s e)

cut_right : (cs : List Command) → Cuts cs (cut cs)
unfolding cut
cut_right [] = record { all = refl; early = stop; segments = stop }
cut_right (Open s ∷ cs) = go (eqb (open_answer s) 0) refl (cut_right cs)
  where
    go : (b : Bool) → eqb (open_answer s) 0 ≡ b → {k : Cut} → Cuts cs k → Cuts (Open s ∷ cs) (opens b s k)
    go true e h =
        record {
          all = ap (λ l. Open s ∷ l) h.all;
          early = stop;
          segments = and (eqb-true (open_answer s) 0 e, h.early) h.segments;
        }
    go false e h = goes_on_lem (λ r q z. eqb-false (open_answer s) 0 e (cc z)) h
cut_right (OfferRow q ∷ cs) = goes_on_lem (no_opening (λ s e. cc)) (cut_right cs)
cut_right (WithdrawRow n ∷ cs) = goes_on_lem (no_opening (λ s e. cc)) (cut_right cs)
cut_right (BeaconRow ∷ cs) = goes_on_lem (no_opening (λ s e. cc)) (cut_right cs)
cut_right (OtherForm ∷ cs) = goes_on_lem (no_opening (λ s e. cc)) (cut_right cs)

-- ---- a beacon with as many words as the program lends
module _ (t : Table) (ws : List ℕ) (room : length ws ≡ plan_words) where
  beacon_answer : (seen t (Beacon ws)).answer ≡ 0
  unfolding answer_on
  beacon_answer = ap (λ (b : Sent). b.answer) (planned t ws (omega arith))

  beacon_plan : (seen t (Beacon ws)).plan ≡ plan_of t
  unfolding plan_on
  beacon_plan = rw (planned t ws (omega arith), records_back) refl

  beacon_after : after t (Beacon ws) ≡ advanced t
  unfolding after
  beacon_after = ap (λ (b : Sent). b.table) (planned t ws (omega arith))

memory_length : length memory ≡ plan_words
unfolding memory
memory_length = length-replicate {A = ℕ} plan_words 0

-- ---- row by row
-- the bytes `out` are the bytes `shows` of early rows and then those of segments; the early rows leave the state `mid`, and all `end`
record Told (out : List ℕ) (end : State) (shows : List ℕ) (mid : State) (gs : List Segment) : Type 0 where
  state : end ≡ leaves mid gs
  rows : out ≡ shows ++ concat_map segment_rows gs

row_told : {out shows : List ℕ} {end mid : State} {gs : List Segment} (row : List ℕ) → Told out end shows mid gs
    → Told (row ++ out) end (row ++ shows) mid gs
row_told row h = record { state = h.state; rows = ap (λ r. row ++ r) h.rows ∙ sym (append_assoc row _ _) }

-- the same of the rows cs from state s on, where vs is seen of the early calls
abbrev From : State → List Command → List Seen → State → Type 0
From s cs vs mid = Told (printed s cs) (state_run s cs) (shown (cut cs).early vs) mid (cut cs).segments

abbrev early_calls : List Command → List Call
early_calls cs = calls_of (cut cs).early

-- a history from table t
abbrev FromTable : Table → List Command → Type 0
FromTable t cs = From (with_table t) cs (history t (early_calls cs)) (with_table (table_after t (early_calls cs)))

-- an opening: one that succeeds goes on from its own table, whatever calls before it show (vs) and leave (mid)
open_told : (r : State) (vs : List Call → List Seen) (mid : List Call → State) (s : Setting) (cs : List Command)
    → FromTable (opened s) cs → From r cs (vs (early_calls cs)) (mid (early_calls cs))
    → let ks = early_calls (Open s ∷ cs) in From r (Open s ∷ cs) (vs ks) (mid ks)
unfolding cut leaves state_run state_after printed rows_for shown
open_told r vs mid s cs h k = go (eqb (open_answer s) 0) refl
  where
    go : (b : Bool) → eqb (open_answer s) 0 ≡ b
        → let c = opens b s (cut cs) in
        let next = cond b (with_table (opened s)) r in
        Told (plain_row open_verb (open_answer s) ++ printed next cs) (state_run next cs) (shown c.early (vs (calls_of c.early)))
        (mid (calls_of c.early)) c.segments
    go true e = record { state = h.state; rows = rw (eqb-true (open_answer s) 0 e) (row_told (plain_row open_verb 0) h).rows }
    go false e = row_told (plain_row open_verb (open_answer s)) k

-- from a table, each call is a step of the history
table_told : (t : Table) (cs : List Command) → FromTable t cs
unfolding cut leaves state_run state_after printed rows_for shown table_after history answer_on plan_on after
table_told t [] = record { state = refl; rows = refl }
table_told t (Open s ∷ cs) =
    open_told (with_table t) (history t) (λ ks. with_table (table_after t ks)) s cs (table_told (opened s) cs) (table_told t cs)
table_told t (OfferRow q ∷ cs) = row_told (rows_for (with_table t) (OfferRow q)) (table_told (offered t q) cs)
table_told t (WithdrawRow n ∷ cs) = row_told (rows_for (with_table t) (WithdrawRow n)) (table_told (withdrawn t n) cs)
table_told t (BeaconRow ∷ cs) =
    go (beacon_answer t memory memory_length) (beacon_plan t memory memory_length) (beacon_after t memory memory_length)
    (table_told (advanced t) cs)
  where
    go : {a : ℕ} {rs : List Run} {u : Table} → a ≡ 0 → rs ≡ plan_of t → u ≡ advanced t → FromTable (advanced t) cs
        → Told (rows_for (with_table t) BeaconRow ++ printed (with_table (advanced t)) cs) (state_run (with_table (advanced t)) cs)
        (rows_of_call (Beacon memory) a rs ++ shown (cut cs).early (history u (early_calls cs)))
        (with_table (table_after u (early_calls cs))) (cut cs).segments
    go d e f h = rw (d, e, f) (row_told (rows_for (with_table t) BeaconRow) h)
table_told t (OtherForm ∷ cs) = row_told (rows_for (with_table t) OtherForm) (table_told t cs)

-- before the first opening, no call is
first_told : (cs : List Command) → From first_state cs (map unopened (early_calls cs)) first_state
unfolding first_state cut leaves state_run state_after printed rows_for shown
first_told [] = record { state = refl; rows = refl }
first_told (Open s ∷ cs) = open_told first_state (map unopened) (λ ks. first_state) s cs (table_told (opened s) cs) (first_told cs)
first_told (OfferRow q ∷ cs) = row_told (rows_for first_state (OfferRow q)) (first_told cs)
first_told (WithdrawRow n ∷ cs) = row_told (rows_for first_state (WithdrawRow n)) (first_told cs)
first_told (BeaconRow ∷ cs) = row_told (rows_for first_state BeaconRow) (first_told cs)
first_told (OtherForm ∷ cs) = row_told (rows_for first_state OtherForm) (first_told cs)

-- ---- the theorem
pub shelf_keeps : (input : List ℕ) → ShelfKeeps input
unfolding output_of
shelf_keeps input =
    record {
      chunks = λ ps e. whole_output ps ∙ ap output_of e;
      cuts = cut_right cs;
      output = ap (λ r. header_row ++ r) (first_told cs).rows;
      table = λ n. (first_told (take n cs)).state;
      lent = λ t ws h. record {
        answer = beacon_answer t ws h ∙ sym (beacon_answer t memory memory_length);
        plan = beacon_plan t ws h ∙ sym (beacon_plan t memory memory_length);
        table = beacon_after t ws h ∙ sym (beacon_after t memory memory_length);
      };
      kept = all_map (λ g h n. demand3 g.setting h.0 (calls_of (take n g.rows))) (cut_right cs).segments;
    }
  where
    cs : List Command
    cs = commands input
