-- What `shelf` prints is what histories show. The rows of its input are cut at the openings that succeed; the rows from one to the next
-- make the calls of one list, each row shows what is seen of its call, and demand 3 holds of that list. Document 01, "Reading, lending,
-- printing" and "What a list of calls gives". docs/GUARANTEE.md reads the statement line by line. Assumes nothing.
use Rattle.std.specs.Prelude.{◌≡◌, ◌≢◌, Bool, true, false, List, [], ◌∷◌, ◌++◌, map, ℕ, eqb, length, take, drop, replicate}
use Rattle.spec_lists.specs.Lists.{concat_map}
use Rattle.spec_lists.specs.All.{All}
use Rattle.spec_text.specs.Rows.{rows_of}
use Rattle.spec_shelf.specs.Commands.{open_verb, offer_verb, withdraw_verb, beacon_verb, command_of}
use Rattle.spec_shelf.specs.declared.Command.{Command}
use Rattle.spec_shelf.specs.declared.Command.TheVariants.{Open, Offer as OfferRow, Withdraw as WithdrawRow, Beacon as BeaconRow, OtherForm}
use Rattle.spec_model.specs.declared.Setting.{Setting}
use Rattle.spec_model.specs.declared.Table.{Table}
use Rattle.spec_rules.specs.Slots.{Run}
use Rattle.spec_rules.specs.Records.{plan_words}
use Rattle.spec_rules.specs.Settings.{open_answer, Succeeds, opened}
use Rattle.spec_shelf.specs.Printed.{header_row, plain_row, stream_row, slot_row_of}
use Rattle.spec_shelf.specs.Meaning.{State}
use Rattle.spec_shelf.specs.Meaning.{first_state, with_table, row_verb, output_of}
use Rattle.shelf_state.specs.Cutting.{first_shelf}
use Rattle.shelf_state.specs.Whole.{state_run, served}
use Rattle.spec_demand.specs.History.{Call, Offer, Withdraw, Beacon, Seen, seen, after, history, table_after}
use Rattle.spec_demand.specs.Demand.{Demanded}

-- ---- the cut
-- a successful opening by what it is told, and the rows up to the next one
pub record Segment : Type 0 where
  pub setting : Setting
  pub rows : List Command

-- the rows before the first successful opening, and the segments
pub record Cut : Type 0 where
  pub early : List Command
  pub segments : List Segment

-- one more row in front: of openings only one that succeeds begins a segment
abbrev pub adds_row : Command → Cut → Cut
adds_row c k = record { early = c ∷ k.early; segments = k.segments }

abbrev pub opens : (succeeds : Bool) → Setting → Cut → Cut
opens true s k = record { early = []; segments = record { setting = s; rows = k.early } ∷ k.segments }
opens false s k = adds_row (Open s) k

abbrev pub in_front : Command → Cut → Cut
in_front (Open s) k = opens (eqb (open_answer s) 0) s k
in_front (OfferRow q) k = adds_row (OfferRow q) k
in_front (WithdrawRow n) k = adds_row (WithdrawRow n) k
in_front BeaconRow k = adds_row BeaconRow k
in_front OtherForm k = adds_row OtherForm k

unfoldable pub cut : List Command → Cut
cut [] = record { early = []; segments = [] }
cut (c ∷ cs) = in_front c (cut cs)

-- what makes k the cut of the rows cs: every row is in its place, the opening of each segment succeeds, and no other does
abbrev pub Refused : Command → Type 0
Refused c = (s : Setting) → c ≡ Open s → open_answer s ≢ 0

abbrev pub with_opening : Segment → List Command
with_opening g = Open g.setting ∷ g.rows

pub record Cuts (cs : List Command) (k : Cut) : Type 0 where
  pub all : cs ≡ k.early ++ concat_map with_opening k.segments
  pub early : All Refused k.early
  pub segments : All (λ g. Succeeds g.setting × All Refused g.rows) k.segments

-- ---- the calls that rows make
-- as many words as the program lends a beacon
unfoldable pub memory : List ℕ
memory = replicate plan_words 0

-- a refused opening and a row of another form make none
abbrev pub call_of : Command → List Call
call_of (Open s) = []
call_of (OfferRow q) = Offer q ∷ []
call_of (WithdrawRow n) = Withdraw n ∷ []
call_of BeaconRow = Beacon memory ∷ []
call_of OtherForm = []

abbrev pub calls_of : List Command → List Call
calls_of cs = concat_map call_of cs

-- ---- the rows that show them
-- a call with its answer a, and a beacon with its plan rs
abbrev pub rows_of_call : Call → (a : ℕ) → List Run → List ℕ
rows_of_call (Offer q) a rs = stream_row offer_verb q.name a
rows_of_call (Withdraw n) a rs = stream_row withdraw_verb n a
rows_of_call (Beacon ws) a rs = plain_row beacon_verb a ++ concat_map slot_row_of rs

abbrev pub rows_seen : Seen → List ℕ
rows_seen v = rows_of_call v.call v.answer v.plan

abbrev pub next_rows : List Seen → List ℕ
next_rows [] = []
next_rows (v ∷ vs) = rows_seen v

-- the rows printed for the rows cs, where vs is seen of their calls: a call shows the next of vs, a refused opening its answer, another
-- form 50
unfoldable pub shown : List Command → List Seen → List ℕ
shown [] vs = []
shown (Open s ∷ cs) vs = plain_row open_verb (open_answer s) ++ shown cs vs
shown (OfferRow q ∷ cs) vs = next_rows vs ++ shown cs (drop 1 vs)
shown (WithdrawRow n ∷ cs) vs = next_rows vs ++ shown cs (drop 1 vs)
shown (BeaconRow ∷ cs) vs = next_rows vs ++ shown cs (drop 1 vs)
shown (OtherForm ∷ cs) vs = plain_row row_verb 50 ++ shown cs vs

-- before the first successful opening each call answers 51, and there is no plan
abbrev pub unopened : Call → Seen
unopened c = record { call = c; answer = 51; plan = [] }

abbrev pub early_rows : List Command → List ℕ
early_rows cs = shown cs (map unopened (calls_of cs))

-- the opening's row, and those of the history from its table
abbrev pub segment_rows : Segment → List ℕ
segment_rows g = plain_row open_verb 0 ++ shown g.rows (history (opened g.setting) (calls_of g.rows))

-- the table that the last segment leaves
unfoldable pub leaves : State → List Segment → State
leaves s [] = s
leaves s (g ∷ gs) = leaves (with_table (table_after (opened g.setting) (calls_of g.rows))) gs

-- a beacon on table t answers, plans and leaves the same, whether it is lent the words ws or us
pub record AsLent (t : Table) (ws us : List ℕ) : Type 0 where
  pub answer : (seen t (Beacon ws)).answer ≡ (seen t (Beacon us)).answer
  pub plan : (seen t (Beacon ws)).plan ≡ (seen t (Beacon us)).plan
  pub table : after t (Beacon ws) ≡ after t (Beacon us)

-- ---- the statement
module _ (input : List ℕ) where
  abbrev pub commands : List Command
  commands = map command_of (rows_of input)

  abbrev pub early_of : List Command
  early_of = (cut commands).early

  abbrev pub segments_of : List Segment
  segments_of = (cut commands).segments

  pub record ShelfKeeps : Type 0 where
    -- what the program serves, chunk by chunk and then the last row, is the output, in whatever chunks the input comes
    pub chunks : (cs : List (List ℕ)) → concat_map (λ c. c) cs ≡ input → header_row ++ served first_shelf cs ≡ output_of input
    -- every row of the input stands in the cut
    pub cuts : Cuts commands (cut commands)
    -- every byte of the output: the header, the rows that no table answers, and history after history
    pub output : output_of input ≡ header_row ++ (early_rows early_of ++ concat_map segment_rows segments_of)
    -- the table after the first n rows is the one after the same calls
    pub table : (n : ℕ) → let cs = take n commands in state_run first_state cs ≡ leaves first_state (cut cs).segments
    -- whatever words the memory has that a beacon is lent, it answers, plans and leaves the same
    pub lent : (t : Table) (ws : List ℕ) → length ws ≡ plan_words → AsLent t ws memory
    -- demand 3, after the first n rows of each segment
    pub kept : All (λ g. (n : ℕ) → Demanded g.setting (calls_of (take n g.rows))) segments_of
