-- Calls with any arguments, in any order, and what is seen of them: arguments, answers and plans.
-- Document 01, "What a list of calls gives". Assumes nothing.
use Rattle.std.specs.Prelude.{ℕ, List, [], ◌∷◌}
use Rattle.spec_model.specs.declared.Name.{Name}
use Rattle.spec_model.specs.declared.Request.{Request}
use Rattle.spec_model.specs.declared.Table.{Table}
use Rattle.spec_rules.specs.Slots.{Run}
use Rattle.spec_rules.specs.Records.{records_of}
use Rattle.spec_rules.specs.Calls.{offer_answer, offered, held_answer, withdrawn, beacon}

-- a call with its arguments; a beacon's is the memory lent to it
pub data Call : Type 0 where
  Offer : Request → Call
  Withdraw : Name → Call
  Beacon : (lent : List ℕ) → Call

-- what is seen of a call: the call with its arguments, its answer, and a beacon's plan, empty of any other
pub record Seen : Type 0 where
  pub call : Call
  pub answer : ℕ
  pub plan : List Run

-- a call on a table: its answer, the plan as it left it, and with them what is seen of it
unfoldable pub answer_on : Table → Call → ℕ
answer_on t (Offer q) = offer_answer t q
answer_on t (Withdraw n) = held_answer t n
answer_on t (Beacon ws) = (beacon t ws).answer

unfoldable pub plan_on : Table → Call → List Run
plan_on t (Offer q) = []
plan_on t (Withdraw n) = []
plan_on t (Beacon ws) = let b = beacon t ws in records_of b.count b.words

abbrev pub seen : Table → Call → Seen
seen t c = record { call = c; answer = answer_on t c; plan = plan_on t c }

-- the table that it leaves
unfoldable pub after : Table → Call → Table
after t (Offer q) = offered t q
after t (Withdraw n) = withdrawn t n
after t (Beacon ws) = (beacon t ws).table

-- a list of calls, each on the table that the one before it left
unfoldable pub history : Table → List Call → List Seen
history t [] = []
history t (c ∷ cs) = seen t c ∷ history (after t c) cs

-- the table after a list of calls
unfoldable pub table_after : Table → List Call → Table
table_after t [] = t
table_after t (c ∷ cs) = table_after (after t c) cs
