-- A call that is refused leaves the table, and the words lent, as they were. Assumes nothing.
use Rattle.std.specs.Prelude.{◌≡◌, refl, ◌≢◌, Bool, true, false, cond, not, List, ℕ, ltb, length}
use Rattle.std.proofs.Common.{ne_eqb}
use Rattle.spec_model.specs.Requests.{refusal}
use Rattle.spec_model.specs.declared.Request.{Request}
use Rattle.spec_model.specs.declared.Table.{Table}
use Rattle.spec_model.specs.declared.Name.{Name}
use Rattle.spec_model.specs.Tables.{with_entries}
use Rattle.spec_rules.specs.Calls.{plan_of, refused_beacon, planned_beacon, beacon, holds, offer_answer, offered, held_answer, freed, withdrawn}
use Rattle.spec_rules.specs.Records.{plan_words}

pub refused_offer : (t : Table) (q : Request) → offer_answer t q ≢ 0 → offered t q ≡ t
unfolding offered
refused_offer t q h = rw (ne_eqb (offer_answer t q) 0 h)

pub refused_withdrawal : (t : Table) (n : Name) → held_answer t n ≢ 0 → withdrawn t n ≡ t
unfolding withdrawn held_answer refusal
refused_withdrawal t n h = go (holds t n) h
  where
    go : (b : Bool) → ◌≢◌ {A = ℕ} (cond (not b) 20 0) 0 → cond b (with_entries t (freed n t.entries)) t ≡ t
    go true q = absurd (q refl)
    go false q = refl

-- the whole result: the answer 30, no records, every word as found, the table as before
pub refused_beacon_lem : (t : Table) (ws : List ℕ) → (beacon t ws).answer ≢ 0 → beacon t ws ≡ refused_beacon t ws
unfolding beacon
refused_beacon_lem t ws h = go (ltb (length ws) plan_words) h
  where
    go : (b : Bool) → (cond b (refused_beacon t ws) (planned_beacon t ws (plan_of t))).answer ≢ 0
        → cond b (refused_beacon t ws) (planned_beacon t ws (plan_of t)) ≡ refused_beacon t ws
    go true q = refl
    go false q = absurd (q refl)
