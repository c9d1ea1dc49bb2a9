-- What a beacon gives in enough memory. Assumes nothing.
use Rattle.std.specs.Prelude.{◌≡◌, List, ℕ, ◌≤◌, length}
use Rattle.std.proofs.Common.{sym, subst, ap, ap₂, ◌∙◌}
use Rattle.spec_lists.specs.Lists.{concat_map}
use Rattle.spec_model.specs.declared.Table.{Table}
use Rattle.spec_rules.specs.Records.{most_records, plan_words}
use Rattle.spec_rules.specs.Calls.{plan_of, advanced, Beacon, beacon}
use Rattle.spec_rules.specs.WellFormed.{WellFormed}
use Rattle.law_interval.proofs.Plan.{plan_right}
use Rattle.beacon_share.specs.declared.Shares.{Shares}
use Rattle.call_beacon.specs.Moves.{Moves}
use Rattle.spec_shelf.specs.Printed.{slot_row_of, slot_rows}
use Rattle.law_rows.specs.Plans.{planned, rows_of_words}

-- what a call gives that meets the contract of planning an interval
pub record Made (t : Table) (ws : List ℕ) (answer count used : ℕ) (shares : Shares) (words : List ℕ) : Type 0 where
  pub accepted : answer ≡ 0
  pub few : count ≤ most_records
  pub after : Moves t used shares (advanced t)
  pub memory : words ≡ (beacon t ws).words
  pub rows : slot_rows count words ≡ concat_map slot_row_of (plan_of t)

pub made : {t : Table} {ws : List ℕ} {answer count used : ℕ} {shares : Shares} {words : List ℕ} → WellFormed t → plan_words ≤ length ws
    → (answer ≡ (beacon t ws).answer) × ((count ≡ (beacon t ws).count)
    × ((words ≡ (beacon t ws).words) × Moves t used shares (beacon t ws).table))
    → Made t ws answer count used shares words
made {t} {ws} {used = used} {shares} w h (a, (n, (v, m))) =
    let p = planned t ws h in
    let count-is = n ∙ ap (λ (b : Beacon). b.count) p in
    record {
      accepted = a ∙ ap (λ (b : Beacon). b.answer) p;
      few = subst (λ k. k ≤ most_records) (sym count-is) (plan_right t w).few;
      after = subst (Moves t used shares) (ap (λ (b : Beacon). b.table) p) m;
      memory = v;
      rows = ap₂ slot_rows count-is (v ∙ ap (λ (b : Beacon). b.words) p) ∙ rows_of_words (plan_of t) _;
    }
