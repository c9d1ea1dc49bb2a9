-- The choice by the first unfinished jobs of the rows and their releases, in a state of the plan. Assumes nothing.
use Rattle.std.specs.Prelude.{◌≡◌, cond, List, [], ℕ, ◌≤◌, ◌<◌, length, get_or}
use Rattle.std.proofs.Common.{sym, ap, ◌∙◌, lt-ltb, le-ltb, arith}
use Rattle.std.proofs.Math.Option.{none, some}
use Rattle.base_lists.specs.All.{all_at}
use Rattle.spec_model.specs.declared.Name.{Name}
use Rattle.spec_model.specs.Tables.{places}
use Rattle.spec_rules.specs.Slots.{Run, choose}
use Rattle.plan_record.specs.declared.Pen.{Pen}
use Rattle.beacon_plan.specs.Rows.{row_jobs}
use Rattle.beacon_plan.specs.RowLaws.{need_at, job_in, in_row, in_rows}
use Rattle.beacon_plan.specs.Heads.{head_at}
use Rattle.beacon_plan.specs.Places.{releases_of, chosen_at, held_by, head_in, place_chosen}
use Rattle.beacon_plan.specs.Kept.{Firsts}
use Rattle.beacon_plan.specs.Steps.{State, lengths_short, chosen_needs}

-- the place chosen: its first unfinished job is the choice, and one of its sixteen; or it is none
module _ {b t : ℕ} {ss : List Name} {Ts : List ℕ} {total : List Run} {old ws : List ℕ} {nss : List (List ℕ)} {p : Pen}
    (s : State b t ss Ts total old ws nss p) (h : t < b) {hs rs : List ℕ} (k : Firsts Ts nss hs rs) {i : ℕ} (f : i ≡ chosen_at t Ts rs)
  where
    held : held_by (head_in ss Ts nss) i ≡ choose t (row_jobs ss Ts nss)
    held =
        ap (held_by (head_in ss Ts nss)) (f ∙ ap (chosen_at t Ts) (k.releases ∙ ap (releases_of Ts) k.heads))
        ∙ place_chosen t ss Ts nss s.given.streams s.rows s.given.few s.wide (lengths_short s.given) (omega (arith, s.given.short))

    pub none_chosen : places ≤ i → choose t (row_jobs ss Ts nss) ≡ none
    none_chosen l = sym held ∙ ap (λ x. cond x (some (head_in ss Ts nss i)) none) (le-ltb i places l)

    pub job_chosen : i < places → (choose t (row_jobs ss Ts nss) ≡ some (job_in ss Ts nss i (get_or hs i 0))) × (get_or hs i 0 < 16)
    job_chosen l =
        let c : choose t (row_jobs ss Ts nss) ≡ some (job_in ss Ts nss i (get_or hs i 0)) =
        sym held ∙ ap (λ x. cond x (some (head_in ss Ts nss i)) none) (lt-ltb i places l)
        ∙ ap (λ j. some (job_in ss Ts nss i j)) (sym (ap (λ xs. get_or xs i 0) k.heads ∙ head_at nss i)) in
        let n : 1 ≤ need_at nss i (get_or hs i 0) = chosen_needs t (row_jobs ss Ts nss) c in (
          c,
          omega (
            arith,
            in_row (get_or nss i []) (get_or hs i 0) n,
            all_at (λ (ns : List ℕ). length ns ≡ 16) nss [] s.wide i (in_rows nss i (get_or hs i 0) n),
          ),
        )
