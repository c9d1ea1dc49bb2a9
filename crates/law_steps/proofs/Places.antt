-- A table's 32 places and the entries that they hold: what a call computes over the places is what the definitions say of the held
-- entries, since a free place adds nothing. Assumes nothing.
use Rattle.std.specs.Prelude.{◌≡◌, refl, ◌⊎◌, true, cond, List, ℕ, ◌-◌, min}
use Rattle.std.proofs.Common.{sym, ap, ◌∙◌, inl, inr, arith}
use Rattle.spec_lists.specs.Lists.{keep, sum_of}
use Rattle.spec_lists.specs.All.{All}
use Rattle.base_lists.specs.Tests.{clash}
use Rattle.base_lists.specs.All.{all_map, all_keep}
use Rattle.base_lists.specs.Sums.{sum_ext, sum_keep}
use Rattle.spec_model.specs.Entries.{free_entry, is_held, is_piece}
use Rattle.spec_model.specs.declared.Entry.{Entry}
use Rattle.spec_model.specs.declared.Table.{Table}
use Rattle.spec_model.specs.declared.Frame.{Frame}
use Rattle.spec_model.specs.Tables.{held_of}
use Rattle.spec_rules.specs.Share.{load, capacity, remains}
use Rattle.spec_rules.specs.WellFormed.{Held, Tidy}
use Rattle.law_model.specs.Loads.{load_of_free}
use Rattle.law_steps.proofs.Held.{held_is}
use Rattle.law_steps.specs.StepB.{step_b_of, owed_before}
use Rattle.law_steps.proofs.StepB.{step_b_total, step_b_closed, remains_rest}

pub tidy_held : {t : Table} → Tidy t → All (Held t.frame) (held_of t)
tidy_held {t} w = all_keep is_held real w.entries
  where
    real : (e : Entry) → is_held e ≡ true → (e ≡ free_entry) ⊎ Held t.frame e → Held t.frame e
    real e q (inl z) = absurd (clash (is_held e) q (ap is_held z))
    real e q (inr h) = h

-- a sum to which a free place adds nothing
pub held_sum : {F : Frame} (f : Entry → ℕ) → f free_entry ≡ 0 → {ps : List Entry} → All (λ e. (e ≡ free_entry) ⊎ Held F e) ps
    → sum_of f ps ≡ sum_of f (keep is_held ps)
held_sum {F} f z {ps} h = sum_ext f (λ e. cond (is_held e) (f e) 0) (all_map one h) ∙ sym (sum_keep f is_held ps)
  where
    one : (e : Entry) → (e ≡ free_entry) ⊎ Held F e → f e ≡ cond (is_held e) (f e) 0
    one e (inl q) = rw q z
    one e (inr q) = rw (held_is q)

module _ (t : Table) (w : Tidy t) where
  abbrev F : Frame
  F = t.frame

  abbrev es : List Entry
  es = held_of t

  pub load_places : load t.entries ≡ load es
  unfolding load
  load_places = held_sum _ load_of_free w.entries

  pub owed_places : (x : Entry) → owed_before x t.entries ≡ owed_before x es
  owed_places x = held_sum _ refl w.entries

  -- step B, place by place
  pub piece_places : All (λ e. is_piece e ≡ true → step_b_of F es e ≡ min e.owed.0 (capacity F es - owed_before e t.entries)) es
  piece_places = all_map (λ e h q. h q ∙ ap (λ v. min e.owed.0 (capacity F es - v)) (sym (owed_places e))) (step_b_closed F es w.once)

  -- L: what all pieces are owed, taken off the capacity
  pub remains_places : remains F es ≡ capacity F es - sum_of (λ (e : Entry). cond (is_piece e) e.owed.0 0) t.entries
  remains_places =
      omega (
        arith,
        remains_rest F es w.once,
        step_b_total F es w.once,
        held_sum (λ (e : Entry). cond (is_piece e) e.owed.0 0) refl w.entries,
      )
