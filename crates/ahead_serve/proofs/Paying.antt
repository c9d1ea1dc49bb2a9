-- The loop that pays what is due: what it has done after i places. Assumes nothing.
use Rattle.std.proofs.Common.{◌≡◌, ℕ, ◌+◌, ◌*◌, ◌≤◌, ◌<◌, List, length, take, set, get_or, sum_by, refl, ap, subst, ◌∙◌, add-zero, arith, eq-eqb, ne_eqb}
use Rattle.std.proofs.lemmas.List.Sums.{sum_by_more}
use Rattle.base_lists.specs.Loops.{mapped, mapped_at}
use Rattle.table_queue.specs.Queues.{largest32}
use Rattle.ahead_figures.specs.Arrays.{mapped_turn}
use Rattle.ahead_figures.specs.Columns.{with_owed}
use Rattle.ahead_figures.specs.declared.Figures.{Figures}
use Rattle.ahead_serve.specs.Places.{due_at, paid_at}

-- the sum so far, and what is still owed
pub record Paying (at : ℕ) (fs : List Figures) (i due : ℕ) (gs : List Figures) : Type 0 where
  pub paid : due ≡ sum_by (due_at at) (take i fs)
  pub small : due ≤ largest32 * i
  pub so_far : gs ≡ mapped (paid_at at) i fs

module _ {at i due : ℕ} {fs gs : List Figures} (p : Paying at fs i due gs) (h : i < length fs) (d : Figures) where
  turned : {v : ℕ} {g : Figures} → v ≡ due_at at (get_or gs i d) → v ≤ largest32 → g ≡ paid_at at (get_or gs i d)
      → Paying at fs (i + 1) (due + v) (set gs i g)
  turned e l q =
      let own = ap (λ xs. due_at at (get_or xs i d)) p.so_far ∙ ap (due_at at) (mapped_at (paid_at at) fs i d h) in
      record {
        paid = omega (arith, p.paid, e, own, sum_by_more (due_at at) fs i d h);
        small = omega (arith, p.small);
        so_far = mapped_turn (paid_at at) fs i d p.so_far h q;
      }

  pub paying_due : (get_or gs i d).end.0 ≡ at → (get_or gs i d).owed.0 ≤ largest32
      → Paying at fs (i + 1) (due + (get_or gs i d).owed.0) (set gs i (with_owed 0 (get_or gs i d)))
  paying_due e l = turned (rw (eq-eqb _ _ e) refl) l (rw (eq-eqb _ _ e) refl)

  pub paying_later : ((get_or gs i d).end.0 ≡ at → ⊥) → Paying at fs (i + 1) due (set gs i (get_or gs i d))
  paying_later e =
      subst (λ n. Paying at fs (i + 1) n (set gs i (get_or gs i d))) (add-zero due)
      (turned (rw (ne_eqb _ _ e) refl) (omega arith) (rw (ne_eqb _ _ e) refl))
