-- What an admission has had, as plans are added: the plan of one more interval counts where that interval is asked for, and nothing
-- else changes. Assumes nothing.
use Rattle.std.specs.Prelude.{◌≡◌, refl, ◌≢◌, List, [], ◌∷◌, ℕ, suc, ◌+◌, ◌≤◌, ◌<◌, get_or}
use Rattle.std.proofs.Common.{sym, ◌∙◌, inr, le_refl, arith, length-append}
use Rattle.std.proofs.Math.Path.{ap}
use Rattle.std.proofs.Math.Decide.{dec_le}
use Rattle.std.proofs.Math.ListN.{length, get_or-append, get_or-eq_default}
use Rattle.std.proofs.Math.Seq.{get_or-append_seam}
use Rattle.base_edf.specs.Time.{span_same, span_bump, span_zero}
use Rattle.spec_model.specs.Frames.{slots_in}
use Rattle.spec_model.specs.declared.Frame.{Frame}
use Rattle.spec_model.specs.declared.Name.{Name}
use Rattle.spec_rules.specs.Slots.{Run}
use Rattle.spec_demand.specs.Ledger.{Admission, grown}
use Rattle.spec_demand.specs.Demand.{given_to, slots_of, had}

-- an empty plan gives no slots
pub slots_empty : (s : Name) (a b : ℕ) → slots_of s a b [] ≡ 0
unfolding slots_of given_to
slots_empty s a b = span_zero (λ x. 0) a b (λ x q. refl)

-- ---- the plans after one more interval
module _ (rs : List Run) (h : Admission) where
  pub grown_length : length (grown rs h).plans ≡ suc (length h.plans)
  grown_length = length-append h.plans (rs ∷ []) ∙ omega arith

  pub grown_last : get_or (grown rs h).plans (length h.plans) [] ≡ rs
  grown_last = get_or-append_seam h.plans rs [] []

  pub grown_other : (k : ℕ) → k ≢ length h.plans → get_or (grown rs h).plans k [] ≡ get_or h.plans k []
  grown_other k n =
      elim (dec_le (length h.plans) k) [
        | yes q ↦ get_or-eq_default (grown rs h).plans [] (omega (arith, grown_length)) ∙ sym (get_or-eq_default h.plans [] q)
        | no q ↦ get_or-append h.plans (rs ∷ []) [] k (omega arith)
      ]

-- ---- what was had
module _ (F : Frame) (h : Admission) where
  -- in interval k
  abbrev had_in : ℕ → ℕ
  had_in k = slots_of h.request.name 0 (slots_in F) (get_or h.plans k [])

  -- an interval still to come
  had_coming : (k : ℕ) → length h.plans ≤ k → had_in k ≡ 0
  had_coming k q = rw (get_or-eq_default h.plans []) (slots_empty h.request.name 0 (slots_in F))

  pub had_none : (a b : ℕ) → length h.plans ≤ a → had F h a b ≡ 0
  unfolding had
  had_none a b q = span_zero had_in a b (λ k l. had_coming k (omega arith))

  module _ (rs : List Run) where
    abbrev had_after : ℕ → ℕ
    had_after k = slots_of h.request.name 0 (slots_in F) (get_or (grown rs h).plans k [])

    other : (k : ℕ) → k ≢ length h.plans → had_after k ≡ had_in k
    other k n = ap (slots_of h.request.name 0 (slots_in F)) (grown_other rs h k n)

    -- intervals before the new one
    pub had_old : (a b : ℕ) → b ≤ length h.plans → had F (grown rs h) a b ≡ had F h a b
    unfolding had
    had_old a b q = span_same had_in had_after (length h.plans) a b other (inr q)

    -- intervals of which the new one is one
    pub had_new : (a b : ℕ) → a ≤ length h.plans → length h.plans < b
        → had F (grown rs h) a b ≡ had F h a b + slots_of h.request.name 0 (slots_in F) rs
    unfolding had
    had_new a b p q =
        let n = length h.plans in
        let v = slots_of h.request.name 0 (slots_in F) rs in
        let now : had_after n ≡ v = ap (slots_of h.request.name 0 (slots_in F)) (grown_last rs h) in
        span_bump had_in had_after n v a b other (omega (arith, now, had_coming n (le_refl n))) p q
