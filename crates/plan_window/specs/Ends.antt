-- Where a window's part begins and ends, counted in records, and the laws that its callers cite. Assumes nothing.
use Rattle.std.specs.Prelude.{◌≡◌, refl, ◌≢◌, cond, List, ℕ, ◌*◌, ◌-◌, ◌≤◌, eqb, length, take, drop}
use Rattle.std.proofs.Math.Decide.{ℕ_discrete}
use Rattle.std.proofs.Common.{arith}
use borrow.Author.Tests.{eq-eqb, ne_eqb}
use Rattle.spec_rules.specs.Records.{record_words}
use Rattle.spec_rules.specs.Reading.{starts_of, before, window_answer, window_part}
use Rattle.plan_window.specs.declared.Bounds.{Bounds}
use Rattle.plan_window.specs.Laws.{window_ends, window_part_lem, window_none}

unfoldable pub bounds_of : (ws : List ℕ) (n from until : ℕ) → Bounds
bounds_of ws n from until =
    let place : ℕ → ℕ = λ x. cond (eqb (window_answer ws n from until) 0) (before x (starts_of n ws)) 0 in
    record { first = place from; end = place until }

abbrev pub no_records : Bounds
no_records = record { first = 0; end = 0 }

module _ (ws : List ℕ) (n from until : ℕ) where
  abbrev bounds : Bounds
  bounds = bounds_of ws n from until

  -- as the code finds them
  pub bounds_none : {a : ℕ} → a ≡ window_answer ws n from until → a ≢ 0 → no_records ≡ bounds
  unfolding bounds_of
  bounds_none e z = rw (ne_eqb _ _ (rw e at z))

  pub bounds_found : {b c : ℕ} → 0 ≡ window_answer ws n from until → b ≡ before from (starts_of n ws) → c ≡ before until (starts_of n ws)
      → record { first = b; end = c } ≡ bounds
  unfolding bounds_of
  bounds_found e p q = rw (p, q, ← e)

  -- what holds of the ends of an accepted window and of no record holds of them
  bounds_either : (P : ℕ → ℕ → Type 0)
      → (window_answer ws n from until ≡ 0 → P (before from (starts_of n ws)) (before until (starts_of n ws)))
      → (window_answer ws n from until ≢ 0 → P 0 0)
      → P bounds.first bounds.end
  unfolding bounds_of
  bounds_either P f g =
      elim (ℕ_discrete (window_answer ws n from until) 0) [
        | yes e ↦ rw (eq-eqb _ _ e) (f e)
        | no z ↦ rw (ne_eqb _ _ z) (g z)
      ]

  -- of what the code finds
  module _ {b : Bounds} (is : b ≡ bounds) where
    pub bounds_within : (b.first ≤ b.end) × (record_words * b.end ≤ length ws)
    bounds_within =
        rw is
        (bounds_either
        (λ f e. (f ≤ e) × (record_words * e ≤ length ws))
        (λ z. window_ends ws n from until z refl refl)
        (λ _. (omega arith, omega arith)))

    pub bounds_part : take (record_words * b.end - record_words * b.first) (drop (record_words * b.first) ws)
        ≡ window_part ws n from until
    bounds_part =
        rw is
        (bounds_either
        (λ f e. take (record_words * e - record_words * f) (drop (record_words * f) ws) ≡ window_part ws n from until)
        (λ z. window_part_lem ws n from until z refl refl)
        (window_none ws n from until))
