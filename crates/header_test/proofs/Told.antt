-- A test of all numbers of a range tells whether each of them passes. Assumes nothing.
use Rattle.std.proofs.Common.{◌≡◌, Bool, true, false, ℕ, ◌+◌, ◌-◌, ◌≤◌, ◌<◌, length, get_or, refl, sym, subst, arith, MatchBool}
use Rattle.std.specs.List.{range_with_len, AllWithin, HoldsAt}
use Rattle.std.proofs.lemmas.List.FromFn.{length-range_with_len, get_or-range_with_len}
use Rattle.header_test.specs.Due.{Tells}

pub told : (P : ℕ → Type 0) (r : Bool) (a n : ℕ) → (let xs = range_with_len a n in
    MatchBool r (AllWithin P xs 0 (length xs)) ((k : ℕ) × (k < length xs) × HoldsAt (λ x. P x → ⊥) xs k))
    → Tells r ((k : ℕ) → a ≤ k → k < a + n → P k)
told P true a n h = (
  λ e k l m.
      let here : get_or (range_with_len a n) (k - a) 0 ≡ k = omega (arith, get_or-range_with_len a n (k - a) 0 (omega arith)) in
      subst P here (h (k - a) 0 (omega arith) (omega (arith, length-range_with_len a n))),
  λ e. refl,
)
told P false a n h = (
  λ e. cc,
  λ all.
      let l : h.0 < n = omega (arith, h.1, length-range_with_len a n) in
      absurd (h.2 0 (subst P (sym (get_or-range_with_len a n h.0 0 l)) (all (a + h.0) (omega arith) (omega arith)))),
)
