-- Idle slots before others, as those of a header: no job has them, every job is met so much later, and what holds of each slot's job holds as
-- before. Assumes nothing.
use Rattle.std.specs.Prelude.{◌≡◌, refl, false, cond, List, ◌∷◌, ◌++◌, ℕ, zero, suc, ◌+◌, ◌<◌, get_or, replicate}
use Rattle.std.proofs.Common.{sym, inl, inr, ⊎_elim, add-zero, zero-add, add-suc, suc-add, arith}
use Rattle.std.proofs.Math.Option.{none, some, none-ne-some}
use Rattle.base_lists.specs.Tests.{cond_zero}
use Rattle.base_lists.specs.All.{all_of}
use Rattle.base_lists.specs.Sums.{sum_zero}
use Rattle.spec_rules.specs.Slots.{Job, JobName, Slot, name_of, has_slot}
use Rattle.law_slots.specs.Meets.{Met, Outside}
use Rattle.law_slots.specs.Idle.{Shared}

-- nobody has one of them
pub idle_free : (h x : ℕ) (cs : List Slot) → x < h → get_or (replicate h none ++ cs) x none ≡ none
idle_free zero x cs l = absurd (omega arith)
idle_free (suc h) zero cs l = refl
idle_free (suc h) (suc x) cs l = idle_free h x cs (omega arith)

-- ---- jobs that are met
met_idle : (s n : ℕ) (cs : List Slot) (j : Job) → Met (suc s) n cs j → Met s (suc n) (none ∷ cs) j
met_idle s n cs j m = record { exact = omega (arith, m.exact); outside = out }
  where
    out : (x : ℕ) → Outside (s + x) j → has_slot (get_or (none ∷ cs) x none) j ≡ false
    out zero z = refl
    out (suc x) z = m.outside x (⊎_elim (λ e. inl (omega arith)) (λ e. inr (omega arith)) z)

pub met_after : (h s n : ℕ) (cs : List Slot) (j : Job) → Met (s + h) n cs j → Met s (h + n) (replicate h none ++ cs) j
met_after zero s n cs j m = rw (zero-add n) (rw (add-zero s) at m)
met_after (suc h) s n cs j m =
    rw (suc-add h n) (met_idle s (h + n) (replicate h none ++ cs) j (met_after h (suc s) n cs j (rw (add-suc s h, ← suc-add s h) at m)))

pub shared_after : (h : ℕ) (cs : List Slot) (js : List Job) → Shared cs js → Shared (replicate h none ++ cs) js
shared_after zero cs js f p x = f p x
shared_after (suc h) cs js f p zero = sym (sum_zero (λ j. cond (p (name_of j)) 0 0) (all_of js (λ j. cond_zero (p (name_of j)))))
shared_after (suc h) cs js f p (suc x) = shared_after h cs js f p x

-- ---- what holds of each slot's job
pub owned_after : (P : JobName → Type 0) (h : ℕ) (cs : List Slot) → ((x : ℕ) (k : JobName) → get_or cs x none ≡ some k → P k)
    → (x : ℕ) (k : JobName) → get_or (replicate h none ++ cs) x none ≡ some k → P k
owned_after P zero cs f x k e = f x k e
owned_after P (suc h) cs f zero k e = absurd (none-ne-some k e)
owned_after P (suc h) cs f (suc x) k e = owned_after P h cs f x k e
