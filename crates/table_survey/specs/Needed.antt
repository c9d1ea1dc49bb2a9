-- Tests on what an even share takes of an interval, beside one entry more. Assumes nothing.
use Rattle.std.specs.Prelude.{◌≡◌, false, ℕ, ◌+◌, ◌-◌, ◌≤◌, ◌<◌, leb}
use Rattle.std.proofs.Common.{sym, arith, leb-true, le-leb}
use Rattle.std.proofs.lemmas.Bool.{lt-leb}
use Rattle.base_lists.specs.Tests.{same_test}

-- what is left of b slots beside n is enough for s more
pub over_test : (n s b : ℕ) → b < n → false ≡ leb (n + s) b
over_test n s b h = sym (lt-leb (n + s) b (omega arith))

pub left_test : (n s b : ℕ) → n ≤ b → leb s (b - n) ≡ leb (n + s) b
left_test n s b h =
    same_test (leb s (b - n)) (leb (n + s) b)
    (λ e. let k = leb-true s (b - n) e in le-leb (n + s) b (omega arith))
    (λ e. let k = leb-true (n + s) b e in le-leb s (b - n) (omega arith))
