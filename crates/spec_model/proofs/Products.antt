-- The product of two numbers of 32 bits has 64. Assumes nothing.
use Prim.Native.Nat.{ℕ, ◌*◌, ◌≤◌, ◌<◌, ◌^◌}
use native.Mathlib.Nat.{mul-le-mul_left, mul-le-mul_right}
use native.Mathlib.Omega.{arith}

pub product_fits : (a b : ℕ) → a < 2 ^ 32 → b < 2 ^ 32 → a * b < 2 ^ 64
product_fits a b h k =
    let x : a * b ≤ a * 4294967295 = mul-le-mul_left a (omega arith) in
    let y : a * 4294967295 ≤ 4294967295 * 4294967295 = mul-le-mul_right {m = a} {n = 4294967295} 4294967295 (omega arith) in
    omega arith
