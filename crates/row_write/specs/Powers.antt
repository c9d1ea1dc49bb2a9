-- The table of powers of ten, and how far down it a number's digits begin. Assumes nothing.
use Rattle.std.specs.Prelude.{◌≡◌, refl, ◌⊎◌, Bool, true, false, List, [], ◌∷◌, map, ℕ, zero, suc, ◌+◌, ◌/◌, ◌%◌, ◌^◌, ◌≤◌, ◌<◌, max, leb, length, get_or}
use Rattle.std.proofs.Common.{ap, ◌∙◌, inl, inr, le_refl, arith, le-leb, leb-true, leb-false}
use Rattle.std.proofs.Math.Nat.{pow-succ'}
use Rattle.std.proofs.lemmas.List.{length-map}
use Rattle.spec_lists.specs.Lists.{cons_if, keep}
use Rattle.base_lists.specs.Tests.{either}
use Rattle.spec_lists.specs.All.{All, stop, and}
use Rattle.base_lists.specs.All.{all_at, keep_all}
use Rattle.spec_shelf.specs.Bytes.{tens, digit_at, decimal, number_most}

-- the k lowest powers, the highest first
abbrev pub powers : ℕ → List ℕ
powers zero = []
powers (suc k) = 10 ^ k ∷ powers k

pub power_positive : (k : ℕ) → 0 < 10 ^ k
power_positive zero = omega arith
power_positive (suc k) = omega (arith, pow-succ' 10 k, power_positive k)

powers_positive : (k : ℕ) → All (λ p. 0 < p) (powers k)
powers_positive zero = stop
powers_positive (suc k) = and (power_positive k) (powers_positive k)

powers_length : (k : ℕ) → length (powers k) ≡ k
powers_length zero = refl
powers_length (suc k) = ap suc (powers_length k)

-- a number of the table may divide
pub tens_positive : (i : ℕ) → i < 10 → 0 < get_or tens i 0
tens_positive i h = all_at (λ p. 0 < p) tens 0 (powers_positive 10) i h

-- ---- of the table's powers those at most m are the lowest
abbrev at_most : ℕ → ℕ → Bool
at_most m p = leb p m

all_at_most : (m k : ℕ) → 10 ^ k ≤ m → All (λ p. at_most m p ≡ true) (powers (suc k))
all_at_most m zero h = and (le-leb 1 m h) stop
all_at_most m (suc k) h = and (le-leb (10 ^ suc k) m h) (all_at_most m k (omega (arith, pow-succ' 10 k)))

-- the highest power kept; m has no digit above it, unless m has more digits than the table
pub record Top (m j : ℕ) : Type 0 where
  pub top : ℕ
  pub low : top ≤ j
  pub kept : keep (at_most m) (powers (suc j)) ≡ powers (suc top)
  pub least : 10 ^ top ≤ m
  pub most : m < 10 ^ suc j → m < 10 ^ suc top

top_of : (m j : ℕ) → 1 ≤ m → Top m j
top_of m zero h = record { top = 0; low = le_refl 0; kept = ap (λ b. cons_if b 1 []) (le-leb 1 m h); least = h; most = λ l. l }
top_of m (suc j) h = go (either (at_most m (10 ^ suc j))) (top_of m j h)
  where
    go : (at_most m (10 ^ suc j) ≡ true) ⊎ (at_most m (10 ^ suc j) ≡ false) → Top m j → Top m (suc j)
    go (inl e) t = record {
      top = suc j;
      low = le_refl (suc j);
      kept = keep_all (at_most m) (all_at_most m (suc j) (leb-true (10 ^ suc j) m e));
      least = leb-true (10 ^ suc j) m e;
      most = λ l. l;
    }
    go (inr e) t = record {
      top = t.top;
      low = omega (arith, t.low);
      kept = ap (λ b. cons_if b (10 ^ suc j) (keep (at_most m) (powers (suc j)))) e ∙ t.kept;
      least = t.least;
      most = λ l. t.most (leb-false (10 ^ suc j) m e);
    }

-- ---- the digits of a number
pub top_power : (n : ℕ) → Top (max 1 n) 9
top_power n = top_of (max 1 n) 9 (omega arith)

pub digits : (n : ℕ) → decimal n ≡ map (digit_at n) (powers (suc (top_power n).top))
unfolding decimal
digits n = ap (map (digit_at n)) (top_power n).kept

pub decimal_length : (n : ℕ) → length (decimal n) ≡ suc (top_power n).top
decimal_length n = ap length (digits n) ∙ length-map (powers (suc (top_power n).top)) (digit_at n) ∙ powers_length (suc (top_power n).top)

pub decimal_most : (n : ℕ) → length (decimal n) ≤ number_most
decimal_most n = omega (arith, decimal_length n, (top_power n).low)

pub decimal_least : (n : ℕ) → 1 ≤ length (decimal n)
decimal_least n = omega (arith, decimal_length n)

-- a number below ten is its only digit
lowest : (k m : ℕ) → 10 ^ k ≤ m → m < 10 → k ≡ 0
lowest zero m l h = refl
lowest (suc k) m l h = omega (arith, pow-succ' 10 k, power_positive k)

pub one_digit : (n : ℕ) → n < 10 → decimal n ≡ (48 + n) ∷ []
one_digit n h =
    let t = top_power n in
    let z : t.top ≡ 0 = lowest t.top (max 1 n) t.least (omega arith) in
    let d : n / 1 % 10 ≡ n = omega arith in
    digits n ∙ ap (λ k. map (digit_at n) (powers (suc k))) z ∙ ap (λ x. (48 + x) ∷ []) d
