-- Sums over time: of a function of the time from a start to an end, and how such sums join, shift and compare;
-- and a value that counts only up to a time.
-- Assumes nothing.
use Rattle.std.specs.Prelude.{◌≡◌, refl, ◌⊎◌, ◌≢◌, List, ℕ, zero, suc, ◌+◌, ◌*◌, ◌-◌, ◌≤◌, ◌<◌}
use Rattle.std.proofs.Common.{ap, ◌∙◌, inl, inr, ⊎_elim, zero-le, le_refl, arith}
use Rattle.std.proofs.Math.Decide.{dec_le}
use Rattle.spec_lists.specs.Lists.{sum_of, span}
use Rattle.base_lists.specs.All.{all_of}
use Rattle.base_lists.specs.Sums.{sum_add, sum_zero}

-- v if l ≤ d, else 0
abbrev pub due : ℕ → ℕ → ℕ → ℕ
due zero d v = v
due (suc l) zero v = 0
due (suc l) (suc d) v = due l d v

-- ---- what is due
-- it counts in full up to d, and not at all after
pub due_in_lem : (l d v : ℕ) → l ≤ d → due l d v ≡ v
due_in_lem zero d v h = refl
due_in_lem (suc l) zero v h = omega arith
due_in_lem (suc l) (suc d) v h = due_in_lem l d v (omega arith)

pub due_out : (l d v : ℕ) → d < l → due l d v ≡ 0
due_out zero d v h = omega arith
due_out (suc l) zero v h = refl
due_out (suc l) (suc d) v h = due_out l d v (omega arith)

pub due_le : (l d v : ℕ) → due l d v ≤ v
due_le zero d v = le_refl v
due_le (suc l) zero v = zero-le
due_le (suc l) (suc d) v = due_le l d v

pub due_zero : (l d v : ℕ) → v ≡ 0 → due l d v ≡ 0
due_zero l d v h = omega (arith, due_le l d v)

pub due_mono : (l d : ℕ) {v w : ℕ} → v ≤ w → due l d v ≤ due l d w
due_mono zero d h = h
due_mono (suc l) zero h = zero-le
due_mono (suc l) (suc d) h = due_mono l d h

pub due_add : (l d v w : ℕ) → due l d v + due l d w ≡ due l d (v + w)
due_add zero d v w = refl
due_add (suc l) zero v w = refl
due_add (suc l) (suc d) v w = due_add l d v w

-- ---- two functions
pub span_le : (c e : ℕ → ℕ) (s d : ℕ) → ((t : ℕ) → c t ≤ e t) → span c s d ≤ span e s d
span_le c e zero zero h = zero-le
span_le c e zero (suc d) h = omega (arith, h 0, span_le (λ u. c (suc u)) (λ u. e (suc u)) 0 d (λ t. h (suc t)))
span_le c e (suc s) zero h = zero-le
span_le c e (suc s) (suc d) h = span_le (λ u. c (suc u)) (λ u. e (suc u)) s d (λ t. h (suc t))

-- functions that agree from s up to d
pub span_agree : (c e : ℕ → ℕ) (s d : ℕ) → ((t : ℕ) → s ≤ t → t < d → c t ≡ e t) → span c s d ≡ span e s d
span_agree c e zero zero h = refl
span_agree c e zero (suc d) h =
    omega (arith, h 0 zero-le (omega arith), span_agree (λ u. c (suc u)) (λ u. e (suc u)) 0 d (λ t p q. h (suc t) zero-le (omega arith)))
span_agree c e (suc s) zero h = refl
span_agree c e (suc s) (suc d) h = span_agree (λ u. c (suc u)) (λ u. e (suc u)) s d (λ t p q. h (suc t) (omega arith) (omega arith))

-- functions that agree everywhere
pub span_ext : (c e : ℕ → ℕ) (s d : ℕ) → ((t : ℕ) → c t ≡ e t) → span c s d ≡ span e s d
span_ext c e s d h = span_agree c e s d (λ t p q. h t)

-- ---- two windows
-- a window cut in two
pub span_join : (c : ℕ → ℕ) (s m d : ℕ) → s ≤ m → m ≤ d → span c s m + span c m d ≡ span c s d
span_join c zero zero d h k = omega arith
span_join c zero (suc m) zero h k = omega arith
span_join c zero (suc m) (suc d) h k = omega (arith, span_join (λ u. c (suc u)) 0 m d zero-le (omega arith))
span_join c (suc s) zero d h k = omega arith
span_join c (suc s) (suc m) zero h k = omega arith
span_join c (suc s) (suc m) (suc d) h k = span_join (λ u. c (suc u)) s m d (omega arith) (omega arith)

-- a window that ends before it starts
pub span_none : (c : ℕ → ℕ) (s d : ℕ) → d ≤ s → span c s d ≡ 0
span_none c zero zero h = refl
span_none c zero (suc d) h = omega arith
span_none c (suc s) zero h = refl
span_none c (suc s) (suc d) h = span_none (λ u. c (suc u)) s d (omega arith)

-- from a later start there is no more
pub span_anti : (c : ℕ → ℕ) (s m d : ℕ) → s ≤ m → span c m d ≤ span c s d
span_anti c s m d h =
    elim (dec_le m d) [ yes k ↦ omega (arith, span_join c s m d h k) | no k ↦ omega (arith, span_none c m d (omega arith)) ]

-- ---- special functions
-- at one to a unit of time a window has its length
pub span_ones : (s d : ℕ) → span (λ u. 1) s d ≡ d - s
span_ones zero zero = refl
span_ones zero (suc d) = omega (arith, span_ones 0 d)
span_ones (suc s) zero = omega arith
span_ones (suc s) (suc d) = omega (arith, span_ones s d)

-- a function that is 0 from the start on
pub span_zero : (f : ℕ → ℕ) (a b : ℕ) → ((k : ℕ) → a ≤ k → f k ≡ 0) → span f a b ≡ 0
span_zero f zero zero h = refl
span_zero f zero (suc b) h = omega (arith, h 0 zero-le, span_zero (λ u. f (suc u)) 0 b (λ k q. h (suc k) zero-le))
span_zero f (suc a) zero h = refl
span_zero f (suc a) (suc b) h = span_zero (λ u. f (suc u)) a b (λ k q. h (suc k) (omega arith))

-- a window of one time
pub span_one : (c : ℕ → ℕ) (n : ℕ) → span c n (suc n) ≡ c n
span_one c zero = omega arith
span_one c (suc n) = span_one (λ u. c (suc u)) n

-- ---- functions that differ at one time n
-- the window does not hold n
pub span_same : (f g : ℕ → ℕ) (n a b : ℕ) → ((k : ℕ) → k ≢ n → g k ≡ f k) → (n < a) ⊎ (b ≤ n) → span g a b ≡ span f a b
span_same f g n a b h q =
    span_agree g f a b (λ k s e. h k (λ z. ⊎_elim {C = ⊥} (λ w. omega arith) (λ w. omega arith) q))

-- the window holds n, where g is more by v
pub span_bump : (f g : ℕ → ℕ) (n v a b : ℕ) → ((k : ℕ) → k ≢ n → g k ≡ f k) → g n ≡ f n + v → a ≤ n → n < b
    → span g a b ≡ span f a b + v
span_bump f g n v a b h e p q =
    omega (
      arith,
      span_join f a n b p (omega arith),
      span_join f n (suc n) b (omega arith) q,
      span_join g a n b p (omega arith),
      span_join g n (suc n) b (omega arith) q,
      span_same f g n a n h (inr (le_refl n)),
      span_same f g n (suc n) b h (inl (le_refl (suc n))),
      span_one f n,
      span_one g n,
    )

-- ---- sums of spans
-- to sum over the list and then over time, or the other way round
pub span_sum : {A : Type 0} (y : A → ℕ → ℕ) (xs : List A) (s d : ℕ)
    → sum_of (λ x. span (y x) s d) xs ≡ span (λ t. sum_of (λ x. y x t) xs) s d
span_sum y xs zero zero = sum_zero (λ x. 0) (all_of xs (λ x. refl))
span_sum y xs zero (suc d) =
    sum_add (λ x. y x 0) (λ x. span (λ t. y x (suc t)) 0 d) xs
    ∙ ap (λ v. sum_of (λ x. y x 0) xs + v) (span_sum (λ x t. y x (suc t)) xs 0 d)
span_sum y xs (suc s) zero = sum_zero (λ x. 0) (all_of xs (λ x. refl))
span_sum y xs (suc s) (suc d) = span_sum (λ x t. y x (suc t)) xs s d

-- at least u in each of m parts of length p: at least m u in the whole
pub span_parts : (m p u : ℕ) (h : ℕ → ℕ) → ((j : ℕ) → j < m → u ≤ span h (j * p) (suc j * p)) → m * u ≤ span h 0 (m * p)
span_parts zero p u h q = omega arith
span_parts (suc m) p u h q =
    omega (
      arith,
      span_parts m p u h (λ j l. q j (omega arith)),
      q m (omega arith),
      span_join h 0 (m * p) (suc m * p) zero-le (omega arith),
    )
