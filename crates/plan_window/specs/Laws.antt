-- Laws of the window that its code cites: the two loops over the starts of a plan's first n records turn by turn, the answer by the tests
-- that the code makes, and the ends of the part. Assumes nothing.
use Rattle.std.specs.Prelude.{◌≡◌, ◌≢◌, Bool, not, ◌&&◌, ℕ, suc, ◌+◌, ◌*◌, ◌-◌, ◌≤◌, ◌<◌, ltb, take, drop}
use Rattle.std.proofs.Math.Path.{refl, ap}
use Rattle.std.proofs.Common.{sym, ◌∙◌, ⊎_elim, drop_of_length-le, length-drop}
use Rattle.std.proofs.Math.Bool.{true, false, cond}
use mathlib.Core.List.{List, [], ◌∷◌}
use native.Mathlib.Omega.{arith}
use Rattle.std.proofs.Math.ListN.{length}
use borrow.Author.Tests.{lt-ltb, le-ltb, ltb-true, ltb-false, ne_eqb}
use Rattle.base_lists.specs.Tests.{either}
use Rattle.base_lists.specs.Loops.{left_next}
use Rattle.spec_model.specs.Requests.{check, refusal}
use Rattle.spec_rules.specs.Records.{record_words}
use Rattle.spec_rules.specs.Reading.{starts_of, rises, before, window_answer, window_part}
use Rattle.plan_record.specs.Starts.{start_at, starts_length, start_at_lem}

-- ---- the loops over the starts: i are passed, and what is left gives what the whole gives. s is the start that a turn reads.
module _ (n : ℕ) (ws : List ℕ) where
  abbrev starts : List ℕ
  starts = starts_of n ws

  next_start : {s : ℕ} (i : ℕ) → i < n → s ≡ start_at ws i → drop i starts ≡ s ∷ drop (i + 1) starts
  next_start i h e =
      left_next starts i 0 (rw starts_length h) ∙ ap (λ a. a ∷ drop (i + 1) starts) (start_at_lem n ws i h ∙ sym e)

  none_left : (i : ℕ) → n ≤ i → drop i starts ≡ []
  none_left i h = drop_of_length-le starts {i = i} (rw starts_length h)

  -- the first that is at least x is looked for
  module _ (i x : ℕ) where
    abbrev pub Passed : Type 0
    Passed = i + before x (drop i starts) ≡ before x starts

    before_next : {s : ℕ} {b : Bool} → Passed → i < n → s ≡ start_at ws i → ltb s x ≡ b
        → i + cond b (suc (before x (drop (i + 1) starts))) 0 ≡ before x starts
    unfolding before
    before_next w h e q = rw (sym q) (ap (λ l. i + before x l) (sym (next_start i h e)) ∙ w)

    pub before_found : {s : ℕ} → Passed → i < n → s ≡ start_at ws i → x ≤ s → i ≡ before x starts
    before_found w h e l = omega (arith, before_next w h e (le-ltb _ _ l))

    pub before_passed : {s : ℕ} → Passed → i < n → s ≡ start_at ws i → s < x
        → (i + 1) + before x (drop (i + 1) starts) ≡ before x starts
    before_passed w h e l = omega (arith, before_next w h e (lt-ltb _ _ l))

    pub before_ended : Passed → n ≤ i → i ≡ before x starts
    unfolding before
    before_ended w h = omega (arith, ap (before x) (none_left i h), w)

  -- each is compared with the next, t
  module _ (i : ℕ) where
    abbrev pub Rising : Type 0
    Rising = rises (drop i starts) ≡ rises starts

    rises_next : {s t : ℕ} {b : Bool} → Rising → i + 1 < n → s ≡ start_at ws i → t ≡ start_at ws (i + 1) → ltb s t ≡ b
        → (b && rises (drop (i + 1) starts)) ≡ rises starts
    unfolding rises
    rises_next {s} w h d e q =
        let k : i < n = omega arith in
        let r = next_start (i + 1) h e in
        rw (sym q, r) (ap rises (sym (next_start i k d ∙ ap (λ l. s ∷ l) r)) ∙ w)

    pub rises_broken : {s t : ℕ} → Rising → i + 1 < n → s ≡ start_at ws i → t ≡ start_at ws (i + 1) → t ≤ s → false ≡ rises starts
    rises_broken w h d e l = rises_next w h d e (le-ltb _ _ l)

    pub rises_on : {s t : ℕ} → Rising → i + 1 < n → s ≡ start_at ws i → t ≡ start_at ws (i + 1) → s < t
        → rises (drop (i + 1) starts) ≡ rises starts
    rises_on w h d e l = rises_next w h d e (lt-ltb _ _ l)

    pub rises_ended : Rising → n ≤ i + 1 → true ≡ rises starts
    unfolding rises
    rises_ended w h = short (drop i starts) (simp (length-drop, starts_length) (omega arith)) ∙ w
      where
        short : (l : List ℕ) → length l ≤ 1 → true ≡ rises l
        short [] k = refl
        short (a ∷ []) k = refl
        short (a ∷ b ∷ r) k = absurd (omega arith)

-- ---- the two ends of the window
-- a later slot has no fewer records before it
before_grows : {x y : ℕ} (ss : List ℕ) → x ≤ y → before x ss ≤ before y ss
unfolding before
before_grows [] h = omega arith
before_grows {x} {y} (a ∷ ss) h =
    ⊎_elim
    (λ e. rw (e, lt-ltb a y (omega (arith, ltb-true a x e))) (omega (arith, before_grows ss h)))
    (λ e. rw e (omega arith))
    (either (ltb a x))

-- those before the later slot are those before the earlier one, and those found behind them
before_on : {x y : ℕ} (ss : List ℕ) → x ≤ y → before x ss + before y (drop (before x ss) ss) ≡ before y ss
unfolding before
before_on [] h = refl
before_on {x} {y} (a ∷ ss) h =
    ⊎_elim
    (λ e. rw (e, lt-ltb a y (omega (arith, ltb-true a x e))) (omega (arith, before_on ss h)))
    (λ e. rw e (omega arith))
    (either (ltb a x))

pub passed_on : (n : ℕ) (ws : List ℕ) {i x y : ℕ} → i ≡ before x (starts_of n ws) → x ≤ y → Passed n ws i y
passed_on n ws e h = rw e (before_on (starts_of n ws) h)

before_most : (x : ℕ) (ss : List ℕ) → before x ss ≤ length ss
unfolding before
before_most x [] = omega arith
before_most x (a ∷ ss) = go (ltb a x) (before_most x ss)
  where
    go : (b : Bool) → before x ss ≤ length ss → cond b (suc (before x ss)) 0 ≤ suc (length ss)
    go true k = omega arith
    go false k = omega arith

before_within : (x n : ℕ) (ws : List ℕ) → before x (starts_of n ws) ≤ n
before_within x n ws = rw starts_length at (before_most x (starts_of n ws))

pub passed_within : (n : ℕ) (ws : List ℕ) (i x : ℕ) → Passed n ws i x → i ≤ n
passed_within n ws i x w = omega (arith, w, before_within x n ws)

-- ---- the answer, from the tests as the code makes them
module _ (ws : List ℕ) (n from until : ℕ) where
  pub answers_40 : length ws < record_words * n → 40 ≡ window_answer ws n from until
  unfolding window_answer refusal
  answers_40 h = rw (lt-ltb _ _ h)

  pub answers_41 : record_words * n ≤ length ws → until < from → 41 ≡ window_answer ws n from until
  unfolding window_answer refusal
  answers_41 h k = rw (le-ltb _ _ h, lt-ltb _ _ k)

  pub answers_42 : record_words * n ≤ length ws → from ≤ until → {b : Bool} → rises (starts_of n ws) ≡ b
      → cond b 0 42 ≡ window_answer ws n from until
  unfolding window_answer refusal
  answers_42 h k {b} e = rw (le-ltb _ _ h, le-ltb _ _ k, e) (last b)
    where
      last : (c : Bool) → cond {A = ℕ} c 0 42 ≡ cond (not c) 42 0
      last true = refl
      last false = refl

-- ---- an accepted window
passes : (a b c : Bool) → refusal (check 40 a ∷ check 41 b ∷ check 42 c ∷ []) ≡ 0 → (a ≡ false) × (b ≡ false)
unfolding refusal
passes true b c e = absurd (omega arith)
passes false true c e = absurd (omega arith)
passes false false c e = (refl, refl)

-- a and b are its ends
module _ (ws : List ℕ) (n from until : ℕ) (e : window_answer ws n from until ≡ 0) where
  pub window_tests : (record_words * n ≤ length ws) × (from ≤ until)
  unfolding window_answer
  window_tests =
      let p = passes (ltb (length ws) (record_words * n)) (ltb until from) (not (rises (starts_of n ws))) e in
      (ltb-false _ _ p.0, ltb-false _ _ p.1)

  pub window_ends : {a b : ℕ} → a ≡ before from (starts_of n ws) → b ≡ before until (starts_of n ws)
      → (a ≤ b) × (record_words * b ≤ length ws)
  window_ends p q = (
    omega (arith, before_grows (starts_of n ws) window_tests.1),
    omega (arith, window_tests.0, before_within until n ws),
  )

  pub window_part_lem : {a b : ℕ} → a ≡ before from (starts_of n ws) → b ≡ before until (starts_of n ws)
      → take (record_words * b - record_words * a) (drop (record_words * a) ws) ≡ window_part ws n from until
  unfolding window_part
  window_part_lem {a} {b} p q =
      let k : record_words * b - record_words * a ≡ record_words * (b - a) = omega arith in
      rw (k, e, p, q)

-- ---- a refused one
pub window_none : (ws : List ℕ) (n from until : ℕ) → window_answer ws n from until ≢ 0 → [] ≡ window_part ws n from until
unfolding window_part
window_none ws n from until h = rw (ne_eqb _ _ h)
