-- Names of requests: the test `same` decides equality, `lower` is a total order, and a name in range has a number that ranks it. No other
-- file opens these definitions. Assumes nothing.
use Rattle.std.specs.Prelude.{◌≡◌, refl, ◌⊎◌, ◌≢◌, true, false, not, ◌≤◌, ◌<◌, eqb}
use Rattle.std.proofs.Math.Path.{ap}
use Rattle.std.proofs.Common.{inl, inr, zero-le, arith}
use Rattle.std.proofs.Math.Decide.{ℕ_discrete, dec_le}
use borrow.Author.Tests.{eqb-true, eqb-false, eq-eqb, ne_eqb, ltb-true, le-ltb, lt-ltb}
use Rattle.base_lists.specs.Tests.{eqb_refl, eqb_sym, within_both}
use Rattle.spec_model.specs.Names.{same, lower, name_in_range, nobody, is_nobody, name_rank, name_room}
use Rattle.spec_model.specs.declared.Name.{Name}

-- ---- same
pub same_refl : (n : Name) → same n n ≡ true
unfolding same
same_refl n = eqb_refl n.stream

pub same_sym : (a b : Name) → same a b ≡ same b a
unfolding same
same_sym a b = eqb_sym a.stream b.stream

pub same_true : (a b : Name) → same a b ≡ true → a ≡ b
unfolding same
same_true a b h = ap (λ s. record { stream = s }) (eqb-true a.stream b.stream h)

pub same_eq : (a b : Name) → a ≡ b → same a b ≡ true
unfolding same
same_eq a b h = eq-eqb a.stream b.stream (ap (λ (n : Name). n.stream) h)

pub same_false : (a b : Name) → same a b ≡ false → a ≢ b
unfolding same
same_false a b h e = eqb-false a.stream b.stream h (ap (λ (n : Name). n.stream) e)

pub same_ne : (a b : Name) → a ≢ b → same a b ≡ false
unfolding same
same_ne a b h = ne_eqb a.stream b.stream (λ e. h (ap (λ s. record { stream = s }) e))

-- what `==` of the code says
pub same_streams : (a b : Name) → eqb a.stream b.stream ≡ same a b
unfolding same
same_streams a b = refl

-- ---- lower
pub lower_not_self : (n : Name) → lower n n ≢ true
unfolding lower
lower_not_self n h = omega (arith, ltb-true n.stream n.stream h)

pub lower_trans : (a b c : Name) → lower a b ≡ true → lower b c ≡ true → lower a c ≡ true
unfolding lower
lower_trans a b c h k =
    lt-ltb a.stream c.stream (omega (arith, ltb-true a.stream b.stream h, ltb-true b.stream c.stream k))

pub lower_or : (a b : Name) → a ≢ b → (lower a b ≡ true) ⊎ (lower b a ≡ true)
unfolding lower
lower_or a b n =
    elim (dec_le a.stream b.stream) [
      | yes h ↦ elim (ℕ_discrete a.stream b.stream) [
        | yes e ↦ absurd (n (ap (λ s. record { stream = s }) e))
        | no e ↦ inl (lt-ltb a.stream b.stream (omega arith))
      ]
      | no h ↦ inr (lt-ltb b.stream a.stream (omega arith))
    ]

-- none comes before the name of a free place
pub lower_nobody : (n : Name) → lower n nobody ≡ false
unfolding lower
lower_nobody n = le-ltb n.stream 0 zero-le

-- ---- names in range
-- which a free place has not
pub in_range_some : (n : Name) → name_in_range n ≡ true → is_nobody n ≡ false
unfolding name_in_range
in_range_some n h = ne_eqb n.stream 0 (λ z. omega (arith, within_both 1 65535 n.stream h))

pub in_range_not : name_in_range nobody ≡ false
unfolding name_in_range
in_range_not = refl

-- their numbers
pub rank_room : (n : Name) → name_in_range n ≡ true → name_rank n < name_room
unfolding name_in_range name_rank
rank_room n h = omega (arith, within_both 1 65535 n.stream h)

pub rank_some : (n : Name) → name_in_range n ≡ true → 1 ≤ name_rank n
unfolding name_in_range name_rank
rank_some n h = omega (arith, within_both 1 65535 n.stream h)

module _ (a b : Name) (p : name_in_range a ≡ true) (q : name_in_range b ≡ true) where
  pub lower_rank : lower a b ≡ true → name_rank a < name_rank b
  unfolding lower name_rank
  lower_rank h = ltb-true a.stream b.stream h

  pub rank_lower : name_rank a < name_rank b → lower a b ≡ true
  unfolding lower name_rank
  rank_lower h = lt-ltb a.stream b.stream h

  -- one number, one name
  pub rank_same : name_rank a ≡ name_rank b → a ≡ b
  unfolding name_rank
  rank_same h = ap (λ s. record { stream = s }) h

pub rank_nobody : name_rank nobody ≡ 0
unfolding name_rank
rank_nobody = refl
