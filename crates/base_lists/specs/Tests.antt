-- Tests: what a Boolean value says. Assumes nothing.
use Rattle.std.specs.Prelude.{◌≡◌, refl, ◌⊎◌, Bool, true, false, cond, ◌&&◌, ◌||◌, List, [], ◌∷◌, ℕ, ◌+◌, ◌≤◌, leb, eqb}
use Rattle.std.proofs.Common.{sym, ap, ap₂, ◌∙◌, inl, inr, true≢false, zero-le, le_refl, arith, leb-true, le-leb, eqb-true, eq-eqb, ne_eqb}
use Rattle.std.proofs.Math.Decide.{ℕ_discrete}
use Rattle.spec_lists.specs.Lists.{within, one_if, same_list}

pub either : (b : Bool) → (b ≡ true) ⊎ (b ≡ false)
either true = inl refl
either false = inr refl

pub clash : (b : Bool) → b ≡ true → b ≡ false → ⊥
clash b x y = true≢false (sym x ∙ y)

-- two tests that pass together are the same
pub same_test : (a b : Bool) → (a ≡ true → b ≡ true) → (b ≡ true → a ≡ true) → a ≡ b
same_test true b h k = sym (h refl)
same_test false true h k = k refl
same_test false false h k = refl

pub and_both : (a b : Bool) → (a && b) ≡ true → (a ≡ true) × (b ≡ true)
and_both true b h = (refl, h)
and_both false b h = absurd (clash false h refl)

pub both_and : (a b : Bool) → a ≡ true → b ≡ true → (a && b) ≡ true
both_and true b h k = k
both_and false b h k = absurd (clash false h refl)

pub and_false : (a : Bool) → (a && false) ≡ false
and_false true = refl
and_false false = refl

pub and_true : (a : Bool) → (a && true) ≡ a
and_true true = refl
and_true false = refl

pub or_true : (a b : Bool) → (a || b) ≡ true → (a ≡ true) ⊎ (b ≡ true)
or_true true b h = inl refl
or_true false b h = inr h

pub or_right : (a b : Bool) → b ≡ true → (a || b) ≡ true
or_right true b h = refl
or_right false b h = h

pub or_false : (a b : Bool) → (a || b) ≡ false → (a ≡ false) × (b ≡ false)
or_false true b h = absurd (clash true refl h)
or_false false b h = (refl, h)

-- ---- cond
pub cond_zero : (b : Bool) → cond {A = ℕ} b 0 0 ≡ 0
cond_zero true = refl
cond_zero false = refl

pub cond_add : (b : Bool) (v w : ℕ) → cond b (v + w) 0 ≡ cond b v 0 + cond b w 0
cond_add true v w = refl
cond_add false v w = omega arith

pub cond_le : (b : Bool) (v : ℕ) → cond b v 0 ≤ v
cond_le true v = le_refl v
cond_le false v = zero-le

pub one_if_true : {b : Bool} → b ≡ true → one_if b ≡ 1
one_if_true h = ap one_if h

pub one_if_false : {b : Bool} → b ≡ false → one_if b ≡ 0
one_if_false h = ap one_if h

pub one_if_most : (b : Bool) → one_if b ≤ 1
one_if_most b = cond_le b 1

-- ---- numbers
pub within_both : (a b x : ℕ) → within a b x ≡ true → (a ≤ x) × (x ≤ b)
within_both a b x h =
    let p : (leb a x ≡ true) × (leb x b ≡ true) = and_both (leb a x) (leb x b) h in
    (leb-true a x p.0, leb-true x b p.1)

pub both_within : (a b x : ℕ) → a ≤ x → x ≤ b → within a b x ≡ true
both_within a b x h k = both_and (leb a x) (leb x b) (le-leb a x h) (le-leb x b k)

pub eqb_refl : (n : ℕ) → eqb n n ≡ true
eqb_refl n = eq-eqb n n refl

pub eqb_sym : (x y : ℕ) → eqb x y ≡ eqb y x
eqb_sym x y =
    elim (ℕ_discrete x y) [
      | yes e ↦ eq-eqb x y e ∙ sym (eq-eqb y x (sym e))
      | no n ↦ ne_eqb x y n ∙ sym (ne_eqb y x (λ e. n (sym e)))
    ]

-- ---- the test on two lists says whether they are equal
pub same_list_lem : (xs ys : List ℕ) → same_list xs ys ≡ true → xs ≡ ys
same_list_lem [] [] h = refl
same_list_lem [] (y ∷ ys) h = absurd (clash false h refl)
same_list_lem (x ∷ xs) [] h = absurd (clash false h refl)
same_list_lem (x ∷ xs) (y ∷ ys) h =
    let b = and_both (eqb x y) (same_list xs ys) h in ap₂ ◌∷◌ (eqb-true x y b.0) (same_list_lem xs ys b.1)

pub list_same : (xs : List ℕ) → same_list xs xs ≡ true
list_same [] = refl
list_same (x ∷ xs) = both_and (eqb x x) (same_list xs xs) (eqb_refl x) (list_same xs)

pub tells_same : (r : Bool) (xs ys : List ℕ) → (r ≡ true → xs ≡ ys) × (xs ≡ ys → r ≡ true) → r ≡ same_list xs ys
tells_same r xs ys h =
    same_test r (same_list xs ys) (λ t. rw (h.0 t) (list_same ys)) (λ t. h.1 (same_list_lem xs ys t))
