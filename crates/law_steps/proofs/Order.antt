-- The order of step B: fewest intervals left, then kind 2 before 3, then the lower name. It tells entries of different names
-- apart, so that sorting by it leaves each entry before all that follow it, and the deadlines never fall. Assumes nothing.
use Rattle.std.specs.Prelude.{◌≡◌, ◌⊎◌, ◌≢◌, Bool, true, false, ◌&&◌, ◌||◌, List, [], ◌∷◌, ◌≤◌, ltb, eqb}
use Rattle.std.proofs.Common.{ap, ap₂, inl, inr, ⊎_elim, arith, eqb-true, eq-eqb, ltb-true, lt-ltb}
use Rattle.std.proofs.Math.Decide.{ℕ_discrete, dec_le}
use Rattle.spec_lists.specs.Lists.{keep}
use Rattle.base_lists.specs.Tests.{either, clash, and_both, both_and, or_true, or_right}
use Rattle.base_lists.specs.All.{all_map}
use Rattle.base_lists.specs.Sorted.{Sorted, Apart, alone, apart, sort_sorted}
use Rattle.spec_model.specs.Entries.{is_piece}
use Rattle.spec_model.specs.declared.Entry.{Entry}
use Rattle.spec_model.specs.Names.{same, lower}
use Rattle.spec_rules.specs.Share.{sooner, order}
use Rattle.spec_rules.specs.WellFormed.{Once}
use Rattle.law_model.specs.Names.{same_false, lower_not_self, lower_trans, lower_or}
use Rattle.law_steps.proofs.Grants.{once_tail, once_apart, once_keep}
use Rattle.law_steps.specs.Order.{Before, by_left, by_kind, by_name}

-- the tests that `sooner` is made of
module _ (e f : Entry) where
  abbrev less_left : Bool
  less_left = ltb e.left.0 f.left.0

  abbrev less_kind : Bool
  less_kind = ltb e.kind f.kind

  abbrev tied : Bool
  tied = eqb e.kind f.kind && lower e.name f.name

  pub before_sooner : Before e f → sooner e f ≡ true
  before_sooner (by_left h) = ap (λ b. b || (eqb e.left.0 f.left.0 && (less_kind || tied))) (lt-ltb _ _ h)
  before_sooner (by_kind l h) =
      or_right less_left (eqb e.left.0 f.left.0 && (less_kind || tied))
      (ap₂ (λ a b. a && (b || tied)) (eq-eqb _ _ l) (lt-ltb _ _ h))
  before_sooner (by_name l k h) =
      or_right less_left (eqb e.left.0 f.left.0 && (less_kind || tied))
      (both_and (eqb e.left.0 f.left.0) (less_kind || tied) (eq-eqb _ _ l)
      (or_right less_kind tied (both_and (eqb e.kind f.kind) (lower e.name f.name) (eq-eqb _ _ k) h)))

  pub sooner_before : sooner e f ≡ true → Before e f
  sooner_before h = ⊎_elim (λ q. by_left (ltb-true _ _ q)) even (or_true less_left (eqb e.left.0 f.left.0 && (less_kind || tied)) h)
    where
      even : (eqb e.left.0 f.left.0 && (less_kind || tied)) ≡ true → Before e f
      even q =
          let p : (eqb e.left.0 f.left.0 ≡ true) × ((less_kind || tied) ≡ true) = and_both _ _ q in
          let l : e.left.0 ≡ f.left.0 = eqb-true _ _ p.0 in
          ⊎_elim (λ x. by_kind l (ltb-true _ _ x))
          (λ x. (let y : (eqb e.kind f.kind ≡ true) × (lower e.name f.name ≡ true) = and_both _ _ x in
          by_name l (eqb-true _ _ y.0) y.1))
          (or_true less_kind tied p.1)

before_trans : (e f g : Entry) → Before e f → Before f g → Before e g
before_trans e f g (by_left x) (by_left y) = by_left (omega arith)
before_trans e f g (by_left x) (by_kind l y) = by_left (omega arith)
before_trans e f g (by_left x) (by_name l k y) = by_left (omega arith)
before_trans e f g (by_kind l x) (by_left y) = by_left (omega arith)
before_trans e f g (by_kind l x) (by_kind m y) = by_kind (omega arith) (omega arith)
before_trans e f g (by_kind l x) (by_name m k y) = by_kind (omega arith) (omega arith)
before_trans e f g (by_name l k x) (by_left y) = by_left (omega arith)
before_trans e f g (by_name l k x) (by_kind m y) = by_kind (omega arith) (omega arith)
before_trans e f g (by_name l k x) (by_name m j y) = by_name (omega arith) (omega arith) (lower_trans e.name f.name g.name x y)

before_not_self : (e : Entry) → Before e e → ⊥
before_not_self e (by_left x) = omega arith
before_not_self e (by_kind l x) = omega arith
before_not_self e (by_name l k x) = lower_not_self e.name x

before_or : (e f : Entry) → e.name ≢ f.name → Before e f ⊎ Before f e
before_or e f n =
    elim (ℕ_discrete e.left.0 f.left.0) [
      | no a ↦ elim (dec_le e.left.0 f.left.0) [ yes b ↦ inl (by_left (omega arith)) | no b ↦ inr (by_left (omega arith)) ]
      | yes a ↦ elim (ℕ_discrete e.kind f.kind) [
        | no b ↦ elim (dec_le e.kind f.kind) [ yes c ↦ inl (by_kind a (omega arith)) | no c ↦ inr (by_kind (omega arith) (omega arith)) ]
        | yes b ↦ ⊎_elim (λ c. inl (by_name a b c)) (λ c. inr (by_name (omega arith) (omega arith) c)) (lower_or e.name f.name n)
      ]
    ]

-- ---- the order's laws
pub sooner_left : (e f : Entry) → sooner e f ≡ true → e.left.0 ≤ f.left.0
sooner_left e f h = go (sooner_before e f h)
  where
    go : Before e f → e.left.0 ≤ f.left.0
    go (by_left x) = omega arith
    go (by_kind l x) = omega arith
    go (by_name l k x) = omega arith

pub sooner_trans : (e f g : Entry) → sooner e f ≡ true → sooner f g ≡ true → sooner e g ≡ true
sooner_trans e f g h k = before_sooner e g (before_trans e f g (sooner_before e f h) (sooner_before f g k))

pub sooner_not_self : (e : Entry) → sooner e e ≡ false
sooner_not_self e = ⊎_elim (λ q. absurd (before_not_self e (sooner_before e e q))) (λ q. q) (either (sooner e e))

pub sooner_not_back : (e f : Entry) → sooner e f ≡ true → sooner f e ≡ false
sooner_not_back e f h =
    ⊎_elim (λ q. absurd (before_not_self e (before_trans e f e (sooner_before e f h) (sooner_before f e q)))) (λ q. q) (either (sooner f e))

pub sooner_or : (e f : Entry) → same e.name f.name ≡ false → sooner e f ≡ false → sooner f e ≡ true
sooner_or e f n h =
    ⊎_elim (λ q. absurd (clash (sooner e f) (before_sooner e f q) h)) (before_sooner f e) (before_or e f (same_false e.name f.name n))

-- ---- the sorted list
once_sooner : (es : List Entry) → Once es → Apart sooner es
once_sooner [] w = alone
once_sooner (e ∷ es) w = apart (all_map (λ f n. sooner_or e f n) (once_apart e es w)) (once_sooner es (once_tail e es w))

pub order_sorted : (es : List Entry) → Once es → Sorted sooner (order es)
unfolding order
order_sorted es w = sort_sorted sooner sooner_trans (once_sooner (keep is_piece es) (once_keep is_piece es w))
