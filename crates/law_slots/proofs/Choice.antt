-- The job that a slot goes to: released, unfinished and, of all such, due first; and what the slot changes.
-- Assumes nothing.
use Rattle.std.specs.Prelude.{◌≡◌, refl, ◌≢◌, Bool, true, false, cond, ◌&&◌, List, [], ◌∷◌, map, ℕ, suc, ◌*◌, ◌-◌, ◌≤◌, leb, ltb}
use Rattle.std.proofs.Common.{sym, ap, ap₂, ◌∙◌, ⊎_elim, zero-le, le_refl, arith, leb-true, leb-false, ltb-true, le-leb}
use Rattle.std.proofs.Math.Option
use Rattle.std.proofs.Math.Option.{Option, none, some}
use Rattle.std.proofs.Math.Decide.{dec_le}
use Rattle.std.proofs.lemmas.Bool.{lt-leb}
use Rattle.spec_lists.specs.Lists.{one_if}
use Rattle.spec_lists.specs.All.{All, stop, and}
use Rattle.base_lists.specs.Tests.{either, clash, and_both, one_if_true, one_if_false, one_if_most, eqb_refl}
use Rattle.base_lists.specs.All.{all_map}
use Rattle.base_lists.specs.Sums.{sum_same, sum_map}
use Rattle.base_lists.specs.Picked.{Picked, here, there, picked_all, picked_alone}
use Rattle.spec_rules.specs.Slots.{Job, JobName, name_of, is_ready, due_first, choose, Slot, slot_of, same_name, has_slot, one_less, charge}
use Rattle.law_model.specs.Names.{same_refl}
use Rattle.law_slots.specs.Choice.{Keys, Choice, idle, takes, got, wins}

-- ---- names
pub same_self : (k : JobName) → same_name k k ≡ true
same_self k = ap₂ ◌&&◌ (same_refl k.name) (eqb_refl k.number)

-- no other job has the name of one
pub named_apart : {k : Job} {js ks : List Job} → Keys js → Picked k js ks → All (λ j. same_name (name_of j) (name_of k) ≡ false) ks
named_apart {k} w pick = picked_alone (λ j. same_name (name_of j) (name_of k)) pick (w (name_of k)) (same_self (name_of k))

-- what holds of a job holds of all that have its name
pub named_once : {P : Job → Type 0} {k : Job} {js ks : List Job} → Keys js → Picked k js ks → P k
    → All (λ j. same_name (name_of j) (name_of k) ≡ true → P j) js
named_once {k = k} w pick p =
    picked_all pick (λ h. p) (all_map (λ j e h. absurd (clash (same_name (name_of j) (name_of k)) h e)) (named_apart w pick))

-- By the list: the first job is not ready, or is due no later than the choice among the others, or is due later.
pub chooses : (s : ℕ) (js : List Job) → Choice s js (choose s js)
unfolding choose
chooses s [] = idle stop
chooses s (j ∷ js) = go (is_ready s j) refl (choose s js) (chooses s js)
  where
    first : is_ready s j ≡ true → All (λ x. is_ready s x ≡ true → j.due ≤ x.due) js → Choice s (j ∷ js) (some j)
    first q a = takes here q (and (λ z. le_refl j.due) a)

    two : (k : Job) → Choice s js (some k) → is_ready s j ≡ true → (b : Bool) → leb j.due k.due ≡ b
        → Choice s (j ∷ js) (cond b (some j) (some k))
    two k (takes pick r a) q true h = first q (all_map (λ x w z. omega (arith, w z, leb-true j.due k.due h)) a)
    two k (takes pick r a) q false h = takes (there pick) r (and {x = j} (λ z. omega (arith, leb-false j.due k.due h)) a)

    go : (b : Bool) → is_ready s j ≡ b → (c : Option Job) → Choice s js c → Choice s (j ∷ js) (cond b (due_first j c) c)
    go true q none (idle a) = first q (all_map (λ x w z. absurd (clash (is_ready s x) z w)) a)
    go true q (some k) w = two k w q (leb j.due k.due) refl
    go false q none (idle a) = idle (and q a)
    go false q (some k) (takes pick r a) = takes (there pick) r (and (λ z. absurd (clash (is_ready s j) z q)) a)

-- a ready job is released and not finished
pub ready_both : (s : ℕ) (j : Job) → is_ready s j ≡ true → (j.release ≤ s) × (1 ≤ j.need)
ready_both s j h =
    let p : (leb j.release s ≡ true) × (ltb 0 j.need ≡ true) = and_both (leb j.release s) (ltb 0 j.need) h in
    (leb-true j.release s p.0, ltb-true 0 j.need p.1)

-- who has the slot is ready
pub ready_only : (s : ℕ) {js : List Job} → Keys js → All (λ j. has_slot (slot_of (choose s js)) j ≡ true → is_ready s j ≡ true) js
ready_only s {js} w = go (choose s js) (chooses s js)
  where
    go : (c : Option Job) → Choice s js c → All (λ j. has_slot (slot_of c) j ≡ true → is_ready s j ≡ true) js
    go none (idle a) = all_map (λ j e h. absurd (clash false h refl)) a
    go (some k) (takes pick r a) = named_once w pick r

pub wins_most : (p : JobName → Bool) (c : Slot) → wins p c ≤ 1
wins_most p none = zero-le
wins_most p (some k) = one_if_most (p k)

-- a job stays as it is in all that a lower need does not change
pub charge_keeps : {A : Type 0} (f : Job → A) (c : Slot) (j : Job) → f (one_less j) ≡ f j → f (charge c j) ≡ f j
charge_keeps f c j h = go (has_slot c j)
  where
    go : (b : Bool) → f (cond b (one_less j) j) ≡ f j
    go true = h
    go false = refl

pub charge_name : (c : Slot) (j : Job) → name_of (charge c j) ≡ name_of j
charge_name c j = charge_keeps name_of c j refl

pub charge_release : (c : Slot) (j : Job) → (charge c j).release ≡ j.release
charge_release c j = charge_keeps (λ i. i.release) c j refl

pub charge_due : (c : Slot) (j : Job) → (charge c j).due ≡ j.due
charge_due c j = charge_keeps (λ i. i.due) c j refl

pub charge_need : (c : Slot) (j : Job) → (charge c j).need ≡ j.need - got c j
charge_need c j = go (has_slot c j)
  where
    go : (b : Bool) → (cond b (one_less j) j).need ≡ j.need - one_if b
    go true = refl
    go false = omega arith

-- which slots are a job's does not change
pub charge_slot : (d c : Slot) (j : Job) → has_slot d (charge c j) ≡ has_slot d j
charge_slot none c j = refl
charge_slot (some k) c j = ap (λ n. same_name n k) (charge_name c j)

pub keys_charge : (c : Slot) (js : List Job) → Keys js → Keys (map (charge c) js)
keys_charge c js w k =
    omega (
      arith,
      w k,
      sum_map (λ j. one_if (same_name (name_of j) k)) (charge c) js,
      sum_same (λ j. one_if (same_name (name_of (charge c j)) k)) (λ j. one_if (same_name (name_of j) k)) js
          (λ j. ap one_if (charge_slot (some k) c j)),
    )

-- jobs changed, and a time moved, so that each is ready as before and due as before: the choice is the same
pub choose_again : (f : Job → Job) (s t : ℕ) {js : List Job} → ((j : Job) → (f j).due ≡ j.due)
    → All (λ j. is_ready t (f j) ≡ is_ready s j) js → choose t (map f js) ≡ Option.map f (choose s js)
unfolding choose
choose_again f s t d stop = refl
choose_again f s t d (and {x = j} {xs = js} h r) =
    ap₂ (λ b c. cond b (due_first (f j) c) c) h (choose_again f s t d r) ∙ go (is_ready s j) (choose s js)
  where
    two : (k : Job) (b : Bool) → cond b (some (f j)) (some (f k)) ≡ Option.map f (cond b (some j) (some k))
    two k true = refl
    two k false = refl

    go : (b : Bool) (c : Option Job) → cond b (due_first (f j) (Option.map f c)) (Option.map f c) ≡ Option.map f (cond b (due_first j c) c)
    go true none = refl
    go true (some k) = ap₂ (λ x y. cond (leb x y) (some (f j)) (some (f k))) (d j) (d k) ∙ two k (leb j.due k.due)
    go false c = refl

-- ---- the same choice in the next slot
-- two tests with one answer
same_leb : (a b c d : ℕ) → (a ≤ b → c ≤ d) → (c ≤ d → a ≤ b) → leb a b ≡ leb c d
same_leb a b c d f g =
    elim (dec_le a b) [
      | yes q ↦ le-leb a b q ∙ sym (le-leb c d (f q))
      | no q ↦ elim (dec_le c d) [ yes z ↦ absurd (q (g z)) | no z ↦ lt-leb a b (omega arith) ∙ sym (lt-leb c d (omega arith)) ]
    ]

-- a job is ready as before if it is not released next and, where it has the slot, has another to come
ready_on : (s : ℕ) (c : Slot) (j : Job) → (j.release ≢ suc s) × (has_slot c j ≡ true → 2 ≤ j.need)
    → is_ready (suc s) (charge c j) ≡ is_ready s j
ready_on s c j h =
    let n : j.release ≢ suc s = h.0 in
    let m : 2 * got c j ≤ j.need =
    ⊎_elim (λ z. omega (arith, h.1 z, one_if_true z)) (λ z. omega (arith, one_if_false z)) (either (has_slot c j)) in
    let r : (charge c j).release ≡ j.release = charge_release c j in
    let l : (charge c j).need ≡ j.need - got c j = charge_need c j in
    ap₂ ◌&&◌ (same_leb (charge c j).release (suc s) j.release s (λ q. omega arith) (λ q. omega arith))
    (same_leb 1 (charge c j).need 1 j.need (λ q. omega arith) (λ q. omega (arith, one_if_most (has_slot c j))))

-- so the next slot goes where the slot before it would have gone
pub slot_again : (s : ℕ) (c : Slot) {js : List Job} → All (λ j. (j.release ≢ suc s) × (has_slot c j ≡ true → 2 ≤ j.need)) js
    → slot_of (choose (suc s) (map (charge c) js)) ≡ slot_of (choose s js)
slot_again s c {js} h = ap slot_of (choose_again (charge c) s (suc s) (charge_due c) (all_map (ready_on s c) h)) ∙ named (choose s js)
  where
    named : (o : Option Job) → slot_of (Option.map (charge c) o) ≡ slot_of o
    named none = refl
    named (some k) = ap some (charge_name c k)
