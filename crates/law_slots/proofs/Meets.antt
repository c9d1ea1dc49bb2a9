-- Step D: where the jobs have room, each gets its need exactly, from its release on and before its deadline, and no slot elsewhere.
-- And every slot that is not idle is a job's, so that the slots of some jobs are the sum of what each of them has.
-- Assumes nothing.
use Rattle.std.specs.Prelude.{◌≡◌, refl, ◌⊎◌, Bool, true, false, cond, List, ◌∷◌, map, ℕ, zero, suc, ◌+◌, ◌-◌, ◌≤◌, ◌<◌, length, get_or}
use Rattle.std.proofs.Common.{sym, ap, ap₂, subst, ◌∙◌, inl, inr, ⊎_elim, zero-le, zero-add, arith}
use Rattle.std.proofs.Math.Option.{Option, none, some, none-ne-some, some-injective}
use Rattle.std.proofs.Math.Decide.{dec_le}
use Rattle.spec_lists.specs.Lists.{one_if, sum_of, span}
use Rattle.spec_lists.specs.All.{All}
use Rattle.base_lists.specs.Tests.{either, cond_zero, one_if_true, one_if_false}
use Rattle.base_lists.specs.All.{all_of, all_map, all_zip, all_of_map, all_unmap}
use Rattle.base_lists.specs.Sums.{sum_same, sum_zero, sum_map, each_in_sum}
use Rattle.base_lists.specs.Picked.{picked_one, picked_only}
use Rattle.base_edf.specs.Time.{due_in_lem, span_agree, span_ext, span_join, span_zero, span_sum}
use Rattle.base_edf.specs.Edf.{dem}
use Rattle.spec_rules.specs.Slots.{Job, JobName, name_of, is_ready, choose, Slot, slot_of, has_slot, charge, slots_from}
use Rattle.law_slots.specs.Choice.{Keys, Choice, idle, takes, got, wins}
use Rattle.law_slots.proofs.Choice.{chooses, same_self, named_apart, ready_both, ready_only, charge_name}
use Rattle.law_slots.proofs.Choice.{charge_release, charge_due, charge_need, charge_slot, keys_charge}
use Rattle.law_slots.specs.Service.{job_source, JobRoom}
use Rattle.law_slots.proofs.Service.{job_on, room_on}
use Rattle.law_slots.specs.Meets.{has, Outside, Met}

-- where there is room, nothing is owed after its deadline
overdue : (s : ℕ) (js : List Job) → JobRoom s js → All (λ j. j.release ≤ s → j.due ≤ s → j.need ≡ 0) js
overdue s js r =
    all_map (λ j h q e. omega (arith, r 0 0, ap (λ a. dem a 0 0) (job_on s j q), due_in_lem (j.due - s) 0 j.need (omega arith)))
    (each_in_sum (λ j. dem (job_source s j) 0 0) js)

-- who has the slot is released, not yet due, and not finished
slot_inside : (s : ℕ) (js : List Job) → Keys js → JobRoom s js
    → All (λ j. has_slot (slot_of (choose s js)) j ≡ true → (j.release ≤ s) × (s < j.due) × (1 ≤ j.need)) js
slot_inside s js w r = all_zip one (ready_only s w) (overdue s js r)
  where
    one : (j : Job) → (has_slot (slot_of (choose s js)) j ≡ true → is_ready s j ≡ true) → (j.release ≤ s → j.due ≤ s → j.need ≡ 0)
        → has_slot (slot_of (choose s js)) j ≡ true → (j.release ≤ s) × (s < j.due) × (1 ≤ j.need)
    one j h o z =
        let b : (j.release ≤ s) × (1 ≤ j.need) = ready_both s j (h z) in
        (b.0, elim (dec_le j.due s) [ yes q ↦ absurd (omega (arith, o b.0 q)) | no q ↦ omega arith ], b.1)

-- Slots that meet a job as slot c leaves it, with c before them, where c is not the job's or lies between its release and its deadline.
-- The others give it what c leaves of its need; and what lies outside for the job lies outside for it after c.
met_cons : (s n : ℕ) (c : Slot) (cs : List Slot) (j : Job) → (has_slot c j ≡ true → (j.release ≤ s) × (s < j.due) × (1 ≤ j.need))
    → Met (suc s) n cs (charge c j) → Met s (suc n) (c ∷ cs) j
met_cons s n c cs j h m =
    record {
      exact = omega (
        arith,
        m.exact,
        charge_need c j,
        span_ext (has cs (charge c j)) (has cs j) 0 n (λ x. ap one_if (charge_slot (get_or cs x none) c j)),
        ⊎_elim {C = got c j ≤ j.need} (λ z. omega (arith, h z, one_if_true z)) (λ z. omega (arith, one_if_false z)) (either (has_slot c j)),
      );
      outside = out;
    }
  where
    out : (x : ℕ) → Outside (s + x) j → has_slot (get_or (c ∷ cs) x none) j ≡ false
    out zero z =
        ⊎_elim (λ q. absurd (⊎_elim (λ e. omega (arith, h q)) (λ e. omega (arith, h q)) z)) (λ q. q) (either (has_slot c j))
    out (suc x) z =
        sym (charge_slot (get_or cs x none) c j)
        ∙ m.outside x (⊎_elim (λ e. inl (omega (arith, charge_release c j))) (λ e. inr (omega (arith, charge_due c j))) z)

-- By the number of slots. The first slot goes to a job that is released, not due and not finished, which then needs one less;
-- there is room for what is left, so the others give each job exactly that. After the last slot nothing is owed.
pub slots_meet : (n s : ℕ) (js : List Job) → Keys js → JobRoom s js → All (λ j. (j.release < j.due) × (j.due ≤ s + n)) js
    → All (Met s n (slots_from n s js)) js
unfolding slots_from
slots_meet zero s js w r h =
    all_zip (λ j q o. record { exact = sym (o (omega arith) (omega arith)); outside = λ x z. refl }) h (overdue s js r)
slots_meet (suc n) s js w r h =
    let c : Slot = slot_of (choose s js) in
    let cs : List Slot = slots_from n (suc s) (map (charge c) js) in
    all_zip (met_cons s n c cs) (slot_inside s js w r)
    (all_unmap (Met (suc s) n cs) (charge c) js
    (slots_meet n (suc s) (map (charge c) js) (keys_charge c js w) (room_on s js w r)
    (all_of_map (charge c) (all_map (λ j q. (omega (arith, charge_release c j, charge_due c j), omega (arith, charge_due c j))) h))))

-- ---- windows of slots 0, 1, ..
module _ {n : ℕ} {cs : List Slot} {j : Job} (m : Met 0 n cs j) where
  -- a window in which no slot is the job's
  quiet : (a b : ℕ) → ((x : ℕ) → a ≤ x → x < b → Outside x j) → span (has cs j) a b ≡ 0
  quiet a b h =
      span_agree (has cs j) (λ x. 0) a b
      (λ x p q. one_if_false (m.outside x (subst (λ t. Outside t j) (sym (zero-add x)) (h x p q))))
      ∙ span_zero (λ x. 0) a b (λ x p. refl)

  -- a window that holds the job's release and its deadline has all that it needs
  pub met_inside : (a b : ℕ) → a ≤ j.release → j.due ≤ b → a ≤ b → b ≤ n → span (has cs j) a b ≡ j.need
  met_inside a b p q k l =
      omega (
        arith,
        m.exact,
        span_join (has cs j) 0 a n zero-le (omega arith),
        span_join (has cs j) a b n k l,
        quiet 0 a (λ x u v. inl (omega arith)),
        quiet b n (λ x u v. inr (omega arith)),
      )

  -- a window that ends by its release or starts at or after its deadline has none
  pub met_apart : (a b : ℕ) → (b ≤ j.release) ⊎ (j.due ≤ a) → span (has cs j) a b ≡ 0
  met_apart a b (inl z) = quiet a b (λ x p q. inl (omega arith))
  met_apart a b (inr z) = quiet a b (λ x p q. inr (omega arith))

-- ---- how many there are, and whose
pub slots_length : (n s : ℕ) (js : List Job) → length (slots_from n s js) ≡ n
unfolding slots_from
slots_length zero s js = refl
slots_length (suc n) s js = ap suc (slots_length n (suc s) (map (charge (slot_of (choose s js))) js))

-- what holds of the name of every job holds of the name in every slot
pub slots_owned : (P : JobName → Type 0) (n s : ℕ) (js : List Job) → All (λ j. P (name_of j)) js
    → (x : ℕ) (k : JobName) → get_or (slots_from n s js) x none ≡ some k → P k
unfolding slots_from
slots_owned P zero s js h x k e = absurd (none-ne-some k e)
slots_owned P (suc n) s js h zero k e = go (choose s js) (chooses s js) e
  where
    go : (c : Option Job) → Choice s js c → slot_of c ≡ some k → P k
    go none w e = absurd (none-ne-some k e)
    go (some j) (takes pick r a) e = subst P (some-injective (name_of j) k e) (picked_one pick h)
slots_owned P (suc n) s js h (suc x) k e =
    let c : Slot = slot_of (choose s js) in
    slots_owned P n (suc s) (map (charge c) js) (all_of_map (charge c) (all_map (λ j p. subst P (sym (charge_name c j)) p) h)) x k e

-- what the jobs that pass have of a slot, together
abbrev share : List Job → (JobName → Bool) → Slot → ℕ
share js p c = sum_of (λ j. cond (p (name_of j)) (got c j) 0) js

-- an idle slot is none of theirs, a job's slot that job's alone
choice_shares : {s : ℕ} {js : List Job} {c : Option Job} → Keys js → (p : JobName → Bool) → Choice s js c
    → wins p (slot_of c) ≡ share js p (slot_of c)
choice_shares w p (idle a) = sym (sum_zero (λ j. cond (p (name_of j)) 0 0) (all_map (λ j h. cond_zero (p (name_of j))) a))
choice_shares w p (takes {k = k} pick r a) =
    sym
    (picked_only (λ j. cond (p (name_of j)) (got (some (name_of k)) j) 0) pick
    (all_map (λ j e. ap (λ b. cond (p (name_of j)) (one_if b) 0) e ∙ cond_zero (p (name_of j))) (named_apart w pick))
    ∙ ap (λ b. cond (p (name_of k)) (one_if b) 0) (same_self (name_of k)))

-- slot x is a passing job's as often as the passing jobs, together, have it
pub slot_shares : (n s : ℕ) (js : List Job) → Keys js → (p : JobName → Bool) (x : ℕ)
    → wins p (get_or (slots_from n s js) x none) ≡ sum_of (λ j. cond (p (name_of j)) (has (slots_from n s js) j x) 0) js
unfolding slots_from
slot_shares zero s js w p x = sym (sum_zero (λ j. cond (p (name_of j)) 0 0) (all_of js (λ j. cond_zero (p (name_of j)))))
slot_shares (suc n) s js w p zero = choice_shares w p (chooses s js)
slot_shares (suc n) s js w p (suc x) =
    let c : Slot = slot_of (choose s js) in
    let d : Slot = get_or (slots_from n (suc s) (map (charge c) js)) x none in
    slot_shares n (suc s) (map (charge c) js) (keys_charge c js w) p x
    ∙ sum_map (λ j. cond (p (name_of j)) (got d j) 0) (charge c) js
    ∙ sum_same (λ j. cond (p (name_of (charge c j))) (got d (charge c j)) 0) (λ j. cond (p (name_of j)) (got d j) 0) js
    (λ j. ap₂ (λ k b. cond (p k) (one_if b) 0) (charge_name c j) (charge_slot d c j))

-- a condition on the whole window
span_cond : (q : Bool) (f : ℕ → ℕ) (a b : ℕ) → span (λ x. cond q (f x) 0) a b ≡ cond q (span f a b) 0
span_cond true f a b = refl
span_cond false f a b = span_zero (λ x. 0) a b (λ x p. refl)

-- so in a window: the slots of passing jobs are what each of these has there
pub window_shares : (n s : ℕ) (js : List Job) → Keys js → (p : JobName → Bool) (a b : ℕ)
    → span (λ x. wins p (get_or (slots_from n s js) x none)) a b ≡ sum_of (λ j. cond (p (name_of j)) (span (has (slots_from n s js) j) a b) 0) js
window_shares n s js w p a b =
    let cs : List Slot = slots_from n s js in
    span_ext (λ x. wins p (get_or cs x none)) (λ x. share js p (get_or cs x none)) a b (slot_shares n s js w p)
    ∙ sym (span_sum (λ j x. cond (p (name_of j)) (has cs j x) 0) js a b)
    ∙ sum_same (λ j. span (λ x. cond (p (name_of j)) (has cs j x) 0) a b) (λ j. cond (p (name_of j)) (span (has cs j) a b) 0) js
    (λ j. span_cond (p (name_of j)) (has cs j) a b)
