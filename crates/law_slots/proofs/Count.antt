-- A plan has few records: a run ends with its job or where a job is released.
-- Assumes nothing.
use Rattle.std.specs.Prelude.{◌≡◌, refl, ◌≢◌, Bool, true, false, cond, List, [], ◌∷◌, map, ℕ, zero, suc, ◌≤◌, ◌<◌, ltb, length}
use Rattle.std.proofs.Common.{ap, zero-le, le_refl, arith, lt-ltb, le-ltb}
use Rattle.std.proofs.Math.Option.{Option, none, some}
use Rattle.std.proofs.Math.Decide.{dec_le}
use Rattle.spec_lists.specs.Lists.{one_if, sum_of}
use Rattle.spec_lists.specs.All.{All}
use Rattle.base_lists.specs.Tests.{one_if_true, one_if_false}
use Rattle.base_lists.specs.All.{all_of, all_zip}
use Rattle.base_lists.specs.Sums.{sum_map, sum_tight, sum_le, each_in_sum}
use Rattle.base_lists.specs.Picked.{picked_one}
use Rattle.spec_rules.specs.Slots.{Job, is_ready, choose, Slot, slot_of, has_slot, charge, slots_from, Run, run, goes_on, prepend, runs_from}
use Rattle.law_slots.specs.Choice.{Keys, Choice, takes}
use Rattle.law_slots.proofs.Choice.{chooses, ready_both, ready_only, slot_again, charge_release, charge_need, keys_charge}
use Rattle.law_slots.proofs.Cuts.{prepend_on}
use Rattle.law_slots.specs.Count.{to_come, ahead}

-- ---- what a slot takes of it
-- a test that passes where another does counts no less
test_le : (a b c d : ℕ) → (a < b → c < d) → one_if (ltb a b) ≤ one_if (ltb c d)
test_le a b c d f =
    elim (dec_le (suc a) b) [
      | yes q ↦ omega (arith, one_if_true (lt-ltb a b q), one_if_true (lt-ltb c d (f q)))
      | no q ↦ omega (arith, one_if_false (le-ltb a b (omega arith)))
    ]

-- a slot adds no end and no release
end_on : (c : Slot) (j : Job) → one_if (ltb 0 (charge c j).need) ≤ one_if (ltb 0 j.need)
end_on c j = test_le 0 (charge c j).need 0 j.need (λ q. omega (arith, charge_need c j))

release_on : (s : ℕ) (c : Slot) (j : Job) → one_if (ltb (suc s) (charge c j).release) ≤ one_if (ltb s j.release)
release_on s c j = test_le (suc s) (charge c j).release s j.release (λ q. omega (arith, charge_release c j))

-- Where a slot takes nothing of a job, the job is not released next and, if it has the slot, has another to come:
-- a release next would be one less to come, and so would the end of the job.
nothing_taken : (s : ℕ) (c : Slot) (j : Job) → (has_slot c j ≡ true → is_ready s j ≡ true) → to_come s j ≤ to_come (suc s) (charge c j)
    → (j.release ≢ suc s) × (has_slot c j ≡ true → 2 ≤ j.need)
nothing_taken s c j h k = (
  λ e. omega (
    arith,
    end_on c j,
    charge_release c j,
    one_if_true (lt-ltb s j.release (omega arith)),
    one_if_false (le-ltb (suc s) (charge c j).release (omega (arith, charge_release c j))),
  ),
  λ z. elim (dec_le 2 j.need) [
    | yes q ↦ q
    | no q ↦ absurd (omega (
      arith,
      release_on s c j,
      one_if_true (lt-ltb 0 j.need (ready_both s j (h z)).1),
      one_if_false (le-ltb 0 (charge c j).need (omega (arith, charge_need c j, one_if_true z))),
    ))
  ],
)

-- ---- records
prepend_length : (s : ℕ) (c : Slot) (rs : List Run) → length (prepend s c rs) ≤ suc (length rs)
unfolding prepend
prepend_length s none rs = omega arith
prepend_length s (some k) [] = le_refl 1
prepend_length s (some k) (r ∷ rs) = go (goes_on k s r)
  where
    go : (b : Bool) → length (cond b (run k s (suc r.length) ∷ rs) (run k s 1 ∷ r ∷ rs)) ≤ suc (suc (length rs))
    go true = omega arith
    go false = le_refl _

-- two slots of one job, or two idle ones, make no more records than the second
prepend_again : (s : ℕ) (c : Slot) (rs : List Run) → length (prepend s c (prepend (suc s) c rs)) ≡ length (prepend (suc s) c rs)
unfolding prepend
prepend_again s none rs = refl
prepend_again s (some k) [] = ap length (prepend_on s k 1 [])
prepend_again s (some k) (r ∷ rs) = go (goes_on k (suc s) r)
  where
    go : (b : Bool) → let q = cond b (run k (suc s) (suc r.length) ∷ rs) (run k (suc s) 1 ∷ r ∷ rs) in
        length (prepend s (some k) q) ≡ length q
    go true = ap length (prepend_on s k (suc r.length) rs)
    go false = ap length (prepend_on s k 1 (r ∷ rs))

-- a slot makes a record only where a job is ready
first_length : (s : ℕ) (js : List Job) → length (prepend s (slot_of (choose s js)) []) ≤ ahead s js
unfolding prepend
first_length s js = go (choose s js) (chooses s js)
  where
    go : (c : Option Job) → Choice s js c → length (prepend s (slot_of c) []) ≤ ahead s js
    go none w = zero-le
    go (some k) (takes pick r a) =
        omega (arith, picked_one pick (each_in_sum (to_come s) js), one_if_true (lt-ltb 0 k.need (ready_both s k r).1))

-- By the slots. If the first slot ends a job or a job is released next, there is less to come, for one more record at most.
-- If not, the next slot goes to the same job, or is idle too, and there is no record more than without the first slot.
pub few_runs_lem : (n s : ℕ) (js : List Job) → Keys js → length (runs_from s (slots_from n s js)) ≤ ahead s js
unfolding runs_from slots_from
few_runs_lem zero s js w = zero-le
few_runs_lem (suc zero) s js w = first_length s js
few_runs_lem (suc (suc n)) s js w =
    let c : Slot = slot_of (choose s js) in
    let ks : List Job = map (charge c) js in
    let d : Slot = slot_of (choose (suc s) ks) in
    let rs : List Run = runs_from (suc (suc s)) (slots_from n (suc (suc s)) (map (charge d) ks)) in
    let rest : length (prepend (suc s) d rs) ≤ ahead (suc s) ks = few_runs_lem (suc n) (suc s) ks (keys_charge c js w) in
    let less : All (λ j. to_come (suc s) (charge c j) ≤ to_come s j) js = all_of js (λ j. omega (arith, end_on c j, release_on s c j)) in
    let sum : ahead (suc s) ks ≡ sum_of (λ j. to_come (suc s) (charge c j)) js = sum_map (to_come (suc s)) (charge c) js in
    elim (dec_le (ahead s js) (ahead (suc s) ks)) [
      | yes q ↦
          let tight : All (λ j. to_come s j ≤ to_come (suc s) (charge c j)) js =
          sum_tight (λ j. to_come (suc s) (charge c j)) (to_come s) less (omega arith) in
          let again : d ≡ c = slot_again s c (all_zip (nothing_taken s c) (ready_only s w) tight) in
          omega (
            arith,
            prepend_again s d rs,
            ap (λ x. length (prepend s x (prepend (suc s) d rs))) again,
            sum_le (λ j. to_come (suc s) (charge c j)) (to_come s) less,
          )
      | no q ↦ omega (arith, prepend_length s c (prepend (suc s) d rs))
    ]

-- from a later slot on no more are to come
pub come_later : (h : ℕ) (js : List Job) → sum_of (to_come h) js ≤ sum_of (to_come 0) js
come_later h js = sum_le (to_come h) (to_come 0) (all_of js (λ j. omega (arith, fewer j.release)))
  where
    fewer : (r : ℕ) → one_if (ltb h r) ≤ one_if (ltb 0 r)
    fewer r =
        elim (dec_le (suc h) r) [
          | yes q ↦ omega (arith, one_if_true (lt-ltb h r q), one_if_true (lt-ltb 0 r (omega arith)))
          | no q ↦ omega (arith, one_if_false (le-ltb h r (omega arith)))
        ]
