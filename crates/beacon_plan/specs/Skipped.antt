-- Jobs that need nothing never matter: slots are the same without them. And what a run of slots leaves of the other jobs.
-- Assumes nothing.
use Rattle.std.specs.Prelude.{◌≡◌, refl, Bool, true, false, cond, ◌&&◌, List, [], ◌∷◌, ◌++◌, map, ℕ, zero, suc, ◌+◌, ◌≤◌, leb, replicate}
use Rattle.std.proofs.Common.{sym, ap, subst, subst₂, ◌∙◌, map-id, le_refl, arith, le-ltb, ltb-false}
use Rattle.std.proofs.Math.Option.{some}
use Rattle.spec_lists.specs.Lists.{cons_if, keep, sum_of, one_if}
use Rattle.base_lists.specs.Tests.{and_false, one_if_true}
use Rattle.spec_lists.specs.All.{All, stop, and}
use Rattle.base_lists.specs.All.{head, tail, all_map, map_ext}
use Rattle.base_lists.specs.Sums.{sum_map, sum_same, count_none}
use Rattle.spec_rules.specs.Slots.{Job, JobName, name_of, is_ready, due_first, choose, Slot, slot_of, same_name, has_slot, charge, slots_from}
use Rattle.law_slots.specs.Choice.{Keys}
use Rattle.law_slots.proofs.Choice.{same_self, charge_need}
use Rattle.law_slots.specs.Events.{less_by, spent, Quiet}
use Rattle.law_slots.proofs.Events.{run_on}
use Rattle.beacon_plan.specs.Rows.{unfinished}

-- ---- without some jobs that need nothing
pub data Skipped : List Job → List Job → Type 0 where
  over : Skipped [] []
  skip : {j : Job} {js ks : List Job} → j.need ≡ 0 → Skipped js ks → Skipped (j ∷ js) ks
  same : {j : Job} {js ks : List Job} → Skipped js ks → Skipped (j ∷ js) (j ∷ ks)

pub skipped_refl : (js : List Job) → Skipped js js
skipped_refl [] = over
skipped_refl (j ∷ js) = same (skipped_refl js)

pub skipped_all : {js : List Job} → All (λ j. j.need ≡ 0) js → Skipped js []
skipped_all stop = over
skipped_all (and e h) = skip e (skipped_all h)

pub skipped_append : {js ks ms ns : List Job} → Skipped js ks → Skipped ms ns → Skipped (js ++ ms) (ks ++ ns)
skipped_append over w = w
skipped_append (skip e v) w = skip e (skipped_append v w)
skipped_append (same v) w = same (skipped_append v w)

-- those that need something are left
pub skipped_done : (js : List Job) → Skipped js (keep unfinished js)
skipped_done [] = over
skipped_done (j ∷ js) = go (unfinished j) refl (skipped_done js)
  where
    go : (b : Bool) → unfinished j ≡ b → Skipped js (keep unfinished js) → Skipped (j ∷ js) (cons_if b j (keep unfinished js))
    go true e w = same w
    go false e w = skip {j = j} (omega (arith, ltb-false 0 j.need e)) w

-- what holds of all jobs holds of those left
pub skipped_keeps : {P : Job → Type 0} {js ks : List Job} → Skipped js ks → All P js → All P ks
skipped_keeps over h = stop
skipped_keeps (skip e w) h = skipped_keeps w (tail h)
skipped_keeps (same w) h = and (head h) (skipped_keeps w (tail h))

-- where no name stands twice among those left, none does among those that need something
pub skipped_names : {js ks : List Job} → Skipped js ks → Keys ks → Keys (keep unfinished js)
skipped_names {js} {ks} w u k = omega (arith, u k, fewer (λ j. one_if (same_name (name_of j) k)) w)
  where
    cons_fewer : (f : Job → ℕ) (b : Bool) (j : Job) (ms : List Job) (v : ℕ) → sum_of f ms ≤ v → sum_of f (cons_if b j ms) ≤ f j + v
    cons_fewer f true j ms v h = omega arith
    cons_fewer f false j ms v h = omega arith

    fewer : (f : Job → ℕ) {js ks : List Job} → Skipped js ks → sum_of f (keep unfinished js) ≤ sum_of f ks
    fewer f over = le_refl 0
    fewer f (skip {j = j} {js = js} e v) =
        rw (le-ltb 0 j.need (omega arith)) (fewer f v)
    fewer f (same {j = j} {js = js} {ks = ks} v) = cons_fewer f (unfinished j) j (keep unfinished js) (sum_of f ks) (fewer f v)

-- a job that needs nothing is not ready
done_ready : (s : ℕ) (j : Job) → j.need ≡ 0 → is_ready s j ≡ false
done_ready s j e = ap (λ b. leb j.release s && b) (le-ltb 0 j.need (omega arith)) ∙ and_false (leb j.release s)

pub skipped_choose : (s : ℕ) {js ks : List Job} → Skipped js ks → choose s js ≡ choose s ks
unfolding choose
skipped_choose s over = refl
skipped_choose s (skip {j = j} {js = js} e w) =
    ap (λ b. cond b (due_first j (choose s js)) (choose s js)) (done_ready s j e) ∙ skipped_choose s w
skipped_choose s (same {j = j} w) = ap (λ c. cond (is_ready s j) (due_first j c) c) (skipped_choose s w)

skipped_charge : (c : Slot) {js ks : List Job} → Skipped js ks → Skipped (map (charge c) js) (map (charge c) ks)
skipped_charge c over = over
skipped_charge c (skip {j = j} e w) = skip {j = charge c j} (omega (arith, charge_need c j)) (skipped_charge c w)
skipped_charge c (same w) = same (skipped_charge c w)

-- the law: slots are the same
pub skipped_slots : (n s : ℕ) {js ks : List Job} → Skipped js ks → slots_from n s js ≡ slots_from n s ks
unfolding slots_from
skipped_slots zero s w = refl
skipped_slots (suc n) s {js} {ks} w =
    let c : Slot = slot_of (choose s js) in
    ap (λ l. c ∷ l) (skipped_slots n (suc s) (skipped_charge c w))
    ∙ ap (λ d. d ∷ slots_from n (suc s) (map (charge d) ks)) (ap slot_of (skipped_choose s w))

-- ---- one job changed
-- the second list is the first with y in the place of x
pub data Changed (x y : Job) : List Job → List Job → Type 0 where
  here : {js : List Job} → Changed x y (x ∷ js) (y ∷ js)
  there : {j : Job} {js ks : List Job} → Changed x y js ks → Changed x y (j ∷ js) (j ∷ ks)

pub changed_append : {x y : Job} {js ks : List Job} (ms : List Job) → Changed x y js ks → Changed x y (js ++ ms) (ks ++ ms)
changed_append ms here = here
changed_append ms (there w) = there (changed_append ms w)

pub changed_after : {x y : Job} (ms : List Job) {js ks : List Job} → Changed x y js ks → Changed x y (ms ++ js) (ms ++ ks)
changed_after [] w = w
changed_after (m ∷ ms) w = there (changed_after ms w)

-- a job that needs something is among those left
changed_left : {x y : Job} {js ks ms : List Job} → Changed x y js ks → 1 ≤ x.need → Skipped js ms → (f : Job → ℕ) → f x ≤ sum_of f ms
changed_left here h (skip e w) f = absurd (omega arith)
changed_left here h (same w) f = omega arith
changed_left (there v) h (skip e w) f = changed_left v h w f
changed_left (there v) h (same w) f = omega (arith, changed_left v h w f)

-- ---- n slots of one job
-- what a job is named does not change
pub keys_spent : (n : ℕ) (c : Slot) (js : List Job) → Keys js → Keys (map (spent n c) js)
keys_spent n c js w k =
    omega (
      arith,
      w k,
      sum_map (λ j. one_if (same_name (name_of j) k)) (spent n c) js,
      sum_same (λ j. one_if (same_name (name_of (spent n c j)) k)) (λ j. one_if (same_name (name_of j) k)) js (λ j. go j (has_slot c j)),
    )
  where
    go : (j : Job) (b : Bool) → one_if (same_name (name_of (cond b (less_by n j) j)) k) ≡ one_if (same_name (name_of j) k)
    go j true = refl
    go j false = refl

-- jobs of other names keep what they need
spent_others : (n : ℕ) (k : JobName) {js : List Job} → All (λ j. same_name (name_of j) k ≡ false) js → map (spent n (some k)) js ≡ js
spent_others n k {js} h =
    map_ext (spent n (some k)) (λ j. j) (all_map (λ j e. ap (λ b. cond b (less_by n j) j) e) h) ∙ map-id js

-- By the list. The job changed is the only one named so among those that need something; those before it and after it stay.
pub changed_spent : (n : ℕ) {x : Job} {js ks ms : List Job} → 1 ≤ x.need → Changed x (less_by n x) js ks → Skipped js ms → Keys ms
    → Skipped ks (map (spent n (some (name_of x))) ms)
changed_spent n h here (skip e w) u = absurd (omega arith)
changed_spent n {x} h (here {js = js}) (same {ks = ms} w) u =
    let apart : All (λ j. same_name (name_of j) (name_of x) ≡ false) ms =
    count_none (λ j. same_name (name_of j) (name_of x)) ms (omega (arith, u (name_of x), one_if_true (same_self (name_of x)))) in
    subst₂ (λ y l. Skipped (less_by n x ∷ js) (y ∷ l)) (ap (λ b. cond b (less_by n x) x) (sym (same_self (name_of x))))
    (sym (spent_others n (name_of x) apart)) (same w)
changed_spent n h (there v) (skip e w) u = skip e (changed_spent n h v w u)
changed_spent n {x} h (there {j = j} {ks = ks} v) (same {ks = ms} w) u =
    let one : 1 ≤ sum_of (λ i. one_if (same_name (name_of i) (name_of x))) ms =
    omega (arith, changed_left v h w (λ i. one_if (same_name (name_of i) (name_of x))), one_if_true (same_self (name_of x))) in
    let other : All (λ i. same_name (name_of i) (name_of x) ≡ false) (j ∷ []) =
    count_none (λ i. same_name (name_of i) (name_of x)) (j ∷ []) (omega (arith, u (name_of x))) in
    subst (λ y. Skipped (j ∷ ks) (y ∷ map (spent n (some (name_of x))) ms)) (sym (ap (λ b. cond b (less_by n j) j) (head other)))
    (same (changed_spent n h v w (λ k. omega (arith, u k))))

-- where those that need something are ms, n slots of the chosen job x, up to its end or a release
module _ (n r s : ℕ) (x : Job) {js ks ms : List Job} (w : Skipped js ms) (u : Keys ms) (e : choose s js ≡ some x) (l : n ≤ x.need) where
  pub run_changed : All (Quiet n s) js → Changed x (less_by n x) js ks → 1 ≤ x.need
      → slots_from (n + r) s js ≡ replicate n (some (name_of x)) ++ slots_from r (s + n) ks
  run_changed q v h =
      skipped_slots (n + r) s w
      ∙ run_on n r s ms x u (sym (skipped_choose s w) ∙ e) l (skipped_keeps w q)
      ∙ ap (λ c. replicate n (some (name_of x)) ++ c) (sym (skipped_slots r (s + n) (changed_spent n h v w u)))
