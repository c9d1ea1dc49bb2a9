-- A slot at a time, step D is greedy service by earliest deadline: where the jobs have room, the slot misses no deadline
-- and leaves room for what is left.
-- Assumes nothing.
use Rattle.std.specs.Prelude.{◌≡◌, refl, true, false, List, map, ℕ, zero, suc, ◌+◌, ◌-◌, ◌≤◌, leb, ltb}
use Rattle.std.proofs.Common.{ap, ap₂, ◌∙◌, ⊎_elim, zero-le, le_refl, le_of_eq, arith, le-leb, lt-ltb}
use Rattle.std.proofs.Math.Option.{Option, none, some}
use Rattle.std.proofs.Math.Nat.{sub-zero}
use Rattle.std.proofs.Math.Decide.{dec_le}
use Rattle.base_lists.specs.Tests.{either, clash, both_and, one_if_true, one_if_false}
use Rattle.base_lists.specs.All.{all_map, all_zip}
use Rattle.base_lists.specs.Sums.{sum_le, sum_map}
use Rattle.base_lists.specs.Picked.{picked_rest}
use Rattle.base_edf.specs.Time.{due, due_zero}
use Rattle.base_edf.specs.Edf.{source, rem, left, next, dem, Greedy, NoMiss}
use Rattle.base_edf.proofs.Edf.{no_miss, room_next}
use Rattle.base_edf.proofs.Greedy.{idle_greedy, slot_greedy}
use Rattle.base_edf.proofs.Periodic.{waiting_dem}
use Rattle.spec_rules.specs.Slots.{Job, name_of, is_ready, choose, Slot, slot_of, has_slot, charge}
use Rattle.law_slots.specs.Choice.{Keys, Choice, idle, takes, got}
use Rattle.law_slots.proofs.Choice.{chooses, same_self, named_apart, ready_both, ready_only, charge_need}
use Rattle.law_slots.proofs.Choice.{charge_release, charge_due}
use Rattle.law_slots.specs.Service.{asking, job_source, JobRoom}

-- what it asks in a window: n, where the window holds its release and its deadline
pub asking_dem : (w l n x d : ℕ) → w ≤ l → dem (asking w l n) x d ≡ due x w (due l d n)
asking_dem zero l n zero d h = omega arith
asking_dem zero l n (suc x) d h = refl
asking_dem (suc w) l n x d h =
    let p : suc w + (l - suc w) ≡ l = omega arith in
    waiting_dem n (suc w) (l - suc w) x d ∙ ap (λ v. due x (suc w) (due v d n)) p

-- so for a job when no slot has passed
pub job_dem : (j : Job) (x d : ℕ) → j.release ≤ j.due → dem (job_source 0 j) x d ≡ due x j.release (due j.due d j.need)
job_dem j x d h = rw (sub-zero j.release, sub-zero j.due) (asking_dem j.release j.due j.need x d h)

-- ---- a ready job is one that is owed something
-- a released job is owed its need, by its deadline
pub job_on : (s : ℕ) (j : Job) → j.release ≤ s → job_source s j ≡ source j.need (j.due - s) 0 1 0
job_on s j h = let e : j.release - s ≡ 0 = omega arith in rw e

owed_ready : (s : ℕ) (j : Job) → 1 ≤ rem (job_source s j) → is_ready s j ≡ true
owed_ready s j h = go (j.release - s) refl h
  where
    go : (w : ℕ) → j.release - s ≡ w → 1 ≤ rem (asking w (j.due - s) j.need) → is_ready s j ≡ true
    go zero e h = both_and (leb j.release s) (ltb 0 j.need) (le-leb j.release s (omega arith)) (lt-ltb 0 j.need h)
    go (suc w) e h = absurd (omega arith)

-- The slot goes to none where nothing is owed; else to a job that is owed something and, of all such, has the nearest deadline.
pub slot_is_greedy : (s : ℕ) (js : List Job) → Keys js → Greedy (job_source s) js (got (slot_of (choose s js))) 1
slot_is_greedy s js w = go (choose s js) (chooses s js)
  where
    go : (c : Option Job) → Choice s js c → Greedy (job_source s) js (got (slot_of c)) 1
    go none (idle a) = idle_greedy (job_source s) (all_map nothing a) (all_map (λ j h. refl) a)
      where
        nothing : (j : Job) → is_ready s j ≡ false → rem (job_source s j) ≡ 0
        nothing j h =
            elim (dec_le 1 (rem (job_source s j))) [ yes q ↦ absurd (clash (is_ready s j) (owed_ready s j q) h) | no q ↦ omega arith ]
    go (some k) (takes pick r a) =
        slot_greedy (job_source s) pick (omega (arith, ready_both s k r, ap rem (job_on s k (ready_both s k r).0)))
        (picked_rest pick (all_map nearer a)) (one_if_true (same_self (name_of k)))
        (all_map (λ j h. one_if_false h) (named_apart w pick))
      where
        nearer : (j : Job) → (is_ready s j ≡ true → k.due ≤ j.due) → 1 ≤ rem (job_source s j) → left (job_source s k) ≤ left (job_source s j)
        nearer j h q =
            let z : is_ready s j ≡ true = owed_ready s j q in
            omega (arith, h z, ap left (job_on s k (ready_both s k r).0), ap left (job_on s j (ready_both s j z).0))

-- no deadline passes in the slot with something owed
pub slot_no_miss : (s : ℕ) (js : List Job) → Keys js → JobRoom s js → NoMiss (job_source s) js (got (slot_of (choose s js)))
slot_no_miss s js w r = no_miss (job_source s) (λ u. 1) (slot_is_greedy s js w) r

-- ---- room, a slot later
-- a running job with no need
nothing_asked : (n l x d : ℕ) → n ≡ 0 → dem (source n l 0 1 0) x d ≡ 0
nothing_asked n l zero d h = omega (arith, due_zero l d n h)
nothing_asked n l (suc x) d h = refl

-- A job that got g asks, a slot later, no more than the theory says of its source.
-- It runs, and its deadline comes or does not; or it is released next; or it waits on.
asks_on : (w l n g x d : ℕ) → (1 ≤ w → g ≡ 0) → (left (asking w l n) ≤ 1 → rem (asking w l n) ≤ g)
    → dem (asking (w - 1) (l - 1) (n - g)) x d ≤ dem (next (asking w l n) g) x d
asks_on zero zero n g x d h k = omega (arith, nothing_asked (n - g) 0 x d (omega (arith, k (omega arith))))
asks_on zero (suc zero) n g x d h k = omega (arith, nothing_asked (n - g) 0 x d (omega (arith, k (omega arith))))
asks_on zero (suc (suc l)) n g x d h k =
    let e : suc (suc l) - 1 ≡ suc l = omega arith in
    le_of_eq (ap (λ v. dem (source (n - g) v 0 1 0) x d) e)
asks_on (suc zero) l n g zero d h k = let e : n - g ≡ n = omega (arith, h (omega arith)) in rw e (le_refl _)
asks_on (suc zero) l n g (suc x) d h k = zero-le
asks_on (suc (suc w)) l n g x d h k =
    let a : suc (suc w) - 1 ≡ suc w = omega arith in
    let b : l - 1 - suc w ≡ l - suc (suc w) = omega arith in
    let c : n - g ≡ n = omega (arith, h (omega arith)) in
    let e : 0 ≡ 0 - g = omega arith in
    le_of_eq (ap₂ (λ u v. dem (asking u (l - 1) v) x d) a c ∙ ap₂ (λ u v. dem (source v (suc w) n u 1) x d) b e)

-- There is room for what is left: so the theory has it for the sources, and of each job it asks, a slot later, no more than its source.
pub room_on : (s : ℕ) (js : List Job) → Keys js → JobRoom s js → JobRoom (suc s) (map (charge (slot_of (choose s js))) js)
room_on s js w r x d =
    omega (
      arith,
      sum_map (λ j. dem (job_source (suc s) j) x d) (charge c) js,
      sum_le (λ j. dem (job_source (suc s) (charge c j)) x d) (λ j. dem (next (job_source s j) (got c j)) x d)
          (all_zip one (ready_only s w) (slot_no_miss s js w r)),
      room_next (job_source s) (λ u. 1) (slot_is_greedy s js w) r x d,
    )
  where
    c : Slot
    c = slot_of (choose s js)

    -- the job a slot later
    on : (j : Job) → job_source (suc s) (charge c j) ≡ asking (j.release - s - 1) (j.due - s - 1) (j.need - got c j)
    on j =
        let a : (charge c j).release - suc s ≡ j.release - s - 1 = omega (arith, charge_release c j) in
        let b : (charge c j).due - suc s ≡ j.due - s - 1 = omega (arith, charge_due c j) in
        rw (a, b, charge_need c j)

    early : (j : Job) → (has_slot c j ≡ true → is_ready s j ≡ true) → 1 ≤ j.release - s → got c j ≡ 0
    early j h q = ⊎_elim (λ z. absurd (omega (arith, ready_both s j (h z)))) one_if_false (either (has_slot c j))

    one : (j : Job) → (has_slot c j ≡ true → is_ready s j ≡ true) → (left (job_source s j) ≤ 1 → rem (job_source s j) ≤ got c j)
        → dem (job_source (suc s) (charge c j)) x d ≤ dem (next (job_source s j) (got c j)) x d
    one j h m = rw (on j) (asks_on (j.release - s) (j.due - s) j.need (got c j) x d (early j h) m)
