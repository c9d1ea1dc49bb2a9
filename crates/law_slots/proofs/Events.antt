-- Steps D and E by events: a choice holds until its job ends or a job is released, and its slots are one run.
-- Assumes nothing.
use Rattle.std.specs.Prelude.{◌≡◌, refl, ◌≢◌, Bool, true, false, cond, ◌&&◌, List, [], ◌∷◌, ◌++◌, map, ℕ, zero, suc, ◌+◌, ◌-◌, ◌≤◌, replicate}
use Rattle.std.proofs.Common.{sym, ap, ap₂, subst, ◌∙◌, inl, inr, ⊎_elim, map-id, zero-add, add-zero, suc-add, add_assoc, add-one, one-add, arith}
use Rattle.std.proofs.lemmas.Simd.{map-map}
use Rattle.std.proofs.Math.Option.{none, some}
use Rattle.std.proofs.Math.Nat.{sub-zero}
use Rattle.spec_lists.specs.All.{All}
use Rattle.base_lists.specs.Tests.{clash, one_if_most, eqb_refl}
use Rattle.base_lists.specs.All.{all_of, all_map, all_zip, all_of_map, map_ext}
use Rattle.spec_rules.specs.Slots.{Job, JobName, name_of, choose, Slot, slot_of, has_slot, one_less, charge, slots_from, Run, run, prepend, runs_from}
use Rattle.law_model.specs.Names.{same_refl}
use Rattle.law_slots.specs.Choice.{Keys, Choice, takes}
use Rattle.law_slots.proofs.Choice.{chooses, named_once, charge_slot, charge_release, charge_need, slot_again}
use Rattle.law_slots.specs.Events.{less_by, spent, Quiet, follows, joined}

spent_none : (c : Slot) (j : Job) → spent 0 c j ≡ j
spent_none c j = go (has_slot c j)
  where
    go : (b : Bool) → cond b (less_by 0 j) j ≡ j
    go true = rw (sub-zero j.need)
    go false = refl

-- one slot, then n more
spent_more : (n : ℕ) (c : Slot) (j : Job) → spent n c (charge c j) ≡ spent (suc n) c j
spent_more n c j = ap (λ b. cond b (less_by n (charge c j)) (charge c j)) (charge_slot c c j) ∙ go (has_slot c j)
  where
    minus : j.need - 1 - n ≡ j.need - suc n
    minus = omega arith

    go : (b : Bool) → cond b (less_by n (cond b (one_less j) j)) (cond b (one_less j) j) ≡ cond b (less_by (suc n) j) j
    go true = rw minus
    go false = refl

-- n slots from s on may all be c: the job needs as many, if they are its; and it is not released on the way
abbrev Lasts : (n s : ℕ) → Slot → Job → Type 0
Lasts n s c j = (has_slot c j ≡ true → n ≤ j.need) × Quiet n s j

-- one slot less
lasts_on : (n s : ℕ) (c : Slot) (j : Job) → Lasts (suc n) s c j → Lasts n (suc s) c (charge c j)
lasts_on n s c j h = (
  λ z. omega (arith, h.0 (sym (charge_slot c c j) ∙ z), charge_need c j, one_if_most (has_slot c j)),
  ⊎_elim (λ l. inl (omega (arith, charge_release c j))) (λ l. inr (omega (arith, charge_release c j))) h.1,
)

-- with two slots and more, the second goes where the first goes
lasts_again : (n s : ℕ) (c : Slot) → 1 ≤ n → (j : Job) → Lasts (suc n) s c j → (j.release ≢ suc s) × (has_slot c j ≡ true → 2 ≤ j.need)
lasts_again n s c l j h = (λ e. ⊎_elim {C = ⊥} (λ q. omega arith) (λ q. omega arith) h.1, λ z. omega (arith, h.0 z))

-- By the slots: the next one goes where this one goes, if the job is not finished by this one and none is released next.
hold : (n r s : ℕ) (c : Slot) (js : List Job) → (1 ≤ n → slot_of (choose s js) ≡ c) → All (Lasts n s c) js
    → slots_from (n + r) s js ≡ replicate n c ++ slots_from r (s + n) (map (spent n c) js)
unfolding slots_from
hold zero r s c js e h =
    rw (zero-add r, add-zero s) (ap (slots_from r s) (sym (map_ext (spent 0 c) (λ j. j) (all_of js (spent_none c)) ∙ map-id js)))
hold (suc n) r s c js e h =
    let ks : List Job = map (charge c) js in
    let t : suc s + n ≡ s + suc n = omega arith in
    let more : map (spent n c) ks ≡ map (spent (suc n) c) js =
    map-map (spent n c) (charge c) js ∙ map_ext (λ j. spent n c (charge c j)) (spent (suc n) c) (all_of js (spent_more n c)) in
    let rest : slots_from (n + r) (suc s) ks ≡ replicate n c ++ slots_from r (suc s + n) (map (spent n c) ks) =
    hold n r (suc s) c ks (λ l. slot_again s c (all_map (lasts_again n s c l) h) ∙ e (omega arith))
    (all_of_map (charge c) (all_map (lasts_on n s c) h)) in
    rw (suc-add n r)
    (ap (λ d. d ∷ slots_from (n + r) (suc s) (map (charge d) js)) (e (omega arith))
    ∙ ap (λ l. c ∷ l) (rest ∙ ap₂ (λ x l. replicate n c ++ slots_from r x l) t more))

-- the slots of one job, up to its end or a release
pub run_on : (n r s : ℕ) (js : List Job) (k : Job) → Keys js → choose s js ≡ some k → n ≤ k.need → All (Quiet n s) js
    → slots_from (n + r) s js ≡ replicate n (some (name_of k)) ++ slots_from r (s + n) (map (spent n (some (name_of k))) js)
run_on n r s js k w e l h = go (subst (Choice s js) e (chooses s js))
  where
    go : Choice s js (some k)
        → slots_from (n + r) s js ≡ replicate n (some (name_of k)) ++ slots_from r (s + n) (map (spent n (some (name_of k))) js)
    go (takes pick q a) =
        hold n r s (some (name_of k)) js (λ z. ap slot_of e) (all_zip (λ j u v. (u, v)) (named_once {P = λ j. n ≤ j.need} w pick l) h)

-- idle slots, up to a release
pub idle_on : (n r s : ℕ) (js : List Job) → choose s js ≡ none → All (Quiet n s) js
    → slots_from (n + r) s js ≡ replicate n none ++ slots_from r (s + n) js
idle_on n r s js e h =
    hold n r s none js (λ z. ap slot_of e) (all_map (λ j v. (λ u. absurd (clash false u refl), v)) h)
    ∙ ap (λ l. replicate n none ++ slots_from r (s + n) l) (map-id js)

-- before a run that goes on from them
joined_on : (n s : ℕ) (k : JobName) (m : ℕ) (rs : List Run) → joined n s k (run k (s + n) m ∷ rs) ≡ run k s (n + m) ∷ rs
unfolding joined
joined_on n s k m rs =
    ap (λ b. cond b (run k s (n + m) ∷ rs) (run k s n ∷ run k (s + n) m ∷ rs))
    (ap₂ ◌&&◌ (same_refl k.name) (ap₂ ◌&&◌ (eqb_refl k.number) (eqb_refl (s + n))))

-- n slots, then m more of the same job, are n + m
pub joined_joined : (n m s : ℕ) (k : JobName) (rs : List Run) → joined n s k (joined m (s + n) k rs) ≡ joined (n + m) s k rs
unfolding joined
joined_joined n m s k [] = joined_on n s k m []
joined_joined n m s k (r ∷ rs) = rw (add_assoc s n m) (go (follows k (s + (n + m)) r))
  where
    go : (b : Bool) → joined n s k (cond b (run k (s + n) (m + r.length) ∷ rs) (run k (s + n) m ∷ r ∷ rs))
        ≡ cond b (run k s (n + m + r.length) ∷ rs) (run k s (n + m) ∷ r ∷ rs)
    go true = rw (add_assoc n m r.length) (joined_on n s k (m + r.length) rs)
    go false = joined_on n s k m (r ∷ rs)

-- n slots before others that do not go on from them
pub joined_apart : (n s : ℕ) (k : JobName) (m t : ℕ) (i : JobName) (rs : List Run) → follows k (s + n) (run i t m) ≡ false
    → joined n s k (joined m t i rs) ≡ run k s n ∷ joined m t i rs
unfolding joined
joined_apart n s k m t i [] h = rw h
joined_apart n s k m t i (r ∷ rs) h = go (follows i (t + m) r)
  where
    go : (b : Bool) → let q = cond b (run i t (m + r.length) ∷ rs) (run i t m ∷ r ∷ rs) in joined n s k q ≡ run k s n ∷ q
    go true = rw h
    go false = rw h

-- one slot
prepend_joined : (s : ℕ) (k : JobName) (rs : List Run) → prepend s (some k) rs ≡ joined 1 s k rs
unfolding prepend joined
prepend_joined s k [] = refl
prepend_joined s k (r ∷ rs) =
    ap₂ (λ x y. cond (follows k x r) (run k s y ∷ rs) (run k s 1 ∷ r ∷ rs)) (sym (add-one s)) (sym (one-add r.length))

pub runs_joined : (n s : ℕ) (k : JobName) (cs : List Slot) → 1 ≤ n
    → runs_from s (replicate n (some k) ++ cs) ≡ joined n s k (runs_from (s + n) cs)
unfolding runs_from
runs_joined zero s k cs h = absurd (omega arith)
runs_joined (suc zero) s k cs h = prepend_joined s k (runs_from (suc s) cs) ∙ ap (λ x. joined 1 s k (runs_from x cs)) (sym (add-one s))
runs_joined (suc (suc n)) s k cs h =
    let t : suc s + suc n ≡ s + suc (suc n) = omega arith in
    let rs : List Run = runs_from (suc s + suc n) cs in
    ap (prepend s (some k)) (runs_joined (suc n) (suc s) k cs (omega arith))
    ∙ prepend_joined s k (joined (suc n) (suc s) k rs)
    ∙ ap (λ x. joined 1 s k (joined (suc n) x k rs)) (sym (add-one s))
    ∙ joined_joined 1 (suc n) s k rs
    ∙ ap₂ (λ x y. joined x s k (runs_from y cs)) (one-add (suc n)) t

pub runs_idle : (n s : ℕ) (cs : List Slot) → runs_from s (replicate n none ++ cs) ≡ runs_from (s + n) cs
unfolding runs_from prepend
runs_idle zero s cs = rw (add-zero s)
runs_idle (suc n) s cs = let t : suc s + n ≡ s + suc n = omega arith in runs_idle n (suc s) cs ∙ rw t
