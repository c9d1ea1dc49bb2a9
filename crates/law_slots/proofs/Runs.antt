-- Step E: the records are the longest runs of slots of one job, all of them and no others, by start; so every slot is
-- given as often as step D gave it, and none twice.
-- Assumes nothing.
use Rattle.std.specs.Prelude.{◌≡◌, ◌⊎◌, ◌≢◌, Bool, false, ◌&&◌, ℕ, suc, ◌+◌, ◌-◌, ◌≤◌, ◌<◌, leb, ltb, length, get_or}
use Rattle.std.proofs.Math.Path.{refl}
use Rattle.std.proofs.Common.{sym, ap, ◌∙◌, inl, inr, zero-le, le_refl, arith, le-leb, lt-ltb, le-ltb}
use Rattle.std.proofs.Math.Bool.{true}
use mathlib.Core.List.{List, [], ◌∷◌, map, Memᴰ}
use Rattle.std.proofs.Math.Option.{none, some, some-injective}
use Rattle.std.proofs.Math.Decide.{dec_le}
use Rattle.std.proofs.lemmas.Bool.{lt-leb}
use Rattle.std.proofs.Math.ListN.{get_or-eq_default}
use Rattle.spec_lists.specs.Lists.{one_if}
use Rattle.spec_lists.specs.All.{All, stop, and}
use Rattle.base_lists.specs.Tests.{both_and, and_false}
use Rattle.base_lists.specs.All.{head, all_map}
use Rattle.base_lists.specs.Sums.{sum_zero}
use Rattle.spec_rules.specs.Slots.{JobName, Slot, Run, runs_from, gives}
use Rattle.spec_rules.specs.Reading.{rises}
use Rattle.law_slots.specs.Choice.{wins}
use Rattle.law_slots.proofs.Choice.{wins_most}
use Rattle.law_slots.specs.Cuts.{name_in, slot, Cuts, over, skip, cut}
use Rattle.law_slots.proofs.Cuts.{no_job, same_slot, cuts_from, cuts_all}
use Rattle.law_slots.specs.Runs.{covers, IsRun}

-- ---- a record and a slot
in_run : (r : Run) (x : ℕ) → r.start ≤ x → x < r.start + r.length → gives r x ≡ true
in_run r x h k = both_and _ _ (le-leb r.start x h) (lt-ltb x _ (omega arith))

off_run : (r : Run) (x : ℕ) → (x < r.start) ⊎ (r.start + r.length ≤ x) → gives r x ≡ false
off_run r x (inl h) = rw (lt-leb r.start x h)
off_run r x (inr h) = ap (λ b. leb r.start x && b) (le-ltb x _ (omega arith)) ∙ and_false (leb r.start x)

first_slot : {cs : List Slot} {r : Run} → IsRun cs r → get_or cs r.start none ≡ some (name_in r)
first_slot {r = r} v = v.all r.start (le_refl r.start) (omega (arith, v.one))

module _ (cs : List Slot) where
  -- ---- what each slot is given
  -- none of the runs gives a slot before the first
  cover_none : (p : JobName → Bool) (x : ℕ) {s : ℕ} {rs : List Run} → Cuts cs s rs → x < s → covers p x rs ≡ 0
  cover_none p x w h =
      sum_zero (λ r. one_if (gives r x && p (name_in r)))
      (all_map (λ r e. ap (λ b. one_if (b && p (name_in r))) (off_run r x (inl (omega arith)))) (cuts_from cs w))

  -- By the runs: the slot is idle; or one of the first run's, and then of no later one; or it lies beyond.
  cover : (p : JobName → Bool) (x : ℕ) {s : ℕ} {rs : List Run} → Cuts cs s rs → s ≤ x → covers p x rs ≡ wins p (slot cs x)
  cover p x (over h) l = ap (wins p) (sym (h x l))
  cover p x (skip {s = s} e w) l =
      elim (dec_le (suc s) x) [
        | yes q ↦ cover p x w q
        | no q ↦ cover_none p x w (omega arith) ∙ ap (wins p) (sym (same_slot cs x s (omega arith) e))
      ]
  cover p x (cut {r = r} e m a z w) l =
      elim (dec_le (r.start + r.length) x) [
        | yes q ↦ omega (arith, cover p x w q, ap (λ b. one_if (b && p (name_in r))) (off_run r x (inr q)))
        | no q ↦ omega (
          arith,
          cover_none p x w (omega arith),
          ap (λ b. one_if (b && p (name_in r))) (in_run r x (omega arith) (omega arith)),
          ap (wins p) (a x (omega arith) (omega arith)),
        )
      ]

  -- ---- every record is a longest run, every longest run a record
  -- By the runs; the slot before s is not of the job that has s.
  cuts_are : {s : ℕ} {rs : List Run} → Cuts cs s rs → ((x : ℕ) (k : JobName) → s ≡ suc x → slot cs x ≡ some k → slot cs s ≢ some k)
      → All (IsRun cs) rs
  cuts_are (over h) f = stop
  cuts_are (skip {s = s} e w) f = cuts_are w (λ x k q h z. no_job e (same_slot cs s x (omega arith) h))
  cuts_are (cut {s = s} {r = r} e m a z w) f =
      and (record { one = m; all = a; before = starts; after = z }) (cuts_are w ends)
    where
      starts : (x : ℕ) → r.start ≡ suc x → slot cs x ≢ some (name_in r)
      starts x q h = f x (name_in r) (omega arith) h (a s (omega arith) (omega arith))

      ends : (x : ℕ) (k : JobName) → r.start + r.length ≡ suc x → slot cs x ≡ some k → slot cs (r.start + r.length) ≢ some k
      ends x k q h y = z (y ∙ sym h ∙ a x (omega arith) (omega arith))

  -- By the runs. A longest run starts beyond the first one, and is one of the others; or where the first one does, and is that one.
  -- It cannot start within it, as the slot before it would be the same job's; and it ends where the first one does.
  cuts_hold : {s : ℕ} {rs : List Run} (r : Run) → IsRun cs r → s ≤ r.start → Cuts cs s rs → Memᴰ r rs
  cuts_hold r v l (over h) = absurd (no_job (h r.start l) (first_slot v))
  cuts_hold r v l (skip {s = s} e w) =
      elim (dec_le (suc s) r.start) [
        | yes y ↦ cuts_hold r v y w
        | no y ↦ absurd (no_job e (same_slot cs s r.start (omega arith) (first_slot v)))
      ]
  cuts_hold r v l (cut {r = q} e m a z w) =
      elim (dec_le (q.start + q.length) r.start) [
        | yes y ↦ Memᴰ.tail (cuts_hold r v y w)
        | no y ↦ Memᴰ.head (same (omega arith))
      ]
    where
      same : r.start < q.start + q.length → r ≡ q
      same y =
          let n : name_in r ≡ name_in q =
          some-injective (name_in r) (name_in q) (sym (first_slot v) ∙ a r.start (omega arith) y) in
          let b : r.start ≡ q.start =
          elim (dec_le r.start q.start) [
            | yes h ↦ omega arith
            | no h ↦ absurd (v.before (r.start - 1) (omega arith) (a (r.start - 1) (omega arith) (omega arith) ∙ ap some (sym n)))
          ] in
          let c : r.length ≤ q.length =
          elim (dec_le r.length q.length) [
            | yes h ↦ h
            | no h ↦ absurd (z (v.all (q.start + q.length) (omega arith) (omega arith) ∙ ap some n))
          ] in
          let d : q.length ≤ r.length =
          elim (dec_le q.length r.length) [
            | yes h ↦ h
            | no h ↦ absurd (v.after (a (r.start + r.length) (omega arith) (omega arith) ∙ ap some (sym n)))
          ] in
          let f : r.length ≡ q.length = omega arith in
          λ i. record { name = (n i).name; job = (n i).number; start = b i; length = f i }

  -- ---- by start
  cuts_rise : {s : ℕ} {rs : List Run} → Cuts cs s rs → rises (map (λ r. r.start) rs) ≡ true
  unfolding rises
  cuts_rise (over h) = refl
  cuts_rise (skip e w) = cuts_rise w
  cuts_rise (cut {r = r} {rs = rs} e m a z w) = go rs (cuts_from cs w) (cuts_rise w)
    where
      go : (qs : List Run) → All (λ q. r.start + r.length ≤ q.start) qs → rises (map (λ q. q.start) qs) ≡ true
          → rises (map (λ q. q.start) (r ∷ qs)) ≡ true
      go [] h k = refl
      go (q ∷ qs) h k = both_and (ltb r.start q.start) (rises (map (λ x. x.start) (q ∷ qs)))
          (lt-ltb r.start q.start (omega (arith, head h))) k

-- ---- the records of the slots cs
-- how many records give slot x to a job that passes: one where the slot is such a job's, else none
pub runs_cover : (p : JobName → Bool) (x : ℕ) (cs : List Slot) → covers p x (runs_from 0 cs) ≡ wins p (get_or cs x none)
runs_cover p x cs = cover cs p x (cuts_all cs) zero-le

-- no slot is given twice
pub runs_once : (p : JobName → Bool) (x : ℕ) (cs : List Slot) → covers p x (runs_from 0 cs) ≤ 1
runs_once p x cs = omega (arith, runs_cover p x cs, wins_most p (get_or cs x none))

-- every record is a longest run
pub runs_are : (cs : List Slot) → All (IsRun cs) (runs_from 0 cs)
runs_are cs = cuts_are cs (cuts_all cs) (λ x k e. absurd (omega arith))

-- every longest run is a record
pub all_runs : (cs : List Slot) (r : Run) → IsRun cs r → Memᴰ r (runs_from 0 cs)
all_runs cs r v = cuts_hold cs r v zero-le (cuts_all cs)

-- by start
pub runs_rise : (cs : List Slot) → rises (map (λ r. r.start) (runs_from 0 cs)) ≡ true
runs_rise cs = cuts_rise cs (cuts_all cs)

-- no record reaches beyond the slots
pub runs_end : (cs : List Slot) → All (λ r. r.start + r.length ≤ length cs) (runs_from 0 cs)
runs_end cs = all_map ends (runs_are cs)
  where
    ends : (r : Run) → IsRun cs r → r.start + r.length ≤ length cs
    ends r v =
        let m : 1 ≤ r.length = v.one in
        elim (dec_le (r.start + r.length) (length cs)) [
          | yes h ↦ h
          | no h ↦ absurd
              (no_job (get_or-eq_default cs none (omega arith)) (v.all (r.start + r.length - 1) (omega arith) (omega arith)))
        ]

-- what holds of the name in every slot holds of the name in every record
pub runs_named : (P : JobName → Type 0) (cs : List Slot) → ((x : ℕ) (k : JobName) → get_or cs x none ≡ some k → P k)
    → All (λ r. P (name_in r)) (runs_from 0 cs)
runs_named P cs h = all_map (λ r v. h r.start (name_in r) (first_slot v)) (runs_are cs)
