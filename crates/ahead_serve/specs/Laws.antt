-- Laws of serving: where the place of the lowest rank is served first, the rest of the slots leaves what all of them leave; and what is
-- served or paid can be served and paid again. Assumes nothing.
use Rattle.std.specs.Prelude.{◌≡◌, refl, Bool, true, false, cond, List, [], ◌∷◌, ℕ, zero, suc, ◌+◌, ◌-◌, ◌≤◌, ◌<◌, min, eqb, ltb, length, get_or, set}
use Rattle.std.proofs.Common.{sym, ap, subst, ◌∙◌, zero-le, not-suc-le-zero, le_of_suc-le-suc, le_refl, arith, length-set, ext_get_or, get_or-set_same, get_or-set_other, lt-ltb, le-ltb}
use Rattle.std.proofs.Math.Nat.{sub-zero}
use Rattle.std.proofs.Math.Numerals.{lt_of_le_of_ne}
use Rattle.std.proofs.Math.Decide.{ℕ_discrete}
use Rattle.spec_lists.specs.All.{stop, and}
use Rattle.base_lists.specs.Tests.{cond_zero}
use Rattle.base_lists.specs.Spare.{Spare, spare_end}
use Rattle.spec_model.specs.Tables.{places}
use Rattle.table_queue.specs.Zips.{zip, length_zip, zip_at}
use Rattle.table_queue.specs.Queues.{owed_below, piece_of}
use Rattle.ahead_serve.specs.Serving.{left_of, unpaid, Owing, Ranked, First}

-- ---- less at each place
set_less : (k v : ℕ) (owed : List ℕ) → v ≤ get_or owed k 0 → (i : ℕ) → get_or (set owed k v) i 0 ≤ get_or owed i 0
set_less k v [] h i = zero-le
set_less zero v (o ∷ owed) h zero = h
set_less zero v (o ∷ owed) h (suc i) = le_refl (get_or owed i 0)
set_less (suc k) v (o ∷ owed) h zero = le_refl o
set_less (suc k) v (o ∷ owed) h (suc i) = set_less k v owed h i

zip_less : (f : ℕ → ℕ → ℕ) → ((k o : ℕ) → f k o ≤ o) → (keys owed : List ℕ) (i : ℕ) → get_or (zip f keys owed) i 0 ≤ get_or owed i 0
unfolding zip
zip_less f l [] owed i = zero-le
zip_less f l (k ∷ keys) [] i = zero-le
zip_less f l (k ∷ keys) (o ∷ owed) zero = l k o
zip_less f l (k ∷ keys) (o ∷ owed) (suc i) = zip_less f l keys owed i

pub unpaid_less : (at : ℕ) (ends owed : List ℕ) (i : ℕ) → get_or (unpaid at ends owed) i 0 ≤ get_or owed i 0
unpaid_less at ends owed = zip_less (λ e o. cond (eqb e at) 0 o) (λ e o. go (eqb e at) o) ends owed
  where
    go : (b : Bool) (o : ℕ) → cond b 0 o ≤ o
    go true o = zero-le
    go false o = le_refl o

spare_less : (n : ℕ) (owed less : List ℕ) → ((i : ℕ) → get_or less i 0 ≤ get_or owed i 0) → Spare 0 n owed → Spare 0 n less
spare_less zero owed [] l h = stop
spare_less zero [] (x ∷ less) l h = and {x = x} (omega (arith, l 0)) (spare_less zero [] less (λ i. l (suc i)) h)
spare_less zero (o ∷ owed) (x ∷ less) l (and e h) = and {x = x} (omega (arith, l 0)) (spare_less zero owed less (λ i. l (suc i)) h)
spare_less (suc n) owed [] l h = stop
spare_less (suc n) [] (x ∷ less) l h = spare_less n [] less (λ i. l (suc i)) (spare_end 0 n [] zero-le)
spare_less (suc n) (o ∷ owed) (x ∷ less) l h = spare_less n owed less (λ i. l (suc i)) h

module _ {keys owed : List ℕ} {used : ℕ} (less : List ℕ) (s : length less ≡ places) (l : (i : ℕ) → get_or less i 0 ≤ get_or owed i 0) where
  owing_less : Owing keys owed used → Owing keys less used
  owing_less w = record { keyed = w.keyed; room = s; short = w.short; spare = spare_less used owed less l w.spare }

  pub ranked_less : Ranked keys owed used → Ranked keys less used
  ranked_less w =
      record {
        owing = owing_less w.owing;
        apart = λ i j p q. w.apart i j (omega (arith, l i)) (omega (arith, l j));
        small = w.small;
      }

-- ---- what stays owed at a place: all that the slots left over by lower ranks do not reach
abbrev stays : (c : ℕ) (ranks owed : List ℕ) (i : ℕ) → ℕ
stays c ranks owed i = get_or owed i 0 - (c - owed_below (get_or ranks i 0) ranks owed)

less_min : (o d : ℕ) → o - min o d ≡ o - d
less_min o d = omega arith

module _ (c : ℕ) {ranks owed : List ℕ} {used : ℕ} (w : Owing ranks owed used) where
  pub length_left : length (left_of c ranks owed) ≡ places
  length_left = omega (arith, length_zip (λ k o. o - piece_of c ranks owed k o) ranks owed, w.keyed, w.room)

  left_at : (i : ℕ) → i < places → get_or (left_of c ranks owed) i 0 ≡ stays c ranks owed i
  left_at i h =
      zip_at (λ k o. o - piece_of c ranks owed k o) ranks owed i 0 0 0 (omega (arith, w.keyed)) (omega (arith, w.room))
      ∙ less_min (get_or owed i 0) (c - owed_below (get_or ranks i 0) ranks owed)

  left_same : ((i : ℕ) → stays c ranks owed i ≡ get_or owed i 0) → owed ≡ left_of c ranks owed
  left_same h =
      ext_get_or 0 owed (left_of c ranks owed) (w.room ∙ sym length_left)
      (λ i l. sym (left_at i (omega (arith, w.room)) ∙ h i))

  -- there are no slots, or nobody is owed anything
  pub left_none : c ≡ 0 → owed ≡ left_of c ranks owed
  left_none e = left_same (λ i. omega arith)

  pub left_nobody : {k : ℕ} → First ranks owed k → places ≤ k → owed ≡ left_of c ranks owed
  left_nobody {k} f h = left_same (λ i. go (get_or owed i 0) (c - owed_below (get_or ranks i 0) ranks owed) (λ p. (f.least i p).0))
    where
      go : (o d : ℕ) → (0 < o → k < places) → o - d ≡ o
      go zero d l = omega arith
      go (suc o) d l = absurd (omega (arith, l (omega arith)))

pub length_unpaid : (at : ℕ) {ends owed : List ℕ} {used : ℕ} → Owing ends owed used → length (unpaid at ends owed) ≡ places
length_unpaid at {ends} {owed} w = omega (arith, length_zip (λ e o. cond (eqb e at) 0 o) ends owed, w.keyed, w.room)

-- ---- what is owed at lower ranks than r: nothing, where r is the lowest that is owed something
below_none : (r : ℕ) (ranks owed : List ℕ) → ((i : ℕ) → 0 < get_or owed i 0 → r ≤ get_or ranks i 0) → owed_below r ranks owed ≡ 0
unfolding zip
below_none r [] owed h = refl
below_none r (k ∷ ranks) [] h = refl
below_none r (k ∷ ranks) (zero ∷ owed) h = omega (arith, cond_zero (ltb k r), below_none r ranks owed (λ i. h (suc i)))
below_none r (k ∷ ranks) (suc o ∷ owed) h =
    rw (le-ltb k r (h 0 (omega arith))) (omega (arith, below_none r ranks owed (λ i. h (suc i))))

-- less at place k is so much less below each higher rank
below_set : (r k v : ℕ) (ranks owed : List ℕ) → k < length ranks → k < length owed → v ≤ get_or owed k 0
    → owed_below r ranks (set owed k v) + cond (ltb (get_or ranks k 0) r) (get_or owed k 0 - v) 0 ≡ owed_below r ranks owed
unfolding zip
below_set r k v [] owed h l m = absurd (not-suc-le-zero h)
below_set r k v (x ∷ ranks) [] h l m = absurd (not-suc-le-zero l)
below_set r zero v (x ∷ ranks) (o ∷ owed) h l m = go (ltb x r)
  where
    go : (b : Bool) → cond b v 0 + owed_below r ranks owed + cond b (o - v) 0 ≡ cond b o 0 + owed_below r ranks owed
    go true = omega arith
    go false = omega arith
below_set r (suc k) v (x ∷ ranks) (o ∷ owed) h l m =
    omega (arith, below_set r k v ranks owed (le_of_suc-le-suc h) (le_of_suc-le-suc l) m)

own_left : (o c x : ℕ) → x ≡ min o c → o - x - (c - x) ≡ o - c
own_left o c x e = omega arith

-- ---- of c slots the place of the lowest rank gets its piece x
module _ {ranks owed : List ℕ} {used k x : ℕ} (c : ℕ) (w : Ranked ranks owed used) (f : First ranks owed k) (h : k < places)
    (e : x ≡ min (get_or owed k 0) c) where
  abbrev own : ℕ
  own = get_or owed k 0

  abbrev served : List ℕ
  served = set owed k (own - x)

  pub served_ranked : Ranked ranks served used
  served_ranked = ranked_less served (length-set owed k (own - x) ∙ w.owing.room) (set_less k (own - x) owed (omega arith)) w

  below_first : owed_below (get_or ranks k 0) ranks owed ≡ 0
  below_first = below_none (get_or ranks k 0) ranks owed (λ i p. (f.least i p).1)

  below_served : (r : ℕ) → owed_below r ranks served + cond (ltb (get_or ranks k 0) r) (own - (own - x)) 0 ≡ owed_below r ranks owed
  below_served r = below_set r k (own - x) ranks owed (omega (arith, w.owing.keyed)) (omega (arith, w.owing.room)) (omega arith)

  stays_own : stays (c - x) ranks served k ≡ stays c ranks owed k
  stays_own =
      let none : owed_below (get_or ranks k 0) ranks served ≡ 0 = omega (arith, below_first, below_served (get_or ranks k 0)) in
      rw (get_or-set_same owed k (own - x) 0 (omega (arith, w.owing.room)), none, below_first, sub-zero (c - x), sub-zero c)
      (own_left own c x e)

  -- every other that is owed something has a higher rank, below which x less is owed
  stays_other : (i : ℕ) → (i ≡ k → ⊥) → stays (c - x) ranks served i ≡ stays c ranks owed i
  stays_other i n =
      rw (get_or-set_other owed k i (own - x) 0 n) (go (get_or owed i 0) (λ p. (f.least i p).1) (λ p. w.apart k i (f.some h) p))
    where
      go : (o : ℕ) → (0 < o → get_or ranks k 0 ≤ get_or ranks i 0) → (0 < o → get_or ranks k 0 ≡ get_or ranks i 0 → k ≡ i)
          → o - ((c - x) - owed_below (get_or ranks i 0) ranks served) ≡ o - (c - owed_below (get_or ranks i 0) ranks owed)
      go zero l m = omega arith
      go (suc o) l m =
          let higher : get_or ranks k 0 < get_or ranks i 0 = lt_of_le_of_ne (l (omega arith)) (λ q. n (sym (m (omega arith) q))) in
          ap (λ d. suc o - d) (omega (arith, rw (lt-ltb (get_or ranks k 0) (get_or ranks i 0) higher) at (below_served (get_or ranks i 0))))

  pub served_left : left_of (c - x) ranks served ≡ left_of c ranks owed
  served_left = ext_get_or 0 _ _ (size ∙ sym (length_left c w.owing)) (λ i l. each i (omega (arith, size)))
    where
      size : length (left_of (c - x) ranks served) ≡ places
      size = length_left (c - x) served_ranked.owing

      same : (i : ℕ) → stays (c - x) ranks served i ≡ stays c ranks owed i
      same i =
          elim (ℕ_discrete i k) [
            | yes q ↦ subst (λ j. stays (c - x) ranks served j ≡ stays c ranks owed j) (sym q) stays_own
            | no n ↦ stays_other i n
          ]

      each : (i : ℕ) → i < places → get_or (left_of (c - x) ranks served) i 0 ≡ get_or (left_of c ranks owed) i 0
      each i l = left_at (c - x) served_ranked.owing i l ∙ same i ∙ sym (left_at c w.owing i l)
