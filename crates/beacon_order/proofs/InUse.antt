-- The places that are in use, the first of all, are in order by their own ranks. Assumes nothing.
use Rattle.std.specs.Prelude.{◌≡◌, List, ℕ, ◌+◌, ◌≤◌, ◌<◌, not, eqb, leb, length, take}
use Rattle.std.proofs.Common.{sym, ap, ap₂, ◌∙◌, arith, length-take}
use Rattle.std.proofs.lemmas.List.{take-map, get_or-take}
use Rattle.spec_lists.specs.Lists.{sort}
use Rattle.spec_lists.specs.All.{All, stop, and}
use Rattle.base_lists.specs.All.{all_map}
use Rattle.table_queue.specs.declared.Claim.{Claim}
use Rattle.table_queue.specs.Claims.{ranks_in}
use Rattle.beacon_order.specs.Sorts.{Pairs, end, with, pairs_map, sort_ext, keep_ext}
use Rattle.beacon_order.specs.Listed.{taken_from, is_taken, by_rank, listed, padded, order_of}
use Rattle.beacon_order.specs.Keys.{places_within, taken_within}

pairs_both : {P : ℕ → Type 0} {xs : List ℕ} → All P xs → Pairs (λ x y. P x × P y) xs
pairs_both stop = end
pairs_both (and {x = x} p h) = with {x = x} (all_map (λ y q. (p, q)) h) (pairs_both h)

module _ (ranks : List ℕ) (n : ℕ) where
  kept : taken_from (take n ranks) n 0 ≡ taken_from ranks n 0
  kept =
      keep_ext (is_taken (take n ranks)) (is_taken ranks)
      (all_map (λ i h. ap (λ k. not (eqb k 0)) (get_or-take n ranks i 0 (omega (arith, h.1)))) (places_within n 0))

  alike : (i j : ℕ) → (i < 0 + n) × (j < 0 + n) → by_rank (take n ranks) i j ≡ by_rank ranks i j
  alike i j h = ap₂ leb (get_or-take n ranks i 0 (omega (arith, h.0))) (get_or-take n ranks j 0 (omega (arith, h.1)))

  listed_front : listed (take n ranks) n ≡ listed ranks n
  unfolding listed
  listed_front =
      ap (sort (by_rank (take n ranks))) kept
      ∙ sort_ext (by_rank (take n ranks)) (by_rank ranks) (pairs_map alike (pairs_both (taken_within ranks n 0)))

pub order_used : (cs : List Claim) (n : ℕ) → n ≤ length cs → order_of (ranks_in (take n cs)) (length (take n cs)) ≡ order_of (ranks_in cs) n
order_used cs n h =
    let e : length (take n cs) ≡ n = omega (arith, length-take n cs) in
    ap₂ order_of (sym (take-map (λ (c : Claim). c.rank) n cs)) e
    ∙ ap (λ ps. record { places = padded ps; count = length ps }) (listed_front (ranks_in cs) n)
