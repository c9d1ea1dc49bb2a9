-- The entries at the places of an order, one for each place that it lists; and these with free entries behind them, as rows, and loops that
-- fill an array by them. Assumes nothing.
use Rattle.std.specs.Prelude.{◌≡◌, refl, List, ◌++◌, map, ℕ, ◌+◌, ◌-◌, ◌≤◌, ◌<◌, length, take, set, get_or, replicate}
use Rattle.std.proofs.Common.{sym, ap, subst, subst₂, ◌∙◌, arith, length-append, get_or-take, length-take-le}
use Rattle.std.proofs.lemmas.List.{length-map, length-replicate}
use Rattle.std.proofs.Math.ListN.{get_or-append}
use Rattle.std.proofs.Math.Seq.{drop-append_seam}
use Rattle.spec_lists.specs.All.{All}
use Rattle.base_lists.specs.All.{all_at, all_replicate}
use Rattle.base_lists.specs.Loops.{map_at}
use Rattle.base_lists.specs.Spare.{Spare, spare_map, begun, begun_more, begun_all}
use Rattle.spec_model.specs.Entries.{free_entry}
use Rattle.spec_model.specs.declared.Entry.{Entry}
use Rattle.spec_model.specs.declared.Table.{Table}
use Rattle.spec_model.specs.Tables.{places}
use Rattle.beacon_order.specs.Filled.{filled, filled_behind}
use Rattle.beacon_order.specs.declared.Order.{Order}

abbrev pub entry_at : Table → ℕ → Entry
entry_at t p = get_or t.entries p free_entry

abbrev pub found : Table → Order → List Entry
found t o = map (entry_at t) (take o.count o.places)

-- with free entries behind them
abbrev pub rows_in : Table → Order → List Entry
rows_in t o = filled (found t o)

-- an order of places that a table has
pub record Listed (o : Order) : Type 0 where
  pub few : o.count ≤ places
  pub room : o.count ≤ length o.places
  pub each : All (λ p. p < places) (take o.count o.places)

module _ (t : Table) (o : Order) (w : Listed o) where
  abbrev listed_places : List ℕ
  listed_places = take o.count o.places

  abbrev at_places : List Entry
  at_places = found t o

  size : length listed_places ≡ o.count
  size = length-take-le o.count o.places w.room

  found_size : length at_places ≡ o.count
  found_size = length-map listed_places (entry_at t) ∙ size

  behind : rows_in t o ≡ at_places ++ replicate (places - length at_places) free_entry
  behind = filled_behind at_places (omega (arith, found_size, w.few))

  -- the place that row k reads, and what stands there
  pub place_inside : (k : ℕ) → k < o.count → get_or o.places k 0 < places
  place_inside k h =
      subst (λ p. p < places) (get_or-take o.count o.places k 0 h)
      (all_at (λ p. p < places) listed_places 0 w.each k (omega (arith, size)))

  row_at : (k : ℕ) → k < o.count → get_or (rows_in t o) k free_entry ≡ entry_at t (get_or o.places k 0)
  row_at k h =
      ap (λ l. get_or l k free_entry) behind
      ∙ get_or-append at_places _ free_entry k (omega (arith, found_size))
      ∙ map_at (entry_at t) listed_places k 0 free_entry (omega (arith, size))
      ∙ ap (entry_at t) (get_or-take o.count o.places k 0 h)

  row_length : length (rows_in t o) ≡ places
  row_length =
      ap length behind
      ∙ length-append at_places (replicate (places - length at_places) free_entry)
      ∙ omega (arith, length-replicate (places - length at_places) free_entry, found_size, w.few)

  row_spare : Spare free_entry o.count (rows_in t o)
  row_spare =
      subst₂ (λ n l. Spare free_entry n l) found_size (sym behind)
      (rw (drop-append_seam at_places (replicate (places - length at_places) free_entry))
      (all_replicate (λ e. e ≡ free_entry) (places - length at_places) free_entry refl))

  -- ---- a loop that fills an array by the rows
  module _ {B : Type 0} (f : Entry → B) where
    pub rows_size : length (map f (rows_in t o)) ≡ places
    rows_size = length-map (rows_in t o) f ∙ row_length

    pub rows_more : {v : B} {ys : List B} (k : ℕ) → k < o.count → ys ≡ begun (f free_entry) places k (map f (rows_in t o))
        → v ≡ f (entry_at t (get_or o.places k 0)) → set ys k v ≡ begun (f free_entry) places (k + 1) (map f (rows_in t o))
    rows_more k h p q =
        begun_more (f free_entry) places k (map f (rows_in t o)) (f free_entry) rows_size (omega (arith, w.few)) p
        (q ∙ ap f (sym (row_at k h)) ∙ sym (map_at f (rows_in t o) k free_entry (f free_entry) (omega (arith, row_length, w.few))))

    pub rows_spare : Spare (f free_entry) o.count (map f (rows_in t o))
    rows_spare = spare_map free_entry f o.count (rows_in t o) row_spare

    pub rows_all : {ys : List B} (k : ℕ) → k ≤ o.count → o.count ≤ k → ys ≡ begun (f free_entry) places k (map f (rows_in t o))
        → ys ≡ map f (rows_in t o)
    rows_all k h l p =
        let e : o.count ≡ k = omega arith in
        p
        ∙ begun_all (f free_entry) places k (map f (rows_in t o)) rows_size
        (subst (λ n. Spare (f free_entry) n (map f (rows_in t o))) e rows_spare)
