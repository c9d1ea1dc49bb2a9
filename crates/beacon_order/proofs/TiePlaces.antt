-- The places of a tidy table by the ranks of its entries: what they hold is the table's held entries in the order of the tie rules.
-- Assumes nothing.
use Rattle.std.specs.Prelude.{◌≡◌, refl, ◌⊎◌, Bool, not, List, [], ◌∷◌, map, ℕ, zero, suc, ◌+◌, ◌≤◌, ◌<◌, eqb, length, get_or, take, drop}
use Rattle.std.proofs.Common.{sym, ◌∙◌, inl, inr, zero-le, arith, take-append-drop, drop-cons, ne_eqb}
use Rattle.std.proofs.Math.Path.{ap, ap₂}
use Rattle.std.proofs.Math.Dec.{leb}
use Rattle.std.proofs.lemmas.List.{length-map}
use Rattle.std.proofs.Math.ListN.{get_or-map}
use Rattle.spec_lists.specs.Lists.{keep, sort}
use Rattle.spec_lists.specs.All.{All}
use Rattle.base_lists.specs.All.{head, tail, all_map, all_zip, all_of, all_of_map}
use Rattle.spec_model.specs.Entries.{free_entry, is_held}
use Rattle.spec_model.specs.Tables.{places, held_of}
use Rattle.spec_model.specs.declared.Frame.{Frame}
use Rattle.spec_model.specs.declared.Entry.{Entry}
use Rattle.spec_model.specs.declared.Table.{Table}
use Rattle.spec_rules.specs.Slots.{tie_order}
use Rattle.spec_rules.specs.WellFormed.{Held, Once, Tidy}
use Rattle.law_model.specs.Names.{rank_some}
use Rattle.law_steps.proofs.Held.{held_is}
use Rattle.law_steps.proofs.Grants.{once_tail, once_apart}
use Rattle.law_steps.proofs.Places.{tidy_held}
use Rattle.law_steps.specs.Ranks.{rank, rank_most}
use Rattle.law_steps.proofs.Ranks.{held_rank, rank_free}
use Rattle.beacon_order.specs.Ties.{ties}
use Rattle.beacon_order.proofs.Ties.{sort_ties, ties_le}
use Rattle.beacon_order.specs.Sorts.{Pairs, end, with, pairs_of, sort_ext, sort_map, keep_ext, keep_front, keep_map}
use Rattle.beacon_order.specs.Listed.{places_from, is_taken, taken_from, by_rank, listed}
use Rattle.beacon_order.specs.Keys.{listed_within}

-- the ranks order the held entries
abbrev rank_le : Entry → Entry → Bool
rank_le e f = leb (rank e) (rank f)

abbrev is_ranked : Entry → Bool
is_ranked e = not (eqb (rank e) 0)

once_ties : {F : Frame} (es : List Entry) → All (Held F) es → Once es → Pairs (λ e f. rank_le e f ≡ ties e f) es
once_ties [] h w = end
once_ties (e ∷ es) h w =
    with (all_zip (λ f k n. ties_le (head h) k n) (tail h) (once_apart e es w)) (once_ties es (tail h) (once_tail e es w))

-- what n places from place i on hold
at_places : (es : List Entry) (n i : ℕ) → i + n ≤ length es → map (λ p. get_or es p free_entry) (places_from n i) ≡ take n (drop i es)
at_places es zero i h = refl
at_places es (suc n) i h =
    rw (drop-cons es i free_entry (omega arith)) (ap (λ l. get_or es i free_entry ∷ l) (at_places es n (suc i) (omega arith)))

module _ (t : Table) (w : Tidy t) where
  abbrev es : List Entry
  es = t.entries

  abbrev ranks : List ℕ
  ranks = map rank es

  abbrev at : ℕ → Entry
  at p = get_or es p free_entry

  rank_at : (p : ℕ) → get_or ranks p 0 ≡ rank (at p)
  rank_at p = ap (get_or ranks p) (sym rank_free) ∙ get_or-map rank es p free_entry

  -- a free place has rank 0, and a held entry has not
  ranked_held : All (λ e. is_ranked e ≡ is_held e) es
  ranked_held = all_map one w.entries
    where
      one : (e : Entry) → (e ≡ free_entry) ⊎ Held t.frame e → is_ranked e ≡ is_held e
      one e (inl q) = rw (q, rank_free)
      one e (inr h) = ap not (ne_eqb (rank e) 0 (λ z. omega (arith, rank_some e.name h.name))) ∙ sym (held_is h)

  pub ranks_most : All (λ k. k ≤ rank_most) ranks
  ranks_most = all_of_map rank (all_map one w.entries)
    where
      one : (e : Entry) → (e ≡ free_entry) ⊎ Held t.frame e → rank e ≤ rank_most
      one e (inl q) = rw (q, rank_free) zero-le
      one e (inr h) = held_rank h

  -- n is how many places are looked at: those behind them are free
  module _ (n : ℕ) (l : n ≤ places) (z : All (λ e. e ≡ free_entry) (drop n es)) where
    taken_held : map at (taken_from ranks n 0) ≡ held_of t
    taken_held =
        ap (map at) (keep_ext (is_taken ranks) (λ p. is_ranked (at p)) (all_of (places_from n 0) (λ p. ap (λ r. not (eqb r 0)) (rank_at p))))
        ∙ keep_map at is_ranked (places_from n 0)
        ∙ ap (keep is_ranked) (at_places es n 0 (omega (arith, w.size)))
        ∙ sym (keep_front is_ranked (take n es) (all_map (λ e q. ap is_ranked q ∙ ap (λ r. not (eqb r 0)) rank_free) z))
        ∙ ap (keep is_ranked) (take-append-drop n es)
        ∙ keep_ext is_ranked is_held ranked_held

    pub listed_ties : map (λ p. get_or es p free_entry) (listed ranks n) ≡ tie_order (held_of t)
    unfolding listed
    listed_ties =
        ap (map at) (sort_ext (by_rank ranks) (λ i j. rank_le (at i) (at j))
        (pairs_of (taken_from ranks n 0) (λ i j. ap₂ leb (rank_at i) (rank_at j))))
        ∙ sort_map at rank_le (taken_from ranks n 0)
        ∙ ap (sort rank_le) taken_held
        ∙ sort_ext rank_le ties (once_ties (held_of t) (tidy_held w) w.once)
        ∙ sort_ties (tidy_held w)

    pub listed_places_lem : All (λ p. p < places) (listed ranks n)
    listed_places_lem = all_map (λ p h. omega arith) (listed_within ranks n)

    pub listed_length : length (listed ranks n) ≡ length (tie_order (held_of t))
    listed_length = sym (length-map (listed ranks n) at) ∙ ap length listed_ties
