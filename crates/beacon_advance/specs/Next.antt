-- A table moved on by the grants that document 01 names, step F of "One beacon": by any lists of them, and by those of steps B and C.
-- Assumes nothing.
use Rattle.std.specs.Prelude.{◌≡◌, cond, List, map, ℕ, ◌≤◌, ◌<◌, length}
use Rattle.std.proofs.Common.{sym, ◌∙◌, map-id, arith}
use Rattle.std.proofs.Math.Path.{ap}
use Rattle.std.proofs.lemmas.List.{length-map}
use Rattle.spec_lists.specs.All.{All}
use Rattle.base_lists.specs.Tests.{cond_le}
use Rattle.base_lists.specs.All.{all_at, all_map, map_ext}
use Rattle.spec_model.specs.Entries.{free_entry}
use Rattle.spec_model.specs.Tables.{held_of, with_entries}
use Rattle.spec_model.specs.declared.Entry.{Entry}
use Rattle.spec_model.specs.declared.Table.{Table}
use Rattle.spec_rules.specs.Share.{Grant, slots_for, headroom, step_b, step_c}
use Rattle.spec_rules.specs.Ahead.{step_f}
use Rattle.spec_rules.specs.Calls.{advanced}
use Rattle.spec_rules.specs.WellFormed.{Tidy}
use Rattle.law_steps.proofs.Settled.{after_free}
use Rattle.law_steps.proofs.Extras.{extra_le}
use Rattle.law_steps.proofs.Closed.{at_places, had_most}
use Rattle.table_queue.specs.Zips.{zip, zip_map}
use Rattle.table_queue.specs.Queues.{Used}
use Rattle.beacon_share.specs.Shares.{granted, among, sharing_of, shares_of, grant_of, grant_found, grants_right}
use Rattle.beacon_share.specs.declared.Granted.{Granted}
use Rattle.beacon_share.specs.declared.Shares.{Shares}
use Rattle.beacon_share.specs.declared.Sharing.{Sharing}
use Rattle.beacon_advance.specs.Moving.{WithinAmounts, after_grant, Movable, moved_by}

module _ (t : Table) (w : Tidy t) where
  abbrev es : List Entry
  es = held_of t

  -- a map over the places, by the grants of the held entries
  same_after : (g h : Entry → Granted) → All (λ e. g e ≡ h e) es
      → map (λ e. after_grant (g e) e) t.entries ≡ map (λ e. after_grant (h e) e) t.entries
  same_after g h q =
      map_ext (λ e. after_grant (g e) e) (λ e. after_grant (h e) e)
      (at_places t w (λ e. after_grant (g e) e ≡ after_grant (h e) e)
      (after_free (g free_entry).piece.0 (g free_entry).extra.0 ∙ sym (after_free (h free_entry).piece.0 (h free_entry).extra.0))
      (all_map (λ e k. ap (λ x. after_grant x e) k) q))

  -- by lists of grants, where each place has what the lists have for the entry held there; a free place stays free
  pub moved_grants : (bs cs : List Grant) (g : Entry → Granted)
      → All (λ e. g e ≡ granted (slots_for e.name bs) (slots_for e.name cs)) es
      → {s : Shares} → s.grants ≡ map g t.entries → moved_by s t ≡ with_entries t (step_f bs cs t.entries)
  unfolding step_f
  moved_grants bs cs g q e =
      ap (with_entries t)
      (ap (λ gs. zip after_grant gs t.entries) e
      ∙ ap (zip after_grant (map g t.entries)) (sym (map-id t.entries))
      ∙ zip_map after_grant g (λ e. e) t.entries
      ∙ same_after g (λ e. granted (slots_for e.name bs) (slots_for e.name cs)) q)

  -- by the table's own shares
  pub moved_shares : {s : Shares} → s ≡ shares_of t → moved_by s t ≡ advanced t
  unfolding advanced
  moved_shares e =
      moved_grants (step_b t.frame es) (step_c t.frame es) (grant_of (sharing_of t) t.entries) (grants_right t w)
      (ap (λ (x : Shares). x.grants) e)

  grants_within : (s : Sharing) → All (λ e. WithinAmounts (grant_of s t.entries e) e) t.entries
  grants_within s = had_most t w s.capacity.0 (λ e. (grant_of s t.entries e).extra.0) within
    where
      within : (e : Entry) → (grant_of s t.entries e).extra.0 ≤ headroom e (grant_of s t.entries e).piece.0
      within e =
          let d = headroom e (grant_of s t.entries e).piece.0 in
          omega (
            arith,
            extra_le s.remains.0 s.weight (cond (among s.fractions e) d 0),
            cond_le (among s.fractions e) d,
          )

  pub shares_movable : {n : ℕ} {s : Shares} → Used n t → s ≡ shares_of t → Movable t n s
  shares_movable {n} {s} u e = record {
    used = u;
    sized = ap (λ (x : Shares). length x.grants) e ∙ length-map t.entries _;
    within = λ i h.
        let k : i < length t.entries = omega (arith, u.0, w.size) in
        rw (grant_found t e i k)
        (all_at (λ e. WithinAmounts (grant_of (sharing_of t) t.entries e) e) t.entries free_entry (grants_within (sharing_of t)) i k);
  }
