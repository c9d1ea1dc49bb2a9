-- What a beacon changes in a table: an interval's share of each place; nothing where nothing is held. Assumes nothing.
use Rattle.std.specs.Prelude.{◌≡◌, ◌≢◌, false, List, [], ◌∷◌, map, ℕ, zero, suc, ◌+◌, ◌<◌, ltb, length}
use Rattle.std.proofs.Math.Path.{refl, ap}
use Rattle.std.proofs.Common.{sym, ap₂, ◌∙◌, arith}
use Rattle.spec_lists.specs.Lists.{keep}
use Rattle.spec_lists.specs.All.{All, stop, and}
use Rattle.spec_model.specs.Entries.{free_entry, is_held}
use Rattle.spec_model.specs.declared.Entry.{Entry}
use Rattle.spec_model.specs.declared.Table.{Table}
use Rattle.spec_model.specs.Tables.{with_entries}
use Rattle.spec_model.specs.Frames.{header_in, room_in}
use Rattle.spec_rules.specs.Share.{order}
use Rattle.spec_rules.specs.Slots.{tie_order, jobs, choose, slots_from, runs_from, prepend, step_d, step_e}
use Rattle.spec_rules.specs.Ahead.{step_f}
use Rattle.spec_rules.specs.Calls.{plan_of, advanced, beacon}
use Rattle.spec_rules.specs.Records.{words_of, plan_words}
use Rattle.spec_rules.specs.WellFormed.{Tidy}
use Rattle.law_slots.proofs.Events.{runs_idle}
use Rattle.law_steps.proofs.Settled.{after_free}
use Rattle.beacon_share.specs.declared.Shares.{Shares}
use Rattle.table_queue.specs.Queues.{Used}
use Rattle.beacon_share.specs.Shares.{no_shares, shares_of}
use Rattle.call_beacon.specs.declared.Planned.{Planned}

-- no record, and no place in use
abbrev pub nothing_planned : Planned
nothing_planned = record { count = 0; used = 0; shares = no_shares }

-- ---- every place: u is the table after t, where n places are in use and get the shares s; with none in use it is t itself
pub record Moves (t : Table) (n : ℕ) (s : Shares) (u : Table) : Type 0 where
  pub stays : n ≡ 0 → u ≡ t
  pub moves : 0 < n → (Tidy t × Used n t) × ((s ≡ shares_of t) × (u ≡ advanced t))

pub stays_put : {t u : Table} {n : ℕ} {s : Shares} → n ≡ 0 → u ≡ t → Moves t n s u
stays_put z e = record { stays = λ _. e; moves = λ h. absurd (omega (arith, z, h)) }

pub moves_on : {t u : Table} {n : ℕ} {s : Shares} → n ≢ 0 → Tidy t × Used n t → (s ≡ shares_of t) × (u ≡ advanced t) → Moves t n s u
moves_on h w e = record { stays = λ z. absurd (h z); moves = λ _. (w, e) }

-- ---- nothing is held
none_kept : {es : List Entry} → All (λ e. e ≡ free_entry) es → keep is_held es ≡ []
none_kept stop = refl
none_kept (and p h) = rw p (none_kept h)

none_moved : (f : Entry → Entry) → f free_entry ≡ free_entry → {es : List Entry} → All (λ e. e ≡ free_entry) es → map f es ≡ es
none_moved f z stop = refl
none_moved f z (and p h) = ap₂ (λ e l. e ∷ l) (ap f p ∙ z ∙ sym p) (none_moved f z h)

no_runs : (n r s : ℕ) → runs_from r (slots_from n s []) ≡ []
unfolding runs_from slots_from choose prepend
no_runs zero r s = refl
no_runs (suc n) r s = no_runs n (suc r) (suc s)

module _ (t : Table) (h : Used 0 t) where
  none_planned : plan_of t ≡ []
  unfolding plan_of step_e step_d jobs tie_order order
  none_planned =
      let F = t.frame in
      rw (none_kept h.1) (runs_idle (header_in F) 0 (slots_from (room_in F) (header_in F) []) ∙ no_runs (room_in F) (0 + header_in F) (header_in F))

  none_advanced : advanced t ≡ t
  unfolding advanced step_f
  none_advanced = ap (with_entries t) (none_moved _ (after_free _ _) h.1)

  pub none_beacon : (ws : List ℕ) → ltb (length ws) plan_words ≡ false
      → beacon t ws ≡ record { answer = 0; count = 0; words = ws; table = t }
  unfolding beacon words_of
  none_beacon ws q = rw (q, none_planned, none_advanced) refl
