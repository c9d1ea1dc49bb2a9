-- What stands between two calls: the table is well formed, the admissions that last are matched one to one with the held entries, and
-- every completed period of every admission is kept. Each call keeps it. Assumes nothing.
use Rattle.std.specs.Prelude.{◌≡◌, Bool, List, [], ℕ, ◌*◌, ltb, eqb, drop}
use Rattle.std.proofs.Math.Path.{refl, subst}
use Rattle.std.proofs.Common.{sym, ap, ◌∙◌, inl, map-id, eqb-true}
use Rattle.std.proofs.Math.Bool.{true, false, cond, not}
use Rattle.std.proofs.Math.ListN.{length}
use Rattle.spec_lists.specs.Lists.{keep}
use Rattle.base_lists.specs.Tests.{clash}
use Rattle.spec_lists.specs.All.{All, and}
use Rattle.base_lists.specs.All.{all_keep, all_append, all_of_map, all_both}
use Rattle.base_lists.specs.Picked.{Paired, pair, paired_with, paired_left, paired_keep}
use Rattle.spec_model.specs.Requests.{refusal}
use Rattle.spec_model.specs.Names.{same}
use Rattle.spec_model.specs.Entries.{free_entry, is_held, is_named, entry_of}
use Rattle.spec_model.specs.Tables.{held_of, with_entries}
use Rattle.spec_model.specs.declared.Frame.{Frame}
use Rattle.spec_model.specs.declared.Name.{Name}
use Rattle.spec_model.specs.declared.Entry.{Entry}
use Rattle.spec_model.specs.declared.Request.{Request}
use Rattle.spec_model.specs.declared.Table.{Table}
use Rattle.spec_rules.specs.Share.{step_b, step_c}
use Rattle.spec_rules.specs.Slots.{Run}
use Rattle.spec_rules.specs.Ahead.{step_f}
use Rattle.spec_rules.specs.Records.{record_words, plan_words, records_of}
use Rattle.spec_rules.specs.Calls.{holds, offer_answer, placed, offered, held_answer, freed, withdrawn}
use Rattle.spec_rules.specs.Calls.{plan_of, advanced, refused_beacon, planned_beacon, beacon}
use Rattle.spec_rules.specs.WellFormed.{Held, WellFormed}
use Rattle.law_model.specs.Records.{records_back}
use Rattle.law_steps.proofs.Held.{held_is}
use Rattle.law_steps.specs.Offers.{is_full}
use Rattle.law_steps.proofs.Offers.{checks_passed, answer_passed}
use Rattle.law_steps.specs.StepB.{step_b_of}
use Rattle.law_steps.specs.Extras.{step_c_of}
use Rattle.law_ahead.specs.Moved.{step_of}
use Rattle.law_ahead.proofs.Tables.{formed_together, keep_free}
use Rattle.law_ahead.proofs.Formed.{passed_picked, offered_formed, withdrawn_formed, beacon_formed, advanced_held}
use Rattle.spec_demand.specs.History.{Call, Offer, Withdraw, Beacon, answer_on, plan_on, seen, after}
use Rattle.spec_demand.specs.Ledger.{Admission, Ledger, grown, lasts, is_of, note_done, note}
use Rattle.spec_demand.specs.Demand.{Kept}
use Rattle.law_demand.specs.Link.{Linked, same_fields, begins_linked, period_some, begins_kept}
use Rattle.law_demand.specs.Grown.{Gets, grown_lasts, grown_kept, grown_linked}
use Rattle.law_demand.specs.Planned.{plan_gets}

pub record Stands (l : Ledger) (t : Table) : Type 0 where
  pub formed : WellFormed t
  pub paired : Paired (Linked t.frame) l.held (held_of t)
  pub kept : All (Kept t.frame) l.held
  pub past : All (Kept t.frame) l.past

module _ (l : Ledger) (t : Table) (v : Stands l t) where
  abbrev F : Frame
  F = t.frame

  -- ---- an offer
  pub offer_stands : (q : Request) → Stands (note l (seen t (Offer q))) (after t (Offer q))
  unfolding note_done note answer_on after offered
  offer_stands q = go (eqb (offer_answer t q) 0) refl (offered_formed t q v.formed)
    where
      with_entry_lem : Table
      with_entry_lem = with_entries t (placed (entry_of q) t.entries)

      go : (b : Bool) → eqb (offer_answer t q) 0 ≡ b → WellFormed (cond b with_entry_lem t)
          → Stands (cond b (note_done l (Offer q) []) l) (cond b with_entry_lem t)
      go true z f =
          let h = answer_passed t q (inl (eqb-true (offer_answer t q) 0 z)) in
          let p = checks_passed (holds t q.name) (is_full t q) F q h in
          record {
            formed = f;
            paired = pair (begins_linked F q) (passed_picked t v.formed q h) v.paired;
            kept = and (begins_kept F q (period_some F q p.fields)) v.kept;
            past = v.past;
          }
      go false z f = v

  -- ---- a withdrawal
  module _ (n : Name) where
    abbrev gone : Entry → Entry
    gone e = cond (is_named n e) free_entry e

    abbrev without : Table
    without = with_entries t (freed n t.entries)

    held_without : held_of without ≡ keep is_held (freed n (held_of t))
    held_without = keep_free gone (either_free (is_named n free_entry)) v.formed.tidy.entries (λ e h. held_is h)
      where
        either_free : (b : Bool) → cond b free_entry free_entry ≡ free_entry
        either_free true = refl
        either_free false = refl

    -- the admissions that go on are those whose entries stay
    paired_without : Paired (Linked F) (keep (λ h. not (is_of n h)) l.held) (keep is_held (freed n (held_of t)))
    paired_without =
        subst (λ hs. Paired (Linked F) (keep (λ h. not (is_of n h)) hs) (keep is_held (freed n (held_of t)))) (map-id l.held)
        (paired_keep (λ h. not (is_of n h)) is_held (λ h. h) gone (λ h e r. one h e r.0 r.2 (is_of n h) refl)
        (paired_with v.paired v.kept (formed_together v.formed).held))
      where
        one : (h : Admission) (e : Entry) → Linked F h e → Held F e → (b : Bool) → is_of n h ≡ b
            → (not (is_of n h) ≡ is_held (gone e)) × (is_held (gone e) ≡ true → Linked F h (gone e))
        one h e r d true z =
            let y : gone e ≡ free_entry = ap (λ b. cond b free_entry e) (ap (λ m. same m n) (same_fields e r.request).name ∙ z) in
            (ap not z ∙ sym (ap is_held y), λ q. absurd (clash (is_held (gone e)) q (ap is_held y)))
        one h e r d false z =
            let y : gone e ≡ e = ap (λ b. cond b free_entry e) (ap (λ m. same m n) (same_fields e r.request).name ∙ z) in
            (ap not z ∙ sym (ap is_held y ∙ held_is d), λ q. rw y r)

    pub withdraw_stands : Stands (note l (seen t (Withdraw n))) (after t (Withdraw n))
    unfolding note_done note answer_on after held_answer refusal withdrawn
    withdraw_stands = go (holds t n) (withdrawn_formed t n v.formed)
      where
        go : (b : Bool) → WellFormed (cond b without t)
            → Stands (cond (eqb (cond (not b) 20 0) 0) (note_done l (Withdraw n) []) l) (cond b without t)
        go true f =
            record {
              formed = f;
              paired = rw held_without paired_without;
              kept = all_keep (λ h. not (is_of n h)) (λ h q k. k) v.kept;
              past = all_append (all_keep (is_of n) (λ h q k. k) v.kept) v.past;
            }
        go false f = v

  -- ---- a beacon
  abbrev plan : List Run
  plan = plan_of t

  -- each admission with its entry, and what the interval gives it
  all_paired :
      Paired (λ h e. Linked F h e × Kept F h × (Held F e × Gets F (step_b_of F (held_of t) e) (step_c_of F (held_of t) e) plan e))
      l.held (held_of t)
  all_paired = paired_with v.paired v.kept (all_both (formed_together v.formed).held (plan_gets t v.formed))

  grown_all : All (λ h. Kept F (grown plan h)) l.held
  grown_all = paired_left all_paired (λ h e r. grown_kept r.2.0 r.0 r.2.1 r.1)

  planned_stands : (ws : List ℕ) → WellFormed (advanced t) → Stands (note_done l (Beacon ws) plan) (advanced t)
  unfolding note_done advanced step_f
  planned_stands ws f =
      record {
        formed = f;
        paired = rw (advanced_held t v.formed)
            (paired_keep lasts is_held (grown plan) (step_of (step_b F (held_of t)) (step_c F (held_of t)))
            (λ h e r. (grown_lasts _ _ r.0 plan r.2.0, grown_linked r.2.0 r.0 r.2.1)) all_paired);
        kept = all_keep lasts (λ h q k. k) (all_of_map (grown plan) grown_all);
        past = all_append (all_keep (λ h. not (lasts h)) (λ h q k. k) (all_of_map (grown plan) grown_all)) v.past;
      }

  pub beacon_stands : (ws : List ℕ) → Stands (note l (seen t (Beacon ws))) (after t (Beacon ws))
  unfolding note answer_on plan_on after beacon
  beacon_stands ws = go (ltb (length ws) plan_words) (beacon_formed t ws v.formed)
    where
      go : (b : Bool) → WellFormed (cond b (refused_beacon t ws) (planned_beacon t ws plan)).table
          → (let r = cond b (refused_beacon t ws) (planned_beacon t ws plan) in
          Stands (cond (eqb r.answer 0) (note_done l (Beacon ws) (records_of r.count r.words)) l) r.table)
      go true f = v
      go false f =
          subst (λ rs. Stands (note_done l (Beacon ws) rs) (advanced t)) (sym (records_back plan (drop (record_words * length plan) ws)))
          (planned_stands ws f)

  pub call_stands : (c : Call) → Stands (note l (seen t c)) (after t c)
  call_stands (Offer q) = offer_stands q
  call_stands (Withdraw n) = withdraw_stands n
  call_stands (Beacon ws) = beacon_stands ws
