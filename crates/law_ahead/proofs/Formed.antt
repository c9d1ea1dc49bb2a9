-- Every call keeps a table well formed: opening gives such a table, and offers, withdrawals and beacons, refused ones among them,
-- leave one. So looking ahead accepts every table that calls reach. Assumes nothing.
use Rattle.std.specs.Prelude.{◌≡◌, refl, ◌⊎◌, Bool, true, false, cond, List, ◌∷◌, ℕ, zero, suc, ◌≤◌, ltb, eqb, length, replicate}
use Rattle.std.proofs.Common.{sym, subst, ◌∙◌, inl, inr, zero-le, le_refl, arith, leb-false}
use Rattle.std.proofs.Math.Dec.{eqb-suc-zero}
use Rattle.std.proofs.lemmas.List.{length-replicate, length-map}
use Rattle.spec_lists.specs.Lists.{one_if, keep, sum_of}
use Rattle.spec_lists.specs.All.{All, stop, and}
use Rattle.base_lists.specs.All.{all_map, all_of, all_of_map, any_none}
use Rattle.base_lists.specs.Sums.{sum_le, sum_keep, sum_map}
use Rattle.base_lists.specs.Picked.{Picked}
use Rattle.spec_model.specs.Requests.{refusal}
use Rattle.spec_model.specs.Entries.{free_entry, is_held, entry_of, is_named}
use Rattle.spec_model.specs.declared.Entry.{Entry}
use Rattle.spec_model.specs.declared.Request.{Request}
use Rattle.spec_model.specs.declared.Table.{Table}
use Rattle.spec_model.specs.declared.Frame.{Frame}
use Rattle.spec_model.specs.declared.Name.{Name}
use Rattle.spec_model.specs.declared.Setting.{Setting}
use Rattle.spec_model.specs.Tables.{places, held_of, with_entries, most_held}
use Rattle.spec_rules.specs.Share.{step_c, step_b}
use Rattle.spec_rules.specs.Ahead.{fits_ahead}
use Rattle.spec_rules.specs.Calls.{holds, offer_answer, placed, offered, withdrawn, advanced, plan_of, refused_beacon, planned_beacon, beacon, freed}
use Rattle.spec_rules.specs.WellFormed.{Held, WellFormed, Tidy}
use Rattle.spec_rules.specs.Settings.{opened, Succeeds, frame_of}
use Rattle.spec_rules.specs.Records.{plan_words}
use Rattle.law_model.specs.Frames.{opened_none}
use Rattle.law_steps.proofs.Grants.{once_cons}
use Rattle.law_steps.proofs.Held.{held_is, entry_held}
use Rattle.law_steps.specs.Offers.{offer_checks_but, Passed, is_full, has_time}
use Rattle.law_steps.proofs.Offers.{checks_passed, answer_fits, answer_passed}
use Rattle.law_ahead.specs.Moved.{Together, moved}
use Rattle.law_ahead.proofs.Moved.{own_extras}
use Rattle.law_ahead.specs.Fits.{Fits}
use Rattle.law_ahead.proofs.Fits.{fits_on, ahead_fits, ahead_none}
use Rattle.law_ahead.proofs.Tables.{formed_together, formed_fits, tidy_formed, picked_together, picked_fits, picked_ahead, fewer_fits}
use Rattle.law_ahead.proofs.Tables.{placed_all, placed_length, placed_picked, stepped_held, stepped_tidy}

-- ---- opening
pub opened_formed : (s : Setting) → Succeeds s → WellFormed (opened s)
opened_formed s h =
    subst WellFormed (sym (opened_none s))
    (record {
      tidy = record {
        setting = (s, h, refl);
        size = length-replicate places free_entry;
        entries = free places;
        once = λ n. zero-le;
      };
      fits = ahead_none (frame_of s);
    })
  where
    free : (n : ℕ) → All (λ e. (e ≡ free_entry) ⊎ Held (frame_of s) e) (replicate n free_entry)
    free zero = stop
    free (suc n) = and (inl refl) (free n)

-- ---- an offer
-- an offer that passes every check but the last
module _ (t : Table) (w : WellFormed t) (q : Request)
    (h : refusal (offer_checks_but (holds t q.name) (is_full t q) t.frame q) ≡ 0)
  where
    abbrev F : Frame
    F = t.frame

    passed_checks : Passed (holds t q.name) (is_full t q) F q
    passed_checks = checks_passed (holds t q.name) (is_full t q) F q h

    pub passed_held : Held F (entry_of q)
    passed_held = entry_held F q passed_checks.name passed_checks.fields

    -- with the offered request the entries stand together, and fit
    pub passed_together : Together F (entry_of q ∷ held_of t)
    unfolding entry_of
    passed_together =
        record {
          held = and passed_held (formed_together w).held;
          once = once_cons (entry_of q) (held_of t) (any_none (is_named q.name) (held_of t) passed_checks.free) w.tidy.once;
        }

    pub passed_picked : Picked (entry_of q) (keep is_held (placed (entry_of q) t.entries)) (held_of t)
    passed_picked =
        placed_picked (entry_of q) t.entries (held_is passed_held)
        (omega (arith, w.tidy.size, leb-false most_held (length (held_of t)) passed_checks.place))

    -- in the first free place the request leaves the table tidy, and looking ahead says of it what it said of the offer
    pub placed_tidy : Tidy (with_entries t (placed (entry_of q) t.entries))
    placed_tidy =
        record {
          setting = w.tidy.setting;
          size = placed_length (entry_of q) t.entries ∙ w.tidy.size;
          entries = placed_all (entry_of q) (inr passed_held) w.tidy.entries;
          once = (picked_together F passed_picked passed_together).once;
        }

    pub placed_ahead : fits_ahead F (held_of (with_entries t (placed (entry_of q) t.entries)))
        ≡ fits_ahead F (entry_of q ∷ held_of t)
    placed_ahead = picked_ahead F passed_picked passed_together

    passed_formed : has_time t q ≡ true → WellFormed (with_entries t (placed (entry_of q) t.entries))
    passed_formed y =
        tidy_formed placed_tidy (picked_fits F passed_picked (ahead_fits F (entry_of q ∷ held_of t) passed_together y))

pub offered_formed : (t : Table) (q : Request) → WellFormed t → WellFormed (offered t q)
unfolding offered
offered_formed t q w = go (offer_answer t q) refl
  where
    go : (n : ℕ) → offer_answer t q ≡ n
        → WellFormed (cond (eqb n 0) (with_entries t (placed (entry_of q) t.entries)) t)
    go zero a = (let h = answer_passed t q (inl a) in passed_formed t w q h (answer_fits t q h a))
    go (suc n) a = rw (eqb-suc-zero n) w

-- ---- a withdrawal
module _ (t : Table) (w : WellFormed t) (n : Name) where
  abbrev gone : Entry → Entry
  gone e = cond (is_named n e) free_entry e

  freed_sum : (f : Entry → ℕ) → sum_of f (keep is_held (freed n t.entries)) ≤ sum_of f (held_of t)
  freed_sum f =
      omega (
        arith,
        sum_keep f is_held (freed n t.entries),
        sum_map (λ e. cond (is_held e) (f e) 0) gone t.entries,
        sum_keep f is_held t.entries,
        sum_le (λ e. cond (is_held (gone e)) (f (gone e)) 0) (λ e. cond (is_held e) (f e) 0)
            (all_of t.entries (λ e. one e (is_named n e))),
      )
    where
      one : (e : Entry) (b : Bool) → cond (is_held (cond b free_entry e)) (f (cond b free_entry e)) 0 ≤ cond (is_held e) (f e) 0
      one e true = zero-le
      one e false = le_refl _

  freed_entries : All (λ e. (e ≡ free_entry) ⊎ Held t.frame e) (freed n t.entries)
  freed_entries = all_of_map gone (all_map (λ e h. one e h (is_named n e)) w.tidy.entries)
    where
      one : (e : Entry) → (e ≡ free_entry) ⊎ Held t.frame e → (b : Bool)
          → (cond b free_entry e ≡ free_entry) ⊎ Held t.frame (cond b free_entry e)
      one e h true = inl refl
      one e h false = h

  freed_formed : WellFormed (with_entries t (freed n t.entries))
  freed_formed =
      tidy_formed
      (record {
        setting = w.tidy.setting;
        size = length-map t.entries gone ∙ w.tidy.size;
        entries = freed_entries;
        once = λ m. omega (arith, freed_sum (λ (e : Entry). one_if (is_named m e)), w.tidy.once m);
      })
      (fewer_fits t.frame (held_of t) (keep is_held (freed n t.entries)) freed_sum (formed_fits w))

pub withdrawn_formed : (t : Table) (n : Name) → WellFormed t → WellFormed (withdrawn t n)
unfolding withdrawn
withdrawn_formed t n w = go (holds t n)
  where
    go : (b : Bool) → WellFormed (cond b (with_entries t (freed n t.entries)) t)
    go true = freed_formed t w n
    go false = w

-- ---- a beacon
module _ (t : Table) (w : WellFormed t) where
  abbrev frame : Frame
  frame = t.frame

  abbrev es : List Entry
  es = held_of t

  pub advanced_held : held_of (advanced t) ≡ moved (step_b frame es) (step_c frame es) es
  unfolding advanced
  advanced_held = stepped_held (step_b frame es) (step_c frame es) t w.tidy

  pub advanced_formed : WellFormed (advanced t)
  unfolding advanced
  advanced_formed =
      let x = own_extras frame es w.tidy.once in
      tidy_formed (stepped_tidy (step_b frame es) (step_c frame es) t w.tidy x)
      (subst (Fits frame) (sym advanced_held) (fits_on frame (step_c frame es) es (formed_together w) x (formed_fits w)))

pub beacon_formed : (t : Table) (ws : List ℕ) → WellFormed t → WellFormed (beacon t ws).table
unfolding beacon
beacon_formed t ws w = go (ltb (length ws) plan_words)
  where
    go : (b : Bool) → WellFormed (cond b (refused_beacon t ws) (planned_beacon t ws (plan_of t))).table
    go true = w
    go false = advanced_formed t w
