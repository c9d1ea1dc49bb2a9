-- An offer on a well-formed table that passes every other check answers 0 or 17: 0, and then an assignment of the coming slots serves the
-- entries and the offered request; 17, and then none does. Assumes nothing.
use Rattle.std.specs.Prelude.{◌≡◌, ◌∷◌}
use Rattle.base_lists.specs.Tests.{clash}
use Rattle.spec_lists.specs.All.{All}
use Rattle.spec_model.specs.Requests.{refusal}
use Rattle.spec_model.specs.Entries.{entry_of}
use Rattle.spec_model.specs.Tables.{held_of}
use Rattle.spec_model.specs.declared.Frame.{Frame}
use Rattle.spec_model.specs.declared.Request.{Request}
use Rattle.spec_model.specs.declared.Table.{Table}
use Rattle.spec_rules.specs.Calls.{holds, offer_answer}
use Rattle.spec_rules.specs.WellFormed.{WellFormed}
use Rattle.law_steps.specs.Offers.{offer_checks_but, is_full, has_time}
use Rattle.law_steps.proofs.Offers.{answer_fits, answer_not}
use Rattle.law_ahead.proofs.Tables.{formed_header}
use Rattle.law_ahead.proofs.Formed.{passed_together}
use Rattle.spec_demand.specs.Assignment.{Assignment, LeavesHeader}
use Rattle.law_exact.specs.Entries.{ServesEntry}
use Rattle.law_exact.specs.Plans.{plans_ahead}
use Rattle.law_exact.proofs.Plans.{plans_leave, ahead_serves, serves_ahead}

module _ (t : Table) (w : WellFormed t) (q : Request)
    (h : refusal (offer_checks_but (holds t q.name) (is_full t q) t.frame q) ≡ 0)
  where
    abbrev F : Frame
    F = t.frame

    -- the assignment leaves the headers free, and serves the entries and the offered request, which counts as accepted
    abbrev pub ServesOffer : Assignment → Type 0
    ServesOffer a = LeavesHeader F a × All (ServesEntry F a) (entry_of q ∷ held_of t)

    pub offer_served : offer_answer t q ≡ 0 → (a : Assignment) × ServesOffer a
    offer_served z =
        let es = entry_of q ∷ held_of t in
        (plans_ahead F es, (plans_leave F es, ahead_serves F es (formed_header w) (passed_together t w q h) (answer_fits t q h z)))

    pub offer_hopeless : offer_answer t q ≡ 17 → (a : Assignment) → ServesOffer a → ⊥
    offer_hopeless z a s =
        clash (has_time t q) (serves_ahead F (formed_header w) a (entry_of q ∷ held_of t) (passed_together t w q h) s.0 s.1)
        (answer_not t q h z)
