-- The table that the program holds is well formed before and after each row. Assumes nothing.
use Rattle.std.specs.Prelude.{◌≡◌, refl, Bool, true, false, cond, eqb, Some, None}
use Rattle.std.proofs.Common.{subst, eqb-true}
use Rattle.std.specs.Option.{option_map}
use Rattle.spec_model.specs.declared.Setting.{Setting}
use Rattle.spec_model.specs.declared.Table.{Table}
use Rattle.spec_rules.specs.Calls.{offered, withdrawn, advanced}
use Rattle.spec_rules.specs.Settings.{open_answer, opened}
use Rattle.spec_rules.specs.WellFormed.{WellFormed}
use Rattle.law_ahead.proofs.Formed.{opened_formed, offered_formed, withdrawn_formed, advanced_formed}
use Rattle.spec_shelf.specs.declared.Command.{Command}
use Rattle.spec_shelf.specs.declared.Command.TheVariants.{Open, Offer, Withdraw, Beacon, OtherForm}
use Rattle.spec_shelf.specs.Meaning.{State, first_state, with_table, state_after}
use Rattle.spec_shelf.specs.Room.{Ready}

-- a table that a call makes of one that is well formed
called_ready : (f : Table → Table) → ((t : Table) → WellFormed t → WellFormed (f t)) → (s : State) → Ready s → Ready (option_map f s)
called_ready f h None r u e = cc
called_ready f h (Some t) r u e = subst WellFormed (let q : f t ≡ u = cc in q) (h t (r t refl))

opened_ready : (o : Setting) {s : State} (b : Bool) → eqb (open_answer o) 0 ≡ b → Ready s → Ready (cond b (with_table (opened o)) s)
opened_ready o true e r = λ u q. subst WellFormed (let k : opened o ≡ u = cc in k) (opened_formed o (eqb-true (open_answer o) 0 e))
opened_ready o false e r = r

pub ready_after : (s : State) (c : Command) → Ready s → Ready (state_after s c)
unfolding state_after
ready_after s (Open o) r = opened_ready o (eqb (open_answer o) 0) refl r
ready_after s (Offer q) r = called_ready (λ t. offered t q) (λ t h. offered_formed t q h) s r
ready_after s (Withdraw n) r = called_ready (λ t. withdrawn t n) (λ t h. withdrawn_formed t n h) s r
ready_after s Beacon r = called_ready advanced (λ t h. advanced_formed t h) s r
ready_after s OtherForm r = r

pub ready_first : Ready first_state
unfolding first_state
ready_first u e = cc
