use mathlib.Core.Path.{◌≡◌, sym, ap, subst, ◌∙◌}
use native.Mathlib.Omega.{arith}
use lib.Seq.{set-get_or}
use Rattle.spec_model.specs.Entries.{free_entry}
use Rattle.spec_model.specs.declared.Table.{Table}
use Rattle.spec_model.specs.Tables.{held_of, with_entries, put_in}
use Rattle.law_ahead.specs.KeepsUp.{keeps_up_ahead}
use Rattle.spec_rules.specs.WellFormed.{Tidy}
use lib.ListN.{get_or}
use Rattle.ahead_loop.proofs.keeps_up.Goals as goal

-- a table with the entry of its first place put there is itself
same : (t : Table) → put_in t 0 (get_or t.entries 0 free_entry) ≡ t
same t = ap (with_entries t) (set-get_or t.entries 0 free_entry)

pub keeps_up_ahead-requires : goal.keeps_up_ahead-requires
keeps_up_ahead-requires c =
    record { tidy = c.requires; place_lt_places = (omega arith, subst Tidy (sym (same c.args.t)) c.requires.0) }

pub returns : goal.returns
returns c = c.keeps_up_ahead.ensures ∙ ap (λ t. keeps_up_ahead t.frame (held_of t)) (same c.args.t)
