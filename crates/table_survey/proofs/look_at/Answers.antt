use mathlib.Core.Path.{sym, ap, ◌∙◌}
use mathlib.Core.Bool.{not, ◌||◌}
use Prim.Native.Nat.{◌+◌}
use native.Mathlib.Omega.{arith}
use Rattle.law_model.specs.Names.{same_streams}
use Rattle.table_survey.specs.Passes.{with_held}
use Rattle.table_survey.proofs.look_at.Goals as goal

pub returns : goal.returns
returns c =
    let s = c.args.s in
    let most = c.requires.i_lt_places.1 in
    let load = c.requires.e_bound.0 in
    let need = c.need_of-need.ensures in
    let small = need.1 in (
      with_held _ _ _ s (ap not (sym c.is_nobody.ensures ∙ c.if-is_nobody.false)) (ap (λ b. s.taken || b) (c.eq.ensures ∙ same_streams c.args.e.name c.args.name))
          (ap (λ m. s.needed + m) need.0),
      omega arith,
    )
