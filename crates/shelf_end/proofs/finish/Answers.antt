use mathlib.Core.Path.{◌≡◌, refl, sym, ap, ◌∙◌}
use mathlib.Core.Bool.{true}
use native.Mathlib.Omega.{arith}
use lib.Dec.{eqb}
use borrow.Author.Tests.{eq-eqb, ne_eqb}
use Rattle.row_cut.specs.Lines.{unheld}
use Rattle.row_cut.specs.declared.Line.{Line}
use Rattle.row_print.specs.PrintedLaws.{written_none}
use Rattle.shelf_state.specs.Cutting.{last_rows, last_plan}
use Rattle.shelf_end.specs.Last.{last_served}
use Rattle.shelf_end.proofs.finish.Goals as goal

pub returns-then-line-eq0 : goal.returns-then-line-eq0
unfolding last_rows last_plan
returns-then-line-eq0 c =
    let z : eqb (unheld c.args.s.reader).len 0 ≡ true =
    eq-eqb _ _ (ap (λ (l : Line). l.len) (sym c.unheld-line.ensures) ∙ c.if-line-eq0.true) in
    rw z (omega arith, (sym (written_none _ _), refl))

pub returns : goal.returns
returns c =
    let z = ne_eqb _ _ (λ q. c.if-line-eq0.false (ap (λ (l : Line). l.len) c.unheld-line.ensures ∙ q)) in
    let a = c.args in
    let r = c.serve_rows in
    last_served a.s r.result.taken a.at a.out.now a.plan.now z c.requires.answer_most_in_bounds r.ensures.is.1 r.ensures.far
