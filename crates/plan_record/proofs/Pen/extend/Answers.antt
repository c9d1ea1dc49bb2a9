-- `plan_record::Pen::extend` meets its contract: the run grows, or is written before another begins. Assumes nothing.
use Rattle.std.proofs.Common.{◌≡◌, false, refl, sym, ◌∙◌}
use Rattle.plan_record.specs.Recorded.{recorded_none}
use Rattle.plan_record.specs.Pens.{owner, grows, closed, extended}
use Rattle.plan_record.proofs.Pen.extend.Goals as goal
use Rattle.plan_record.proofs.Pen.extend.Goals.{in-Some+else-grows, in_default}

pub returns-then-grows : goal.returns-then-grows
unfolding closed extended
returns-then-grows c =
    let grown = sym c.grows.ensures ∙ c.if-grows.true in
    rw (c.in-Some.is, grown) (refl, sym (recorded_none _ _))

pub returns : goal.returns
unfolding closed extended
returns c =
    let a = c.args in
    let apart : grows a.self.run (owner a.slots) a.slots.start.0 ≡ false =
    elim c.match-self.branch [
      | in-Some+else-grows w ↦ rw w.in-Some.is (sym w.grows.ensures ∙ w.if-grows.false)
      | in_default w ↦ rw w.in_default.is
    ] in
    rw (apart, c.begun-run.ensures, c.put-count.ensures.0) (refl, c.put-count.ensures.1)
