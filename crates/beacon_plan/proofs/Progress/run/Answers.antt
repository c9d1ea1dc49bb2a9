-- `beacon_plan::Progress::run` meets its contract: where the job has ended, the first job left of its row is looked for; else it stays the
-- first. Assumes nothing.
use Rattle.std.proofs.Common.{◌≡◌, sym, ap, ap₂, ◌∙◌, ◌≤◌, ◌-◌, min, get_or, set, arith}
use Rattle.beacon_plan.specs.declared.Head.{Head}
use Rattle.beacon_plan.specs.Heads.{first_left}
use Rattle.beacon_plan.specs.Progress.{head_of, head_need, row_made, row_stays}
use Rattle.beacon_plan.proofs.Progress.run.Goals as goal
use Rattle.beacon_plan.proofs.Progress.run.Goals.{then-need-n, else-need-n}

pub returns : goal.returns
returns c =
    let a = c.args in
    let T = a.row.length.0 in
    let ns = a.self.now.left in
    let m = min (head_need ns) (a.end.0 - a.t.0) in
    let e : a.self.now.head.job ≡ first_left ns = ap (λ (h : Head). h.job) c.requires.head.0 in
    let n : c.min-n.result ≡ m = c.min-n.ensures ∙ ap (λ j. min (get_or ns j 0) (a.end.0 - a.t.0)) e in
    let left = ap₂ (λ j v. set ns j (get_or ns j 0 - v)) e n in (
      rw (e, n),
      elim c.if-need-n.branch [
        | then-need-n w ↦ w.self-is ∙ row_made T left (w.of-self.ensures ∙ ap (head_of T) left)
        | else-need-n w ↦
            let some : 1 ≤ head_need ns - m =
            omega (arith, n, c.min-n.ensures, w.if-need-n.false, ap (λ j. get_or ns j 0) e) in
            w.self-is ∙ row_made T left (c.requires.head.0 ∙ sym (row_stays T ns (head_need ns - m) some))
      ],
    )
