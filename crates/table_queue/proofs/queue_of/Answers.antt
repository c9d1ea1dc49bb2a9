use Rattle.std.proofs.Common.{◌≡◌, sym, ap, ◌∙◌, not, length, arith}
use Rattle.table_queue.proofs.Making.{making_none, load_small, making_more, making_same, making_all}
use Rattle.table_queue.proofs.queue_of.Goals as goal
use Rattle.table_queue.proofs.queue_of.Goals.{then-not-is_nobody, else-not-is_nobody}

pub loop-i-init : goal.loop-i-init
loop-i-init c = making_none c.args.t (omega arith) c.requires

pub claim_of-requires : goal.claim_of-requires
claim_of-requires c = ap not (sym c.is_nobody.ensures ∙ c.if-not-is_nobody.true)

pub overflow_add-load : goal.overflow_add-load
overflow_add-load c =
    let m = c.loop-i.invariant in
    omega (arith, c.load_of-load.ensures, load_small c.args.t (omega arith) c.requires m c.loop-i-test.true, m.within, m.small)

pub loop-i-preserved : goal.loop-i-preserved
loop-i-preserved c =
    let t = c.args.t in
    let all : length t.entries ≡ 32 = omega arith in
    let h = c.loop-i-test.true in
    elim c.if-not-is_nobody.branch [
      | then-not-is_nobody w ↦ rw (w.used-is, w.load-is, w.claims-is)
          (making_more t all c.requires c.loop-i.invariant h w.load_of-load.ensures w.claim_of.ensures)
      | else-not-is_nobody w ↦ rw (w.used-is, w.load-is, w.claims-is)
          (making_same t all c.requires c.loop-i.invariant h (ap not (sym c.is_nobody.ensures ∙ w.if-not-is_nobody.false)))
    ]

pub returns : goal.returns
returns c = making_all c.args.t (omega arith) c.requires c.loop-i.invariant c.loop-i-test.false
