use Rattle.std.proofs.Common.{◌≡◌, length, subst, ◌∙◌, arith}
use Rattle.ahead_figures.specs.Arrays.{table_of}
use Rattle.ahead_serve.specs.Serving.{Ranked}
use Rattle.ahead_next.specs.EndLaws.{first_padded, load_padded}
use Rattle.ahead_even.specs.Needs.{needs_table, ahead_table}
use Rattle.law_figures.proofs.Looking.{first_full, looking_first, looking_done, at_soon}
use Rattle.law_figures.proofs.Evenly.{shared, looking_even}
use Rattle.ahead_loop.proofs.Turn.{late, to_serve, to_pass, past}
use Rattle.ahead_loop.proofs.goes_well.Goals as goal

-- ---- where the function begins
pub returns-then-slots-load : goal.returns-then-slots-load
returns-then-slots-load c = λ t b. first_full b (c.loads_in-load.ensures ∙ load_padded c.args.figures.now) c.if-slots-load.true

pub loop-at-init : goal.loop-at-init
loop-at-init c = (
  λ t b. looking_first b (c.loads_in-load.ensures ∙ load_padded c.args.figures.now) c.if-slots-load.false,
  c.next_end-at.ensures ∙ first_padded c.args.figures.now,
)

-- ---- a turn
pub overflow_sub-capacity : goal.overflow_sub-capacity
overflow_sub-capacity c =
    omega (arith, (at_soon (c.loop-at.invariant.0 _ c.requires.1) c.loop-at.invariant.1 c.loop-at-test.true).0)

pub returns-then-capacity-due : goal.returns-then-capacity-due
returns-then-capacity-due c =
    λ t b. late c.loop-at.figures (c.loop-at.invariant.0 t b) c.loop-at.invariant.1 c.loop-at-test.true c.pay_due-due.ensures.0 c.if-capacity-due.true

pub serve-requires : goal.serve-requires
serve-requires c =
    let gs = c.pay_due-due.new.figures in
    let same : length c.args.figures.now ≡ length gs = omega arith in
    subst (Ranked (table_of gs).ranks (table_of gs).owed) same
    (to_serve c.loop-at.figures (c.loop-at.invariant.0 _ c.requires.1) c.loop-at.invariant.1 c.loop-at-test.true c.pay_due-due.ensures.0 c.pay_due-due.ensures.1)

pub pass_ends-requires : goal.pass_ends-requires
pass_ends-requires c =
    to_pass c.loop-at.figures (c.loop-at.invariant.0 _ c.requires.1) c.loop-at.invariant.1 c.loop-at-test.true c.pay_due-due.ensures.0
    c.pay_due-due.ensures.1 c.serve.new.figures c.serve.ensures (omega (arith, c.requires.1.shows.spare.0))

pub needs_of-requires-clause-ahead : goal.needs_of-requires-clause-ahead
needs_of-requires-clause-ahead c =
    ahead_table c.pass_ends.new.figures (omega (arith, c.requires.1.shows.spare.0))
    (shared (past c.loop-at.figures (c.loop-at.invariant.0 _ c.requires.1) c.loop-at.invariant.1 c.loop-at-test.true c.pay_due-due.ensures.0
    c.pay_due-due.ensures.1 c.serve.new.figures c.serve.ensures (omega (arith, c.requires.1.shows.spare.0)) c.if-capacity-due.false
    c.pass_ends.ensures c.loads_in-load-in-loop-at.ensures)).ahead

pub returns-then-needs_of-slots : goal.returns-then-needs_of-slots
returns-then-needs_of-slots c = λ t b.
    looking_even (past c.loop-at.figures (c.loop-at.invariant.0 t b) c.loop-at.invariant.1 c.loop-at-test.true c.pay_due-due.ensures.0
    c.pay_due-due.ensures.1 c.serve.new.figures c.serve.ensures (omega (arith, c.requires.1.shows.spare.0)) c.if-capacity-due.false
    c.pass_ends.ensures c.loads_in-load-in-loop-at.ensures)
    (c.needs_of.ensures ∙ needs_table c.loop-at.at.0 c.pass_ends.new.figures (omega (arith, c.requires.1.shows.spare.0)))
    c.if-needs_of-slots.true

pub overflow_mul-try_at : goal.overflow_mul-try_at
overflow_mul-try_at c =
    omega (arith, (at_soon (c.loop-at.invariant.0 _ c.requires.1) c.loop-at.invariant.1 c.loop-at-test.true).1)

pub loop-at-smaller : goal.loop-at-smaller
loop-at-smaller c =
    let s = at_soon (c.loop-at.invariant.0 _ c.requires.1) c.loop-at.invariant.1 c.loop-at-test.true in
    omega (arith, s.0, s.1)

pub loop-at-preserved : goal.loop-at-preserved
loop-at-preserved c = (
  λ t b. past c.loop-at.figures (c.loop-at.invariant.0 t b) c.loop-at.invariant.1 c.loop-at-test.true c.pay_due-due.ensures.0
      c.pay_due-due.ensures.1 c.serve.new.figures c.serve.ensures (omega (arith, c.requires.1.shows.spare.0)) c.if-capacity-due.false
      c.pass_ends.ensures c.loads_in-load-in-loop-at.ensures,
  c.next_end-at-in-loop-at.ensures ∙ first_padded c.pass_ends.new.figures,
)

pub returns : goal.returns
returns c = λ t b. looking_done (c.loop-at.invariant.0 t b) c.loop-at.invariant.1 c.loop-at-test.false
