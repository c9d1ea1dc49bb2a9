use Rattle.std.proofs.Common.{◌≡◌, true, false, length, refl, sym, ap, ◌∙◌, arith}
use Rattle.law_rows.specs.Ready.{ready_first}
use Rattle.spec_shelf.specs.Room.{Ready}
use Rattle.shelf_state.specs.Cutting.{first_shelf}
use Rattle.shelf_write.specs.declared.Flow.{Flow}
use Rattle.shelf.specs.Runs.{ends, gave_some}
use Rattle.shelf.specs.Streams.{going_none, going_read, going_on, streams_read}
use Rattle.shelf.proofs.serve_all.Goals as goal

ready : Ready first_shelf.state
unfolding first_shelf
ready = ready_first

pub loop-got-init : goal.loop-got-init
loop-got-init g c =
    record {
      going = going_none c.args.s _ _ _ c.requires.s_value c.requires.header_value.0;
      well = refl;
      taken = refl;
      few = omega arith;
      ready = rw c.requires.s_value ready;
      input = refl;
      plan = refl;
      out = refl;
    }

-- one more read is served
pub returns-then-more-eq0-clause-is : goal.returns-then-more-eq0-clause-is
returns-then-more-eq0-clause-is g c =
    let i = c.loop-got.invariant in
    let r = c.read-got in
    let n = c.serve_some-next.ensures in
    rw c.joined-flow.ensures
    (streams_read r.result r.new.buf i.going i.well i.taken r.ensures.bound r.ensures.bytes c.count-more.ensures n.all.0 n.is n.took).ran

pub returns-then-more-eq0-clause-streams : goal.returns-then-more-eq0-clause-streams
returns-then-more-eq0-clause-streams g c =
    let i = c.loop-got.invariant in
    let r = c.read-got in
    let n = c.serve_some-next.ensures in
    rw c.joined-flow.ensures
    (streams_read r.result r.new.buf i.going i.well i.taken r.ensures.bound r.ensures.bytes c.count-more.ensures n.all.0 n.is n.took)

pub loop-got-preserved : goal.loop-got-preserved
loop-got-preserved g c =
    let i = c.loop-got.invariant in
    let r = c.read-got in
    let s = c.serve_some-next in
    let n = s.ensures in
    let some : ends r.result ≡ false = gave_some r.result (length r.new.buf) (λ z. c.if-more-eq0.false (c.count-more.ensures ∙ z)) in
    let well : c.joined-flow.result.well ≡ true = grind arith in
    let next : s.result.well ≡ true = ap (λ (f : Flow). f.well) (sym c.joined-flow.ensures) ∙ well in
    record {
      going = rw c.joined-flow.ensures
          (going_on some (going_read r.result r.new.buf i.going i.well i.taken r.ensures.bound r.ensures.bytes c.count-more.ensures n.all.0 n.is n.took));
      well = well;
      taken = ap (λ (f : Flow). f.taken) c.joined-flow.ensures ∙ omega (arith, i.taken, n.all.1 next, c.count-more.ensures);
      few = omega arith;
      ready = rw c.joined-flow.ensures n.formed;
      input = r.auto.buf ∙ i.input;
      plan = s.auto.plan ∙ i.plan;
      out = s.auto.out ∙ i.out;
    }
