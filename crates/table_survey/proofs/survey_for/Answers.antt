use mathlib.Core.Path.{◌≡◌, ap, ◌∙◌}
use mathlib.Core.Bool.{true}
use Prim.Native.Nat.{◌≤◌}
use native.Mathlib.Omega.{arith}
use Rattle.base_lists.specs.All.{all_at}
use Rattle.base_lists.specs.First.{first_of}
use Rattle.spec_model.specs.Tables.{places}
use Rattle.spec_rules.specs.Share.{load_of}
use Rattle.law_model.specs.Frames.{most_slots}
use Rattle.law_steps.proofs.Closed.{load_most}
use Rattle.table_places.specs.Search.{found}
use Rattle.table_places.proofs.Known.{inside, past}
use Rattle.table_queue.specs.Queues.{free_place}
use Rattle.ahead_even.specs.Need.{even_need}
use Rattle.table_survey.specs.Free.{is_free}
use Rattle.table_survey.specs.Passes.{passed_none, passed_more, passed_all, free_needs}
use Rattle.table_survey.proofs.survey_for.Goals as goal

pub loop-i-init : goal.loop-i-init
loop-i-init c = (omega arith, passed_none _ _)

pub look_at-s-requires : goal.look_at-s-requires
look_at-s-requires c =
    let t = c.args.t in
    let l = c.loop-i.invariant in
    let i = c.loop-i-test.true in
    let h = inside t (omega arith) i in
    record {
      i_lt_places = (i, l.1.most);
      e_bound = (
        all_at (λ e. load_of e ≤ most_slots) t.entries _ (load_most t c.requires) _ h,
        all_at (λ e. is_free e ≡ true → even_need e ≡ 0) t.entries _ (free_needs t c.requires) _ h,
      );
    }

pub loop-i-preserved : goal.loop-i-preserved
loop-i-preserved c =
    let h = inside c.args.t (omega arith) c.loop-i-test.true in
    let e = c.look_at-s.ensures in
    (omega arith, passed_more _ h (free_place c.args.t c.requires _ _ h) c.loop-i.invariant.1 e.0 e.1)

pub returns : goal.returns
returns c =
    let v = c.loop-i.invariant in
    let e : c.loop-i.i ≡ places = omega arith in
    let a = passed_all c.args.t (omega arith) (past c.args.t (omega arith) c.loop-i-test.false) v.1 in
    (a.0, a.1 ∙ ap (λ n. found n (first_of is_free c.args.t.entries)) e, a.2, a.3)
