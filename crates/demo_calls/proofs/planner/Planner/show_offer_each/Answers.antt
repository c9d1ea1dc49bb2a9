-- A turn is one offer more. Assumes nothing.
use Rattle.std.proofs.Common.{ℕ, ◌+◌, ◌-◌, ◌≡◌, ap, subst, ◌∙◌, fold, arith}
use Rattle.std.proofs.lemmas.List.Sums.{fold_push}
use Rattle.std.proofs.lemmas.List.FromFn.{map-range_with_len_more}
use Rattle.spec_model.specs.declared.Request.{Request}
use Rattle.spec_model.specs.declared.Table.{Table}
use Rattle.spec_rules.specs.Calls.{offered}
use Rattle.demo_calls.specs.Asked.{asked_by, asked_each}
use Rattle.demo_calls.proofs.planner.Planner.show_offer_each.Goals as goal

one_more : (t : Table) (q : Request) (n s : ℕ) → q.name.stream + n ≡ s
    → fold offered t (asked_each q (n + 1)) ≡ offered (fold offered t (asked_each q n)) (asked_by q s)
one_more t q n s e =
    ap (fold offered t) (map-range_with_len_more (asked_by q) q.name.stream n s e) ∙ fold_push offered t (asked_each q n) (asked_by q s)

pub loop-stream-preserved : goal.loop-stream-preserved
loop-stream-preserved g c =
    let q = c.args.q in
    let s = c.loop-stream.stream in
    let n = s - q.name.stream in
    let e : s + 1 - q.name.stream ≡ n + 1 = omega (arith, c.loop-stream.auto.stream) in
    record {
      within = omega arith;
      left = rw (e, one_more c.args.self.now q n s (omega arith), ← c.loop-stream.invariant.left) c.show_offer.ensures;
    }

pub returns : goal.returns
returns g c =
    let q = c.args.q in
    let e : c.loop-stream.stream - q.name.stream ≡ c.args.end - q.name.stream = omega (arith, c.loop-stream.invariant.within) in
    subst (λ n. c.loop-stream.self ≡ fold offered c.args.self.now (asked_each q n)) e c.loop-stream.invariant.left
