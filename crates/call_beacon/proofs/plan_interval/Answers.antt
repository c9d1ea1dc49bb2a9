use Rattle.std.proofs.Common.{◌≡◌, true, ◌*◌, ◌++◌, length, drop, refl, sym, ap, subst, ◌∙◌, arith, lt-ltb, le-ltb}
use Rattle.std.specs.Prelude.{ltb}
use Rattle.spec_model.specs.declared.Table.{Table}
use Rattle.spec_rules.specs.Calls.{plan_of, beacon}
use Rattle.spec_rules.specs.Records.{record_words, words_of, plan_words}
use Rattle.spec_rules.specs.WellFormed.{Tidy}
use Rattle.table_queue.specs.Queues.{Used, Queued, queued_bounded}
use Rattle.table_queue.specs.declared.Queue.{Queue}
use Rattle.beacon_share.specs.declared.Shares.{Shares}
use Rattle.beacon_share.specs.Shares.{shares_among, shares_of, shares_by, shares_right}
use Rattle.beacon_extras.specs.Extras.{all_share}
use Rattle.call_beacon.specs.Moves.{stays_put, moves_on, none_beacon}
use Rattle.call_beacon.proofs.plan_interval.Goals as goal
use Rattle.call_beacon.proofs.plan_interval.Goals.{Joined-frame-gt0, then-frame-gt0, else-frame-gt0}

pub returns-then-plan-lt-PLAN_WORDS : goal.returns-then-plan-lt-PLAN_WORDS
unfolding beacon
returns-then-plan-lt-PLAN_WORDS c =
    let q : ltb (length c.args.plan.now) plan_words ≡ true = lt-ltb _ _ c.if-plan-lt-PLAN_WORDS.true in
    rw q (refl, (refl, (refl, stays_put refl refl)))

pub returns-then-q-eq0 : goal.returns-then-q-eq0
returns-then-q-eq0 c =
    let t = c.args.t in
    let idle = subst (λ n. Used n t) c.if-q-eq0.true c.queue_of-q.ensures.used in
    rw (none_beacon t idle c.args.plan.now (le-ltb _ _ c.if-plan-lt-PLAN_WORDS.false), c.nothing_planned.ensures)
    (refl, (refl, (refl, stays_put refl refl)))

pub shares_of-shares-requires : goal.shares_of-shares-requires
shares_of-shares-requires c = queued_bounded c.requires.tidy c.queue_of-q.ensures

-- where everyone takes part the shares by the queue are the table's
everyone : (t : Table) (w : Tidy t) {q : Queue} (k : Queued t q) {s : Shares} → s ≡ shares_by t.frame true q → s ≡ shares_among true t
everyone t w k e = e ∙ shares_right true t w k

pub shares_after-shares-requires : goal.shares_after-shares-requires
shares_after-shares-requires c =
    (c.requires.tidy, (c.queue_of-q.ensures, everyone c.args.t c.requires.tidy c.queue_of-q.ensures c.shares_of-shares.ensures))

-- without a header everyone does
shared : (j : Joined-frame-gt0) → j.if-frame-gt0.shares ≡ shares_of j.args.t
shared j =
    let t = j.args.t in
    elim j.if-frame-gt0.branch [
      | then-frame-gt0 w ↦ w.shares-is ∙ w.shares_after-shares.ensures
      | else-frame-gt0 w ↦ w.shares-is ∙ everyone t j.requires.tidy j.queue_of-q.ensures j.shares_of-shares.ensures
          ∙ ap (λ b. shares_among b t) (sym (all_share j.requires (omega (arith, w.if-frame-gt0.false))))
    ]

pub write_jobs-count-requires-clause-s_value : goal.write_jobs-count-requires-clause-s_value
write_jobs-count-requires-clause-s_value c = shared (goal.at.write_jobs-count-requires-clause-s_value c).Joined-frame-gt0

pub returns : goal.returns
unfolding beacon
returns c =
    let a = c.args in
    let e = c.write_jobs-count.ensures in
    let long = le-ltb _ _ c.if-plan-lt-PLAN_WORDS.false in
    let words = e.1 ∙ ap (λ n. words_of (plan_of a.t) ++ drop (record_words * n) a.plan.now) e.0 in
    let held = moves_on c.if-q-eq0.false (c.requires.tidy, c.queue_of-q.ensures.used) in (
      rw long,
      (
        rw long e.0,
        (rw long words, rw long (held (shared (goal.at.returns c).Joined-frame-gt0, refl))),
      ),
    )
