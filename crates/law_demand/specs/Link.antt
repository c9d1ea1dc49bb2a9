-- One admission and its entry of the table: the entry holds the request, its life and its intervals left are told by the number of
-- plans, and what it was given is what the plans gave it in the period that runs. So it is when a request is accepted, and then no
-- period is completed. Assumes nothing.
use Rattle.std.specs.Prelude.{◌≡◌, ◌≢◌, ℕ, suc, ◌+◌, ◌*◌, ◌≤◌, ◌<◌, length}
use Rattle.std.proofs.Common.{sym, ap, zero-le, lt_of_mul-lt-mul_right, arith, eq-eqb, ne_eqb}
use Rattle.spec_model.specs.Answers.{fields_answer}
use Rattle.spec_model.specs.Entries.{asks, entry_of}
use Rattle.spec_model.specs.Answers.{request_of}
use Rattle.spec_model.specs.declared.Frame.{Frame}
use Rattle.spec_model.specs.declared.Entry.{Entry}
use Rattle.spec_model.specs.declared.Request.{Request}
use Rattle.law_steps.specs.Fields.{Fields, fraction, whole, transfer}
use Rattle.law_steps.proofs.Fields.{fields_of_lem}
use Rattle.law_steps.specs.Held.{Piece}
use Rattle.law_steps.proofs.Held.{request_back}
use Rattle.spec_demand.specs.Ledger.{Admission, asked_by, begins}
use Rattle.spec_demand.specs.Demand.{had, Kept}
use Rattle.law_demand.specs.Had.{had_none}

-- kinds 2 and 3: the period that runs is number nth, it ends when the intervals left are over, and it was given what the plans say
pub record Runs (F : Frame) (h : Admission) (e : Entry) : Type 0 where
  pub nth : ℕ
  pub ends : length h.plans + e.left.0 ≡ suc nth * e.period.0
  pub given : e.given.0 ≡ had F h (nth * e.period.0) (suc nth * e.period.0)

-- the entry holds the request, and its life left and the plans so far make up the life
pub record Linked (F : Frame) (h : Admission) (e : Entry) : Type 0 where
  pub request : request_of e ≡ h.request
  pub life : e.life_left.0 + length h.plans ≡ h.request.life
  pub runs : e.kind ≢ 1 → Runs F h e

-- ---- the fields of an entry that holds a request; the period field is its parts or its period, by kind
pub record SameFields (e : Entry) (q : Request) : Type 0 where
  pub name : e.name ≡ q.name
  pub kind : e.kind ≡ q.kind
  pub parts : e.kind ≡ 1 → e.parts ≡ q.period
  pub period : e.kind ≢ 1 → e.period.0 ≡ q.period
  pub least : e.min.0 ≡ q.min
  pub most : e.max.0 ≡ q.max
  pub asks : asks e ≡ asked_by q
  pub life : e.life.0 ≡ q.life

pub same_fields : (e : Entry) {q : Request} → request_of e ≡ q → SameFields e q
unfolding request_of
same_fields e r =
    record {
      name = ap (λ (x : Request). x.name) r;
      kind = ap (λ (x : Request). x.kind) r;
      parts = λ k. rw (eq-eqb e.kind 1 k) at (ap (λ (x : Request). x.period) r);
      period = λ n. rw (ne_eqb e.kind 1 n) at (ap (λ (x : Request). x.period) r);
      least = ap (λ (x : Request). x.min) r;
      most = ap (λ (x : Request). x.max) r;
      asks = ap (λ (x : Request). asked_by x) r;
      life = ap (λ (x : Request). x.life) r;
    }

-- ---- the period that runs
module _ {F : Frame} {h : Admission} {e : Entry} (p : Piece F e) (r : Runs F h e) where
  -- it has begun, and is not over
  pub run_begun : r.nth * e.period.0 ≤ length h.plans
  run_begun = omega arith

  pub run_open : length h.plans < suc r.nth * e.period.0
  run_open = omega arith

  -- no other has
  pub run_only : (i : ℕ) → i * e.period.0 ≤ length h.plans → length h.plans < suc i * e.period.0 → i ≡ r.nth
  run_only i a b =
      omega (
        arith,
        lt_of_mul-lt-mul_right e.period.0 {m = i} {n = suc r.nth} (omega (arith, run_open)),
        lt_of_mul-lt-mul_right e.period.0 {m = r.nth} {n = suc i} (omega (arith, run_begun)),
      )

  -- a transfer has the first alone
  pub run_transfer : Linked F h e → e.kind ≡ 3 → r.nth ≡ 0
  run_transfer l k =
      let none = ap (λ v. v * e.period.0) (p.once k) in
      sym (run_only 0 (omega arith) (omega (arith, p.life_once k, (same_fields e l.request).life)))

-- ---- when a request is accepted
pub begins_linked : (F : Frame) (q : Request) → Linked F (begins q) (entry_of q)
unfolding entry_of
begins_linked F q =
    record {
      request = request_back q;
      life = omega arith;
      runs = λ n. record {
        nth = 0;
        ends = omega arith;
        given = sym (had_none F (begins q) (0 * (entry_of q).period.0) (1 * (entry_of q).period.0) zero-le);
      };
    }

-- a request that passes the checks has a period
pub period_some : (F : Frame) (q : Request) → fields_answer F q ≡ 0 → 1 ≤ q.period
period_some F q h = go (fields_of_lem F q h)
  where
    go : Fields F q → 1 ≤ q.period
    go (fraction f) = omega arith
    go (whole f) = omega arith
    go (transfer f) = omega arith

-- and then no period is completed yet
pub begins_kept : (F : Frame) (q : Request) → 1 ≤ q.period → Kept F (begins q)
begins_kept F q h =
    record {
      fractions = λ k i j w. absurd (omega arith);
      wholes = λ k i w. absurd (omega arith);
      transfer = λ k w. absurd (omega arith);
    }
