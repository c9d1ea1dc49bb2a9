-- What an assignment of the coming slots owes an admission is what it owes the entry: the periods of its life that are not over are
-- the one that runs, which gets what the entry is owed, and those that follow. Assumes nothing.
use Rattle.std.specs.Prelude.{◌≡◌, ◌≢◌, ◌↔◌, ℕ, suc, ◌+◌, ◌*◌, ◌-◌, ◌≤◌, ◌<◌, length}
use Rattle.std.proofs.Common.{sym, ap₂, ◌∙◌, lt_of_mul-lt-mul_right, arith}
use Rattle.std.proofs.Math.Decide.{dec_le}
use Rattle.spec_lists.specs.Lists.{span}
use Rattle.spec_model.specs.Frames.{slots_in}
use Rattle.spec_model.specs.Entries.{asks}
use Rattle.spec_model.specs.declared.Frame.{Frame}
use Rattle.spec_model.specs.declared.Entry.{Entry}
use Rattle.spec_rules.specs.WellFormed.{Held}
use Rattle.spec_demand.specs.Assignment.{Assignment, assigned}
use Rattle.law_exact.specs.Entries.{ServesEntry}
use Rattle.law_steps.specs.Held.{Piece}
use Rattle.law_steps.proofs.Held.{other_piece}
use Rattle.spec_demand.specs.Ledger.{Admission}
use Rattle.spec_demand.specs.Demand.{had, Serves}
use Rattle.law_demand.specs.Had.{had_none}
use Rattle.law_demand.specs.Link.{Runs, Linked, SameFields, same_fields, run_begun, run_open, run_only}

-- ---- the periods of a piece, where coming interval k gives it to k slots
module _ {F : Frame} {h : Admission} {e : Entry} (p : Piece F e) (r : Runs F h e) (to : ℕ → ℕ) where
  abbrev per : ℕ
  per = e.period.0

  abbrev now : ℕ
  now = length h.plans

  -- period i gets its minimum, less what it has had
  abbrev Served : ℕ → Type 0
  Served i = asks e - had F h (i * per) (suc i * per) ≤ span to (i * per - now) (suc i * per - now)

  -- so does each in its life that is not over
  abbrev AllServed : Type 0
  AllServed = (i : ℕ) → suc i * per ≤ now + e.life_left.0 → now < suc i * per → Served i

  -- the one that runs gets what is owed
  abbrev RunServed : Type 0
  RunServed = e.owed.0 ≤ span to 0 e.left.0

  served_running : Served r.nth ↔ RunServed
  served_running =
      let from : r.nth * per - now ≡ 0 = omega (arith, run_begun p r) in
      let up_to : suc r.nth * per - now ≡ e.left.0 = omega (arith, r.ends) in
      omega (arith, p.owed, r.given, ap₂ (span to) from up_to)

  -- the i-th that follows gets its minimum; it is period nth + 1 + i, and has had nothing yet
  abbrev LaterServed : ℕ → Type 0
  LaterServed i = asks e ≤ span to (e.left.0 + i * per) (e.left.0 + suc i * per)

  served_later : (i : ℕ) → Served (suc r.nth + i) ↔ LaterServed i
  served_later i =
      let n = suc r.nth + i in
      let from : n * per - now ≡ e.left.0 + i * per = omega (arith, r.ends) in
      let up_to : suc n * per - now ≡ e.left.0 + suc i * per = omega (arith, r.ends) in
      omega (arith, had_none F h (n * per) (suc n * per) (omega (arith, r.ends)), ap₂ (span to) from up_to)

  -- ---- each period that is not over is the one that runs or follows it
  all_running : AllServed → RunServed
  all_running f = served_running.0 (f r.nth (omega (arith, p.lives, r.ends)) (run_open p r))

  all_later : AllServed → (i : ℕ) → e.left.0 + suc i * per ≤ e.life_left.0 → LaterServed i
  all_later f i w = (served_later i).0 (f (suc r.nth + i) (omega (arith, r.ends)) (omega (arith, r.ends)))

  all_served : RunServed → ((i : ℕ) → e.left.0 + suc i * per ≤ e.life_left.0 → LaterServed i) → AllServed
  all_served run later i w v =
      elim (dec_le (i * per) now) [
        | yes q ↦ rw (run_only p r i q v) (served_running.1 run)
        | no q ↦
            let past : r.nth < i = lt_of_mul-lt-mul_right per (omega (arith, run_begun p r)) in
            follows (i - suc r.nth) (omega arith)
      ]
    where
      follows : (k : ℕ) → i ≡ suc r.nth + k → Served i
      follows k same = rw same ((served_later k).1 (later k (omega (arith, rw same at w, r.ends))))

-- ---- a held entry
-- what an assignment gives an entry in coming interval k
abbrev to_entry : Frame → Assignment → Entry → ℕ → ℕ
to_entry F a e k = assigned a e.name k 0 (slots_in F)

-- The entry has the fields of the request, so what is said of the one is what is said of the other, but for the periods of pieces:
-- above.
module _ {F : Frame} {a : Assignment} {h : Admission} {e : Entry} (d : Held F e) (l : Linked F h e) where
  pub serves_entry : Serves F a h → ServesEntry F a e
  serves_entry v =
      record {
        fractions = λ k i j w q. rw (s.name, s.parts k, s.asks)
            (v.fractions (sym s.kind ∙ k) i j (omega (arith, l.life)) (omega (arith, s.parts k)));
        running = λ n. all_running (other_piece d n) (l.runs n) (to_entry F a e) (all n);
        later = λ n. all_later (other_piece d n) (l.runs n) (to_entry F a e) (all n);
      }
    where
      s : SameFields e h.request
      s = same_fields e l.request

      all : (n : e.kind ≢ 1) → AllServed (other_piece d n) (l.runs n) (to_entry F a e)
      all n i w q =
          rw (s.name, s.period n, s.asks)
          (v.periods (λ k. n (s.kind ∙ k)) i (omega (arith, rw (s.period n) at w, l.life)) (rw (s.period n) at q))

  pub entry_serves : ServesEntry F a e → Serves F a h
  entry_serves v =
      let s = same_fields e l.request in
      record {
        fractions = λ k i j w q.
            let z = s.kind ∙ k in
            rw (s.name, s.parts z, s.asks) at (v.fractions z i j (omega (arith, l.life)) (omega (arith, s.parts z)));
        periods = λ z i w q.
            let n : e.kind ≢ 1 = λ k. z (sym s.kind ∙ k) in
            let all = all_served (other_piece d n) (l.runs n) (to_entry F a e) (v.running n) (v.later n) in
            rw (s.name, s.period n, s.asks) at (all i (rw (s.period n) (omega (arith, l.life))) (rw (s.period n) q));
      }
