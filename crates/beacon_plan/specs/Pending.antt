-- The runs that are to be recorded, where a pen has begun the first of them. Assumes nothing.
use Rattle.std.specs.Prelude.{◌≡◌, refl, Bool, true, false, cond, Option, None, Some, List, [], ◌∷◌, ◌++◌, ℕ, ◌+◌, ◌≤◌, eqb, length}
use Rattle.std.proofs.Common.{sym, ap, ◌∙◌, arith}
use borrow.Author.Tests.{ne_eqb, eqb-true}
use Rattle.base_lists.specs.Tests.{and_both}
use Rattle.spec_model.specs.Names.{same}
use Rattle.spec_rules.specs.Slots.{JobName, Run}
use Rattle.law_model.specs.Names.{same_true}
use Rattle.law_slots.specs.Events.{joined}
use Rattle.law_slots.proofs.Events.{joined_joined, joined_apart}
use Rattle.plan_record.specs.declared.Record.{Record}
use Rattle.plan_record.specs.declared.Pen.{Pen}
use Rattle.plan_record.specs.Recorded.{run_of}
use Rattle.plan_record.specs.Pens.{owner, slots_of, blank, run_in, open_run, grows, closed, longer, onward, anew, extended}

-- a run that may still grow, before the runs that follow it; a run of no slots is none
abbrev before : Option Record → List Run → List Run
before None rs = rs
before (Some r) rs = cond (eqb r.length.0 0) rs (joined r.length.0 r.start.0 (owner r) rs)

-- the runs that follow the records written, the pen's among them, where rs follow the pen's
unfoldable pub pending : Pen → List Run → List Run
pending p rs = before p.run rs

-- ---- the runs to come
pub pending_end : (p : Pen) → pending p [] ≡ open_run p
unfolding pending open_run joined
pending_end p = go p.run
  where
    go : (r : Option Record) → before r [] ≡ run_in r
    go None = refl
    go (Some r) = refl

pub pending_blank : (rs : List Run) → pending blank rs ≡ rs
unfolding pending
pending_blank rs = refl

module _ (p : Pen) (k : JobName) (t n : ℕ) (h : 1 ≤ n) (rs : List Run) where
  pending_anew : (c : ℕ) → pending (anew c k t n) rs ≡ joined n t k rs
  unfolding pending
  pending_anew c =
      let e : n ≡ 0 → ⊥ = λ z. omega arith in
      ap (λ b. before (cond b None (Some (slots_of k t n))) rs) (ne_eqb n 0 e) ∙ ap (λ b. cond b rs (joined n t k rs)) (ne_eqb n 0 e)

  -- slots that go on from the pen's run
  pending_grown : grows p.run k t ≡ true → pending (onward p n) rs ≡ pending p (joined n t k rs)
  unfolding pending
  pending_grown g = go p.run g
    where
      on : (r : Record) (l : ℕ) (b : Bool) → eqb l 0 ≡ b
          → joined (l + n) r.start.0 (owner r) rs
          ≡ cond b (joined n (r.start.0 + l) (owner r) rs) (joined l r.start.0 (owner r) (joined n (r.start.0 + l) (owner r) rs))
      on r l true g =
          let z : l ≡ 0 = eqb-true l 0 g in
          let x : r.start.0 + l ≡ r.start.0 = omega arith in
          let y : l + n ≡ n = omega arith in
          rw (x, y)
      on r l false g = sym (joined_joined l n r.start.0 (owner r) rs)

      go : (r : Option Record) → grows r k t ≡ true → before (longer r n) rs ≡ before r (joined n t k rs)
      go None g = absurd (cc)
      go (Some r) g =
          let a = and_both (same k.name r.name) _ g in
          let b = and_both (eqb k.number r.job) _ a.1 in
          let e : t ≡ r.start.0 + r.length.0 = eqb-true t (r.start.0 + r.length.0) b.1 in
          let f : r.length.0 + n ≡ 0 → ⊥ = λ z. omega arith in
          let o : k ≡ owner r =
          λ i. record { name = same_true k.name r.name a.0 i; number = eqb-true k.number r.job b.0 i } in
          rw (ne_eqb (r.length.0 + n) 0 f, o, e) (on r r.length.0 (eqb r.length.0 0) refl)

  -- slots that do not
  pending_apart : grows p.run k t ≡ false → open_run p ++ joined n t k rs ≡ pending p (joined n t k rs)
  unfolding pending open_run
  pending_apart g = go p.run g
    where
      go : (r : Option Record) → grows r k t ≡ false → run_in r ++ joined n t k rs ≡ before r (joined n t k rs)
      go None g = refl
      go (Some r) g = by_slots (eqb r.length.0 0)
        where
          by_slots : (b : Bool) → cond b [] (run_of r ∷ []) ++ joined n t k rs
              ≡ cond b (joined n t k rs) (joined r.length.0 r.start.0 (owner r) (joined n t k rs))
          by_slots true = refl
          by_slots false = sym (joined_apart r.length.0 r.start.0 (owner r) n t k rs g)

  -- the runs to come are the same: the one that ends, if any, and those after it
  pub extended_pending : closed p k t ++ pending (extended p k t n) rs ≡ pending p (joined n t k rs)
  unfolding closed extended
  extended_pending = go (grows p.run k t) refl
    where
      go : (b : Bool) → grows p.run k t ≡ b
          → cond b [] (open_run p) ++ pending (cond b (onward p n) (anew (p.count + length (open_run p)) k t n)) rs
          ≡ pending p (joined n t k rs)
      go true g = pending_grown g
      go false g = ap (λ l. open_run p ++ l) (pending_anew (p.count + length (open_run p))) ∙ pending_apart g
