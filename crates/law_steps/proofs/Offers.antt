-- What an offer answers: the first of its checks that applies, the last of which is looking ahead. An offer that passes every other
-- check answers 0 or 17; a request that is accepted is in range, its stream is not held, and a place is free. Assumes nothing.
use Rattle.std.specs.Prelude.{◌≡◌, refl, ◌⊎◌, ◌≢◌, Bool, true, false, cond, not, List, [], ◌∷◌, ◌++◌, ℕ, ◌≤◌, eqb}
use Rattle.std.proofs.Common.{sym, ◌∙◌, ⊎_elim, append_assoc, append-nil, zero-le, arith}
use Rattle.std.proofs.Math.Path.{ap}
use Rattle.std.proofs.Math.Decide.{ℕ_discrete}
use Rattle.std.proofs.lemmas.Bool.{not-false}
use Rattle.spec_lists.specs.All.{stop, and}
use Rattle.base_lists.specs.All.{head, tail, all_map, all_append, all_left, all_right}
use Rattle.spec_model.specs.Requests.{Check, check, refusal, fraction_checks, whole_checks, transfer_checks, field_checks}
use Rattle.spec_model.specs.Answers.{fields_answer}
use Rattle.spec_model.specs.declared.Request.{Request}
use Rattle.spec_model.specs.declared.Table.{Table}
use Rattle.spec_model.specs.Names.{name_in_range}
use Rattle.spec_model.specs.declared.Frame.{Frame}
use Rattle.spec_model.specs.Frames.{slots_in}
use Rattle.spec_rules.specs.Calls.{holds, offer_answer}
use Rattle.law_steps.specs.Offers.{Numbered, NoneApplies, offer_checks_but, Passed, F, is_full, has_time}

pub refusal_none : {m : ℕ} (cs : List Check) → Numbered m cs → refusal cs ≡ 0 → NoneApplies cs
unfolding refusal
refusal_none [] n h = stop
refusal_none (c ∷ cs) n h = go c.applies refl h (refusal_none cs (tail n))
  where
    go : (b : Bool) → c.applies ≡ b → cond b c.number (refusal cs) ≡ 0 → (refusal cs ≡ 0 → NoneApplies cs) → NoneApplies (c ∷ cs)
    go true q z r = absurd (omega (arith, (head n).0))
    go false q z r = and q (r z)

pub none_refusal : {cs : List Check} → NoneApplies cs → (ds : List Check) → refusal (cs ++ ds) ≡ refusal ds
unfolding refusal
none_refusal stop ds = refl
none_refusal (and {x = c} {xs = cs} q h) ds = ap (λ b. cond b c.number (refusal (cs ++ ds))) q ∙ none_refusal h ds

-- what refuses comes before what follows
pub refusal_stops : (cs ds : List Check) → refusal cs ≢ 0 → refusal (cs ++ ds) ≡ refusal cs
unfolding refusal
refusal_stops [] ds h = absurd (h refl)
refusal_stops (c ∷ cs) ds h = go c.applies h (refusal_stops cs ds)
  where
    go : (b : Bool) → cond b c.number (refusal cs) ≢ 0 → (refusal cs ≢ 0 → refusal (cs ++ ds) ≡ refusal cs)
        → cond b c.number (refusal (cs ++ ds)) ≡ cond b c.number (refusal cs)
    go true q r = refl
    go false q r = r q

pub refusal_most : (m : ℕ) (cs : List Check) → Numbered m cs → refusal cs ≤ m
unfolding refusal
refusal_most m [] n = zero-le
refusal_most m (c ∷ cs) n = go c.applies (refusal_most m cs (tail n))
  where
    go : (b : Bool) → refusal cs ≤ m → cond b c.number (refusal cs) ≤ m
    go true r = (head n).1
    go false r = r

numbered : {m : ℕ} (n : ℕ) {b : Bool} {cs : List Check} → 1 ≤ n → n ≤ m → Numbered m cs → Numbered m (check n b ∷ cs)
numbered n h k r = and (h, k) r

ranges_numbered : {x y z : Bool} → Numbered 15 (check 13 x ∷ check 14 y ∷ check 15 z ∷ [])
ranges_numbered =
    numbered 13 (omega arith) (omega arith) (numbered 14 (omega arith) (omega arith) (numbered 15 (omega arith) (omega arith) stop))

pub fields_numbered : (F : Frame) (q : Request) → Numbered 15 (field_checks F q)
unfolding field_checks
fields_numbered F q = go (eqb q.kind 1) (eqb q.kind 2) (eqb q.kind 3)
  where
    go : (x y z : Bool)
        → Numbered 15
        (cond x (fraction_checks (slots_in F) q.period q.min q.max q.life)
        (cond y (whole_checks (slots_in F) q.period q.min q.max q.life)
        (cond z (transfer_checks q.period q.min q.max q.life)
        (check 12 true ∷ []))))
    go true y z = ranges_numbered
    go false true z = ranges_numbered
    go false false true = ranges_numbered
    go false false false = numbered 12 (omega arith) (omega arith) stop

pub checks_numbered : (held full : Bool) (F : Frame) (q : Request) → Numbered 16 (offer_checks_but held full F q)
checks_numbered held full F q =
    numbered 10 (omega arith) (omega arith)
    (numbered 11 (omega arith) (omega arith)
    (all_append (all_map (λ c n. (n.0, omega arith)) (fields_numbered F q)) (numbered 16 (omega arith) (omega arith) stop)))

pub checks_passed : (held full : Bool) (F : Frame) (q : Request) → refusal (offer_checks_but held full F q) ≡ 0 → Passed held full F q
unfolding fields_answer refusal
checks_passed held full F q h =
    let n = refusal_none (offer_checks_but held full F q) (checks_numbered held full F q) h in
    let rest = tail (tail n) in
    let quiet : Check → Type 0 = λ c. c.applies ≡ false in
    record {
      name = not-false (name_in_range q.name) (head n);
      free = head (tail n);
      fields = ap refusal (sym (append-nil (field_checks F q)))
          ∙ none_refusal (all_left quiet (field_checks F q) (check 16 full ∷ []) rest) [];
      place = head (all_right quiet (field_checks F q) (check 16 full ∷ []) rest);
    }

module _ (t : Table) (q : Request) where
  -- all checks: those but the last, and the last
  answer_checks : offer_answer t q ≡ refusal (offer_checks_but (holds t q.name) (is_full t q) (F t q) q ++ (check 17 (not (has_time t q)) ∷ []))
  unfolding offer_answer
  answer_checks =
      ap (λ cs. refusal (check 10 (not (name_in_range q.name)) ∷ check 11 (holds t q.name) ∷ cs))
      (sym (append_assoc (field_checks (F t q) q) (check 16 (is_full t q) ∷ []) (check 17 (not (has_time t q)) ∷ [])))

  pub offer_refused : refusal (offer_checks_but (holds t q.name) (is_full t q) (F t q) q) ≢ 0
      → offer_answer t q ≡ refusal (offer_checks_but (holds t q.name) (is_full t q) (F t q) q)
  offer_refused h = answer_checks ∙ refusal_stops (offer_checks_but (holds t q.name) (is_full t q) (F t q) q) (check 17 (not (has_time t q)) ∷ []) h

  pub offer_passed : refusal (offer_checks_but (holds t q.name) (is_full t q) (F t q) q) ≡ 0 → offer_answer t q ≡ cond (not (has_time t q)) 17 0
  unfolding refusal
  offer_passed h =
      answer_checks
      ∙ none_refusal
      (refusal_none (offer_checks_but (holds t q.name) (is_full t q) (F t q) q) (checks_numbered (holds t q.name) (is_full t q) (F t q) q) h)
      (check 17 (not (has_time t q)) ∷ [])

  -- 0 where looking ahead says yes, and 17 where it says no
  pub answer_fits : refusal (offer_checks_but (holds t q.name) (is_full t q) (F t q) q) ≡ 0 → offer_answer t q ≡ 0 → (has_time t q) ≡ true
  answer_fits h a = go (has_time t q) (sym (offer_passed h) ∙ a)
    where
      go : (b : Bool) → ◌≡◌ {A = ℕ} (cond (not b) 17 0) 0 → b ≡ true
      go true z = refl
      go false z = absurd (omega arith)

  pub answer_not : refusal (offer_checks_but (holds t q.name) (is_full t q) (F t q) q) ≡ 0 → offer_answer t q ≡ 17 → (has_time t q) ≡ false
  answer_not h a = go (has_time t q) (sym (offer_passed h) ∙ a)
    where
      go : (b : Bool) → ◌≡◌ {A = ℕ} (cond (not b) 17 0) 17 → b ≡ false
      go true z = absurd (omega arith)
      go false z = refl

  -- an offer that answers 0 or 17 has passed every other check
  pub answer_passed : (offer_answer t q ≡ 0) ⊎ (offer_answer t q ≡ 17) → refusal (offer_checks_but (holds t q.name) (is_full t q) (F t q) q) ≡ 0
  answer_passed h = go (ℕ_discrete (refusal cs) 0)
    where
      cs : List Check
      cs = offer_checks_but (holds t q.name) (is_full t q) (F t q) q

      go : Dec (refusal cs ≡ 0) → refusal cs ≡ 0
      go (yes z) = z
      go (no z) =
          absurd (⊎_elim (λ a. z (sym (offer_refused z) ∙ a))
          (λ a. (let m = refusal_most 16 cs (checks_numbered (holds t q.name) (is_full t q) (F t q) q) in omega (arith, offer_refused z))) h)
