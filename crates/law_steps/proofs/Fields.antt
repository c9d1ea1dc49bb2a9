-- What the checks of an offer's fields, refusals 12 to 15, say of a request: it passes them exactly where its fields are in the
-- ranges of its kind, which stand here as plain facts. Assumes nothing.
use Rattle.std.specs.Prelude.{◌≡◌, refl, Bool, true, false, ◌&&◌, ℕ, zero, suc, ◌*◌, ◌/◌, ◌%◌, ◌≤◌, leb, eqb}
use Rattle.std.proofs.Common.{sym, ◌∙◌, div-add-mod', arith, leb-true, le-leb, eqb-true, eq-eqb}
use Rattle.std.proofs.Math.Nat.{mul-mod_left}
use Rattle.std.proofs.Math.Decide.{ℕ_discrete}
use Rattle.spec_lists.specs.Lists.{within}
use Rattle.base_lists.specs.Tests.{and_both, both_and, within_both, both_within}
use Rattle.spec_model.specs.Requests.{refusal, in_order, range_checks, fraction_period, fraction_amounts, fraction_life, whole_period, whole_amounts}
use Rattle.spec_model.specs.Requests.{whole_life, transfer_period, transfer_amounts, transfer_life}
use Rattle.spec_model.specs.Answers.{fields_answer}
use Rattle.spec_model.specs.declared.Request.{Request}
use Rattle.spec_model.specs.declared.Frame.{Frame}
use Rattle.spec_model.specs.Frames.{slots_in, part_of}
use Rattle.law_steps.proofs.RequestLaws.{fields_fraction, fields_whole, fields_transfer, fields_unknown}
use Rattle.law_steps.specs.Fields.{FractionFields, WholeFields, TransferFields, Fields, fraction, whole, transfer}

-- ---- the tests
-- none of the refusals 13 to 15: all three fields are in range
in_ranges : (p a l : Bool) → refusal (range_checks p a l) ≡ 0 → (p ≡ true) × (a ≡ true) × (l ≡ true)
unfolding refusal
in_ranges true true true h = (refl, refl, refl)
in_ranges true true false h = absurd (omega arith)
in_ranges true false l h = absurd (omega arith)
in_ranges false a l h = absurd (omega arith)

no_refusal : {p a l : Bool} → p ≡ true → a ≡ true → l ≡ true → refusal (range_checks p a l) ≡ 0
unfolding refusal
no_refusal hp ha hl = rw (hp, ha, hl)

in_order_lem : (lowest least most largest : ℕ) → in_order lowest least most largest ≡ true
    → (lowest ≤ least) × (least ≤ most) × (most ≤ largest)
in_order_lem lowest least most largest h =
    let a = and_both (leb lowest least) (leb least most && leb most largest) h in
    let b = and_both (leb least most) (leb most largest) a.1 in
    omega (arith, leb-true)

order_in : (lowest least most largest : ℕ) → lowest ≤ least → least ≤ most → most ≤ largest
    → in_order lowest least most largest ≡ true
order_in lowest least most largest h k l = rw (le-leb lowest least h, le-leb least most k, le-leb most largest l)

-- a multiple of p that is not 0
multiple : (n p x : ℕ) → n * p ≡ x → 1 ≤ x → (count : ℕ) × (x ≡ suc count * p)
multiple zero p x e h = absurd (omega arith)
multiple (suc n) p x e h = (n, sym e)

-- ---- from the answer 0 to the fields
module _ (F : Frame) (q : Request) where
  fraction_of : q.kind ≡ 1 → fields_answer F q ≡ 0 → FractionFields F q
  fraction_of k h =
      let w =
      in_ranges (fraction_period (slots_in F) q.period) (fraction_amounts (slots_in F) q.period q.min q.max) (fraction_life q.life)
      (sym (fields_fraction F q k) ∙ h) in
      let p = and_both (within 2 16 q.period) (eqb (slots_in F % q.period) 0) w.0 in
      let parts = within_both 2 16 q.period p.0 in
      let amounts = in_order_lem 1 q.min q.max (part_of F q.period) w.1 in
      let life = within_both 1 65535 q.life w.2 in
      omega (arith, div-add-mod' (slots_in F) q.period, eqb-true (slots_in F % q.period) 0 p.1)

  -- The three tests hold, so the fields are in range; the life is not 0 and leaves no remainder, so it is some count of periods.
  whole_of : q.kind ≡ 2 → fields_answer F q ≡ 0 → WholeFields F q
  whole_of k h =
      let w =
      in_ranges (whole_period q.period) (whole_amounts (slots_in F) q.period q.min q.max) (whole_life q.period q.life)
      (sym (fields_whole F q k) ∙ h) in
      let period = within_both 1 255 q.period w.0 in
      let amounts = in_order_lem 1 q.min q.max (q.period * slots_in F) w.1 in
      let l = and_both (within 1 65535 q.life) (eqb (q.life % q.period) 0) w.2 in
      let life = within_both 1 65535 q.life l.0 in
      let none = eqb-true (q.life % q.period) 0 l.1 in
      let n = multiple (q.life / q.period) q.period q.life (omega (arith, div-add-mod' q.life q.period)) life.0 in
      record {
        kind = k;
        period_least = period.0;
        period_most = period.1;
        min_least = amounts.0;
        least = amounts.1;
        most = amounts.2;
        life_least = life.0;
        life_most = life.1;
        count = n.0;
        life_whole = n.1;
      }

  transfer_of_lem : q.kind ≡ 3 → fields_answer F q ≡ 0 → TransferFields q
  transfer_of_lem k h =
      let w =
      in_ranges (transfer_period q.period) (transfer_amounts q.min q.max) (transfer_life q.period q.life)
      (sym (fields_transfer F q k) ∙ h) in
      let period = within_both 1 65535 q.period w.0 in
      let amounts = and_both (leb 1 q.min) (eqb q.max 0) w.1 in
      omega (arith, leb-true 1 q.min amounts.0, eqb-true q.max 0 amounts.1, eqb-true q.life q.period w.2)

  -- by the kind; another one has the answer 12
  pub fields_of_lem : fields_answer F q ≡ 0 → Fields F q
  fields_of_lem h = go (ℕ_discrete q.kind 1) (ℕ_discrete q.kind 2) (ℕ_discrete q.kind 3)
    where
      go : Dec (q.kind ≡ 1) → Dec (q.kind ≡ 2) → Dec (q.kind ≡ 3) → Fields F q
      go (yes k) d₂ d₃ = fraction (fraction_of k h)
      go (no n₁) (yes k) d₃ = whole (whole_of k h)
      go (no n₁) (no n₂) (yes k) = transfer (transfer_of_lem k h)
      go (no n₁) (no n₂) (no n₃) = absurd (omega (arith, fields_unknown F q n₁ n₂ n₃))

  -- ---- and back
  -- each of the three tests of the kind holds, so no refusal applies
  pub of_fields : Fields F q → fields_answer F q ≡ 0
  of_fields (fraction f) =
      fields_fraction F q f.kind
      ∙ no_refusal
      (both_and (within 2 16 q.period) (eqb (slots_in F % q.period) 0) (both_within 2 16 q.period f.parts_least f.parts_most)
      (eq-eqb (slots_in F % q.period) 0 (omega (arith, f.whole, div-add-mod' (slots_in F) q.period))))
      (order_in 1 q.min q.max (part_of F q.period) f.min_least f.least f.most)
      (both_within 1 65535 q.life f.life_least f.life_most)
  of_fields (whole f) =
      fields_whole F q f.kind
      ∙ no_refusal
      (both_within 1 255 q.period f.period_least f.period_most)
      (order_in 1 q.min q.max (q.period * slots_in F) f.min_least f.least f.most)
      (both_and (within 1 65535 q.life) (eqb (q.life % q.period) 0) (both_within 1 65535 q.life f.life_least f.life_most)
      (eq-eqb (q.life % q.period) 0 (rw f.life_whole (mul-mod_left (suc f.count) q.period))))
  of_fields (transfer f) =
      fields_transfer F q f.kind
      ∙ no_refusal
      (both_within 1 65535 q.period f.period_least f.period_most)
      (both_and (leb 1 q.min) (eqb q.max 0) (le-leb 1 q.min f.min_least) (eq-eqb q.max 0 f.max_none))
      (eq-eqb q.life q.period f.life_once)
