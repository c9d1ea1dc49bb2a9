-- Grants looked up by name, and lists of entries in which no name stands twice: there each entry has a grant of its own.
-- Assumes nothing.
use Rattle.std.specs.Prelude.{◌≡◌, refl, Bool, true, false, cond, List, [], ◌∷◌, map, ℕ, ◌+◌, ◌≤◌}
use Rattle.std.proofs.Common.{sym, ap, ◌∙◌, arith}
use Rattle.spec_lists.specs.Lists.{one_if, keep, sum_of, sort}
use Rattle.spec_lists.specs.All.{All, stop, and}
use Rattle.base_lists.specs.Tests.{one_if_true, one_if_false}
use Rattle.base_lists.specs.All.{all_map, all_zip}
use Rattle.base_lists.specs.Sums.{sum_zero, sum_keep_le, sum_sort, count_none}
use Rattle.spec_model.specs.declared.Name.{Name}
use Rattle.spec_model.specs.declared.Entry.{Entry}
use Rattle.spec_model.specs.Names.{same}
use Rattle.spec_model.specs.Entries.{is_named}
use Rattle.spec_rules.specs.Share.{Grant, grant, slots_for}
use Rattle.spec_rules.specs.WellFormed.{Once}
use Rattle.law_model.specs.Names.{same_refl, same_sym, same_true}

-- ---- a lookup
pub slots_here : (n : Name) (x : ℕ) (gs : List Grant) → slots_for n (grant n x ∷ gs) ≡ x
unfolding slots_for
slots_here n x gs = ap (λ b. cond b x (slots_for n gs)) (same_refl n)

pub slots_there : (m : Name) (x : ℕ) (n : Name) (gs : List Grant) → same m n ≡ false → slots_for n (grant m x ∷ gs) ≡ slots_for n gs
unfolding slots_for
slots_there m x n gs h = ap (λ b. cond b x (slots_for n gs)) h

pub slots_none : (n : Name) → slots_for n [] ≡ 0
unfolding slots_for
slots_none n = omega arith

-- ---- no name twice
pub once_tail : (e : Entry) (es : List Entry) → Once (e ∷ es) → Once es
once_tail e es w s = omega (arith, w s)

-- the first differs from all that follow
pub once_apart : (e : Entry) (es : List Entry) → Once (e ∷ es) → All (λ f. same e.name f.name ≡ false) es
once_apart e es w =
    all_map (λ f q. same_sym e.name f.name ∙ q)
    (count_none (is_named e.name) es (omega (arith, w e.name, one_if_true (same_refl e.name))))

pub once_cons : (e : Entry) (es : List Entry) → All (λ f. is_named e.name f ≡ false) es → Once es → Once (e ∷ es)
once_cons e es h w s = go (same e.name s) refl
  where
    go : (b : Bool) → same e.name s ≡ b → one_if b + sum_of (λ (f : Entry). one_if (is_named s f)) es ≤ 1
    go true q =
        omega (
          arith,
          sum_zero (λ (f : Entry). one_if (is_named s f))
              (all_map (λ f n. one_if_false (ap (same f.name) (sym (same_true e.name s q)) ∙ n)) h),
        )
    go false q = omega (arith, w s)

pub once_keep : (p : Entry → Bool) (es : List Entry) → Once es → Once (keep p es)
once_keep p es w s = omega (arith, w s, sum_keep_le (λ (e : Entry). one_if (is_named s e)) p es)

pub once_sort : (before : Entry → Entry → Bool) (es : List Entry) → Once es → Once (sort before es)
once_sort before es w s = omega (arith, w s, sum_sort (λ (e : Entry). one_if (is_named s e)) before es)

-- each entry finds its own
pub slots_map : (v : Entry → ℕ) (es : List Entry) → Once es
    → All (λ e. slots_for e.name (map (λ (f : Entry). grant f.name (v f)) es) ≡ v e) es
slots_map v [] w = stop
slots_map v (e ∷ es) w =
    let gs : List Grant = map (λ (f : Entry). grant f.name (v f)) es in
    and (slots_here e.name (v e) gs)
    (all_zip (λ f a h. slots_there e.name (v e) f.name gs a ∙ h) (once_apart e es w) (slots_map v es (once_tail e es w)))
