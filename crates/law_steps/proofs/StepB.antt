-- Step B: kinds 2 and 3 in their order take what they are owed. It is a greedy service by earliest deadline; in all it gives the smaller
-- of the capacity and what is owed; and what one takes has a closed form, which needs no order: the smaller of what it is owed and
-- what those before it leave. Assumes nothing.
use Rattle.std.specs.Prelude.{◌≡◌, true, false, cond, List, [], ◌∷◌, ℕ, ◌-◌, ◌≤◌, min}
use Rattle.std.proofs.Common.{sym, ap, subst, ◌∙◌, arith}
use Rattle.spec_lists.specs.Lists.{keep, sum_of}
use Rattle.spec_lists.specs.All.{All, stop, and}
use Rattle.base_lists.specs.All.{head, tail, all_map, all_zip, all_keep, all_kept, all_sort, all_sorted}
use Rattle.base_lists.specs.Sums.{sum_zero, sum_keep, sum_sort}
use Rattle.base_lists.specs.Sorted.{Sorted, none, first}
use Rattle.base_edf.specs.Time.{due}
use Rattle.base_edf.specs.Edf.{Greedy}
use Rattle.base_edf.proofs.Edf.{greedy_total}
use Rattle.base_edf.specs.Greedy.{Rising, flat, rise, Takes, none as nobody, take}
use Rattle.base_edf.proofs.Greedy.{order_greedy}
use Rattle.spec_model.specs.Entries.{is_piece}
use Rattle.spec_model.specs.declared.Entry.{Entry}
use Rattle.spec_model.specs.Names.{same}
use Rattle.spec_model.specs.declared.Frame.{Frame}
use Rattle.spec_rules.specs.Share.{Grant, grant, slots_for, capacity, sooner, order, take_turns, step_b, remains}
use Rattle.spec_rules.specs.WellFormed.{Once}
use Rattle.law_steps.proofs.Grants.{slots_here, slots_there, once_tail, once_apart, once_keep, once_sort}
use Rattle.law_steps.proofs.Order.{sooner_left, sooner_not_self, sooner_not_back, order_sorted}
use Rattle.law_steps.specs.StepB.{step_b_of, owing, turns_of, owed_before}

-- ---- the order, as a list
pub order_all : (P : Entry → Type 0) (es : List Entry) → All P (order es) → All (λ e. is_piece e ≡ true → P e) es
unfolding order
order_all P es h = all_kept P is_piece es (all_sorted P sooner (keep is_piece es) h)

pub all_order : {P : Entry → Type 0} {es : List Entry} → All (λ e. is_piece e ≡ true → P e) es → All P (order es)
unfolding order
all_order h = all_sort sooner (all_keep is_piece (λ e q f. f q) h)

pub order_sum : (f : Entry → ℕ) (es : List Entry) → sum_of f (order es) ≡ sum_of (λ e. cond (is_piece e) (f e) 0) es
unfolding order
order_sum f es = sum_sort f sooner (keep is_piece es) ∙ sum_keep f is_piece es

pub once_order : (es : List Entry) → Once es → Once (order es)
unfolding order
once_order es w = once_sort sooner (keep is_piece es) (once_keep is_piece es w)

-- ---- the turns
takes_ext : {g h : Entry → ℕ} {c : ℕ} {es : List Entry} → All (λ e. g e ≡ h e) es → Takes owing g c es → Takes owing h c es
takes_ext a nobody = nobody
takes_ext {h = h} a (take {c = c} {xs = xs} e t) =
    take (sym (head a) ∙ e) (subst (λ v. Takes owing h (c - v) xs) (head a) (takes_ext (tail a) t))

turns_take : (r : ℕ) (es : List Entry) → Once es → Takes owing (λ e. slots_for e.name (take_turns r es)) r es
unfolding take_turns
turns_take r [] w = nobody
turns_take r (e ∷ es) w =
    let t : ℕ = min e.owed.0 r in
    let rest : List Grant = take_turns (r - t) es in
    take (slots_here e.name t rest)
    (subst (λ v. Takes owing (λ f. slots_for f.name (grant e.name t ∷ rest)) (r - v) es) (sym (slots_here e.name t rest))
    (takes_ext (all_map (λ f n. sym (slots_there e.name t f.name rest n)) (once_apart e es w))
    (turns_take (r - t) es (once_tail e es w))))

sorted_rising : {es : List Entry} → Sorted sooner es → Rising owing es
sorted_rising none = flat
sorted_rising (first {x = e} a s) = rise (all_map (λ f h. sooner_left e f h) a) (sorted_rising s)

-- it is greedy by earliest deadline
turns_greedy : (c : ℕ) (es : List Entry) → Once es → Greedy owing (order es) (turns_of c es) c
turns_greedy c es w = order_greedy owing (sorted_rising (order_sorted es w)) (turns_take c (order es) (once_order es w))

slots_total : (r : ℕ) (es : List Entry) → sum_of (λ (g : Grant). g.slots) (take_turns r es) ≡ min r (sum_of (λ (e : Entry). e.owed.0) es)
unfolding take_turns
slots_total r [] = omega arith
slots_total r (e ∷ es) = omega (arith, slots_total (r - min e.owed.0 r) es)

-- in a sorted list: nobody comes before the first, and the first comes before all others
sorted_closed : (r : ℕ) (es : List Entry) → Sorted sooner es → Once es
    → All (λ x. slots_for x.name (take_turns r es)
    ≡ min x.owed.0 (r - sum_of (λ (f : Entry). cond (sooner f x) f.owed.0 0) es)) es
unfolding take_turns
sorted_closed r [] o w = stop
sorted_closed r (e ∷ es) (first a o) w =
    and {x = e}
    (omega (
      arith,
      slots_here e.name t rest,
      ap (λ b. cond b e.owed.0 0) (sooner_not_self e),
      sum_zero (λ (f : Entry). cond (sooner f e) f.owed.0 0)
          (all_map (λ f h. ap (λ b. cond b f.owed.0 0) (sooner_not_back e f h)) a),
    ))
    (all_zip (λ x h k. one x h.0 h.1 k)
    (all_zip {R = λ x. (sooner e x ≡ true) × (same e.name x.name ≡ false)} (λ x h k. (h, k)) a (once_apart e es w))
    (sorted_closed (r - t) es o (once_tail e es w)))
  where
    t : ℕ
    t = min e.owed.0 r

    rest : List Grant
    rest = take_turns (r - t) es

    before : Entry → List Entry → ℕ
    before x es = sum_of (λ (f : Entry). cond (sooner f x) f.owed.0 0) es

    one : (x : Entry) → sooner e x ≡ true → same e.name x.name ≡ false
        → slots_for x.name rest ≡ min x.owed.0 (r - t - before x es)
        → slots_for x.name (grant e.name t ∷ rest) ≡ min x.owed.0 (r - before x (e ∷ es))
    one x b q h =
        omega (arith, h, slots_there e.name t x.name rest q, ap (λ c. cond c e.owed.0 0) b)

-- ---- its laws, for any capacity
module _ (c : ℕ) (es : List Entry) (w : Once es) where
  turns_within : All (λ e. is_piece e ≡ true → turns_of c es e ≤ e.owed.0) es
  turns_within = order_all (λ e. turns_of c es e ≤ e.owed.0) es (turns_greedy c es w).within

  turns_due : (d : ℕ)
      → sum_of (λ e. cond (is_piece e) (due e.left.0 d (turns_of c es e)) 0) es
      ≡ min c (sum_of (λ (e : Entry). cond (is_piece e) (due e.left.0 d e.owed.0) 0) es)
  turns_due d =
      omega (
        arith,
        (turns_greedy c es w).first d,
        order_sum (λ e. due e.left.0 d (turns_of c es e)) es,
        order_sum (λ (e : Entry). due e.left.0 d e.owed.0) es,
      )

  pub turns_total : sum_of (λ e. cond (is_piece e) (turns_of c es e) 0) es ≡ min c (sum_of (λ (e : Entry). cond (is_piece e) e.owed.0 0) es)
  turns_total =
      omega (
        arith,
        greedy_total owing (turns_greedy c es w),
        order_sum (turns_of c es) es,
        order_sum (λ (e : Entry). e.owed.0) es,
      )

  -- what a piece takes
  pub turns_closed : All (λ x. is_piece x ≡ true → turns_of c es x ≡ min x.owed.0 (c - owed_before x es)) es
  turns_closed =
      order_all (λ x. turns_of c es x ≡ min x.owed.0 (c - owed_before x es)) es
      (all_map (λ x h. h ∙ ap (λ v. min x.owed.0 (c - v)) (order_sum (λ (f : Entry). cond (sooner f x) f.owed.0 0) es))
      (sorted_closed c (order es) (order_sorted es w) (once_order es w)))

-- ---- and for that of an interval
module _ (F : Frame) (es : List Entry) (w : Once es) where
  pub step_b_within : All (λ e. is_piece e ≡ true → step_b_of F es e ≤ e.owed.0) es
  unfolding step_b
  step_b_within = turns_within (capacity F es) es w

  -- those due within d together get all that they are owed, or the whole capacity
  pub step_b_due : (d : ℕ)
      → sum_of (λ e. cond (is_piece e) (due e.left.0 d (step_b_of F es e)) 0) es
      ≡ min (capacity F es) (sum_of (λ (e : Entry). cond (is_piece e) (due e.left.0 d e.owed.0) 0) es)
  unfolding step_b
  step_b_due = turns_due (capacity F es) es w

  pub step_b_total : sum_of (λ e. cond (is_piece e) (step_b_of F es e) 0) es
      ≡ min (capacity F es) (sum_of (λ (e : Entry). cond (is_piece e) e.owed.0 0) es)
  unfolding step_b
  step_b_total = turns_total (capacity F es) es w

  pub step_b_closed : All (λ x. is_piece x ≡ true → step_b_of F es x ≡ min x.owed.0 (capacity F es - owed_before x es)) es
  unfolding step_b
  step_b_closed = turns_closed (capacity F es) es w

  -- L is the capacity less what step B gives
  pub remains_rest : remains F es ≡ capacity F es - sum_of (λ e. cond (is_piece e) (step_b_of F es e) 0) es
  unfolding remains step_b
  remains_rest =
      omega (arith, slots_total (capacity F es) (order es), order_sum (λ (e : Entry). e.owed.0) es, step_b_total)
