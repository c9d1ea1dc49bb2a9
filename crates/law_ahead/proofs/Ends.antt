-- Looking ahead from one end of a period or of a life to the next. The order of step B stays up to the nearest end, so all intervals up to
-- there, the one that it comes with among them, are served as one. What is due by then is served first: a deadline is missed exactly where
-- more is due than there are slots. Otherwise looking ahead says, once what is over has ended, what it said before. Assumes nothing.
use Rattle.std.specs.Prelude.{◌≡◌, refl, Bool, true, false, cond, ◌&&◌, ◌||◌, List, [], ◌∷◌, map, ℕ, suc, ◌+◌, ◌*◌, ◌-◌, ◌≤◌, ◌<◌, min, leb, eqb, ltb, length}
use Rattle.std.proofs.Common.{sym, subst, ◌∙◌, ⊎_elim, zero-le, arith, leb-true, le-leb, ltb-true, ltb-false, lt-ltb, le-ltb, eqb-true, eq-eqb}
use Rattle.std.proofs.Math.Path.{ap, ap₂}
use Rattle.std.proofs.Math.Dec.{leb-suc-suc}
use Rattle.spec_lists.specs.Lists.{sum_of, any_of}
use Rattle.spec_lists.specs.All.{All}
use Rattle.base_lists.specs.Tests.{clash, either, same_test, and_false, or_right}
use Rattle.base_lists.specs.All.{all_map, all_zip, all_keep, all_of, all_unmap, none_any, any_none}
use Rattle.base_lists.specs.Sums.{sum_ext, sum_same, sum_tight}
use Rattle.base_lists.specs.Loops.{any_ext}
use Rattle.spec_model.specs.Entries.{free_entry, is_held, is_piece}
use Rattle.spec_model.specs.declared.Entry.{Entry}
use Rattle.spec_model.specs.declared.Table.{Table}
use Rattle.spec_model.specs.declared.Frame.{Frame}
use Rattle.spec_model.specs.Frames.{room_in}
use Rattle.spec_model.specs.Tables.{held_of, with_entries}
use Rattle.spec_rules.specs.Share.{overfull, step_b, sooner}
use Rattle.spec_rules.specs.Ahead.{standing, settled, misses}
use Rattle.spec_rules.specs.WellFormed.{Tidy}
use Rattle.law_model.specs.Names.{lower_nobody}
use Rattle.law_steps.specs.StepB.{step_b_of}
use Rattle.law_steps.specs.Closed.{takes}
use Rattle.law_steps.proofs.Closed.{takes_owed, takes_held, at_places}
use Rattle.law_ahead.specs.KeepsUp.{keeps_up_ahead}
use Rattle.law_ahead.specs.Loop.{looked_past}
use Rattle.law_ahead.proofs.Loop.{past_tidy, ahead_misses, ahead_turn}
use Rattle.law_ahead.specs.Served.{served, Lasts}
use Rattle.law_ahead.proofs.Served.{before_places, takes_more, served_more}
use Rattle.law_ahead.specs.Leap.{event_in, Quiet, E, skipped, ended, on_by}
use Rattle.law_ahead.proofs.Leap.{skipped_held, skipped_length, skipped_load, skipped_capacity}
use Rattle.law_ahead.proofs.Leap.{past_ended, leap_tidy, leap_ahead}
use Rattle.law_ahead.specs.Ends.{due_in, Until}

-- ---- what is due within n intervals
abbrev is_due : ℕ → Entry → Bool
is_due n e = is_piece e && leb e.left.0 n

-- comes after all that are due, and before all others
abbrev beyond : ℕ → Entry
beyond n = standing free_entry 0 0 0 (suc n)

before_beyond : (n : ℕ) (f : Entry) → sooner f (beyond n) ≡ leb f.left.0 n
before_beyond n f =
    rw (le-ltb f.kind 0 zero-le, lower_nobody f.name, and_false (eqb f.kind 0), and_false (eqb f.left.0 (suc n)))
    (go (ltb f.left.0 (suc n)) (leb-suc-suc f.left.0 n))
  where
    go : (b : Bool) {c : Bool} → b ≡ c → (b || false) ≡ c
    go true h = h
    go false h = h

-- of c slots at a table's places
module _ (t : Table) (w : Tidy t) (n c : ℕ) where
  abbrev ps : List Entry
  ps = t.entries

  abbrev of_due : (Entry → ℕ) → Entry → ℕ
  of_due v e = cond (is_piece e) (cond (leb e.left.0 n) (v e) 0) 0

  due_total : sum_of (of_due (takes c ps)) ps ≡ min c (due_in n ps)
  due_total = turned (takes c ps) ∙ before_places t w c (beyond n) ∙ ap (min c) (sym (turned (λ e. e.owed.0)))
    where
      turned : (v : Entry → ℕ) → sum_of (of_due v) ps ≡ sum_of (λ f. cond (is_piece f) (cond (sooner f (beyond n)) (v f) 0) 0) ps
      turned v = sum_same _ _ ps (λ f. ap (λ b. cond (is_piece f) (cond b (v f) 0) 0) (sym (before_beyond n f)))

  -- it gets all that it is owed
  abbrev Paid : Entry → Type 0
  Paid e = is_piece e ≡ true → leb e.left.0 n ≡ true → e.owed.0 ≤ takes c ps e

  due_paid : due_in n ps ≤ c → All Paid ps
  due_paid h =
      all_map (λ e k p l. rw (p, l) at k)
      (sum_tight (of_due (takes c ps)) (of_due (λ e. e.owed.0)) (all_of ps (λ e. less e (is_piece e) (leb e.left.0 n)))
      (omega (arith, due_total)))
    where
      less : (e : Entry) (a b : Bool) → cond a (cond b (takes c ps e) 0) 0 ≤ cond a (cond b e.owed.0 0) 0
      less e true true = takes_owed c ps e
      less e true false = zero-le
      less e false b = zero-le

  due_short : c < due_in n ps → All Paid ps → ⊥
  due_short h k =
      omega (
        arith,
        due_total,
        sum_ext (of_due (λ e. e.owed.0)) (of_due (takes c ps))
            (all_map (λ e q. same e (is_piece e) (leb e.left.0 n) q) k),
      )
    where
      same : (e : Entry) (a b : Bool) → (a ≡ true → b ≡ true → e.owed.0 ≤ takes c ps e)
          → cond a (cond b e.owed.0 0) 0 ≡ cond a (cond b (takes c ps e) 0) 0
      same e true true q = omega (arith, q refl refl, takes_owed c ps e)
      same e true false q = refl
      same e false b q = refl

any_map : {A B : Type 0} (p : B → Bool) (g : A → B) (xs : List A) → any_of p (map g xs) ≡ any_of (λ x. p (g x)) xs
any_map p g [] = refl
any_map p g (x ∷ xs) = ap (λ b. p (g x) || b) (any_map p g xs)

one_left : (m l : ℕ) → m < l → eqb (l - m) 1 ≡ leb l (suc m)
one_left m l h =
    same_test (eqb (l - m) 1) (leb l (suc m))
    (λ k. le-leb l (suc m) (omega (arith, eqb-true (l - m) 1 k)))
    (λ k. eq-eqb (l - m) 1 (omega (arith, leb-true l (suc m) k)))

less_left_lem : (a x b : ℕ) {c : ℕ} → x + a ≡ c → x ≤ b → ltb a (b - x) ≡ ltb c b
less_left_lem a x b {c} e h =
    same_test (ltb a (b - x)) (ltb c b)
    (λ k. lt-ltb c b (omega (arith, ltb-true a (b - x) k)))
    (λ k. lt-ltb a (b - x) (omega (arith, ltb-true c b k)))

module _ (m : ℕ) (t : Table) (w : Tidy t) (q : Until (suc m) t) where
  abbrev n : ℕ
  n = suc m

  abbrev u : Table
  u = skipped m t

  quiet : Quiet m t
  quiet = all_map (λ e h. omega arith) q

  there_tidy : Tidy u
  there_tidy = leap_tidy m t w quiet

  lasts : All (Lasts m) t.entries
  lasts = at_places t w (Lasts m) (λ z. absurd (clash false z refl)) (all_map one quiet)
    where
      one : (e : Entry) → m < event_in e → Lasts m e
      one e h p = omega (arith, ap (λ b. cond b e.left.0 e.life_left.0) p)

  whole : m * E t + 1 * E u ≡ n * E t
  whole = omega (arith, skipped_capacity m t, ap (λ c. 1 * c) (skipped_capacity m t))

  past_there : looked_past u ≡ ended n t
  unfolding settled
  past_there = past_ended u there_tidy ∙ ap (λ ps. with_entries t (map settled ps))
      (served_more t w m (m * E t) lasts 1 (1 * E u) ∙ ap₂ (λ a b. served a b t.entries) (omega arith) whole)

  pub turn_tidy : Tidy (ended n t)
  turn_tidy = subst Tidy past_there (past_tidy u there_tidy)

  -- ---- the interval of the end
  abbrev F : Frame
  F = t.frame

  -- what it gives an entry besides what those before it gave
  taken : All (λ e. takes (m * E t) t.entries e + step_b_of F (held_of u) (on_by m t e) ≡ takes (n * E t) t.entries e) (held_of t)
  taken =
      all_zip one (all_keep is_held (λ e h k. k) (takes_more t w m (m * E t) lasts (E u)))
      (all_unmap _ (on_by m t) (held_of t) served_there)
    where
      served_there : All (λ e. step_b_of F (held_of u) e ≡ takes (E u) u.entries e) (map (on_by m t) (held_of t))
      served_there = subst (All (λ e. step_b_of F (held_of u) e ≡ takes (E u) u.entries e)) (skipped_held m t) (takes_held u there_tidy)

      one : (e : Entry) → takes (m * E t) t.entries e + takes (E u) u.entries (on_by m t e) ≡ takes (m * E t + E u) t.entries e
          → step_b_of F (held_of u) (on_by m t e) ≡ takes (E u) u.entries (on_by m t e)
          → takes (m * E t) t.entries e + step_b_of F (held_of u) (on_by m t e) ≡ takes (n * E t) t.entries e
      one e h k = omega (arith, h, k, ap (λ c. takes c t.entries e) more)
        where
          more : m * E t + E u ≡ n * E t
          more = omega (arith, whole)

  abbrev is_late : Entry → Bool
  is_late e = is_due n e && ltb (takes (n * E t) t.entries e) e.owed.0

  late_there : any_of (misses (step_b F (held_of u))) (held_of u) ≡ any_of is_late (held_of t)
  late_there =
      ap (any_of (misses (step_b F (held_of u)))) (skipped_held m t)
      ∙ any_map (misses (step_b F (held_of u))) (on_by m t) (held_of t)
      ∙ any_ext _ is_late (all_zip one quiet taken)
    where
      one : (e : Entry) → m < event_in e
          → takes (m * E t) t.entries e + step_b_of F (held_of u) (on_by m t e) ≡ takes (n * E t) t.entries e
          → misses (step_b F (held_of u)) (on_by m t e) ≡ is_late e
      one e h k = go (is_piece e) h
        where
          go : (b : Bool) → m < cond b e.left.0 e.life_left.0
              → (b && (eqb (e.left.0 - m) 1 && ltb (step_b_of F (held_of u) (on_by m t e)) (on_by m t e).owed.0))
              ≡ ((b && leb e.left.0 n) && ltb (takes (n * E t) t.entries e) e.owed.0)
          go true l =
              ap₂ ◌&&◌ (one_left m e.left.0 l)
              (less_left_lem _ (takes (m * E t) t.entries e) e.owed.0 k (takes_owed (m * E t) t.entries e))
          go false l = refl

  late_none : due_in n t.entries ≤ n * E t → any_of is_late (held_of t) ≡ false
  late_none h = none_any is_late (all_keep is_held (λ e z k. go e (is_piece e) (leb e.left.0 n) k) (due_paid t w n (n * E t) h))
    where
      go : (e : Entry) (a b : Bool) → (a ≡ true → b ≡ true → e.owed.0 ≤ takes (n * E t) t.entries e)
          → ((a && b) && ltb (takes (n * E t) t.entries e) e.owed.0) ≡ false
      go e true true k = le-ltb _ _ (k refl refl)
      go e true false k = refl
      go e false b k = refl

  late_some : n * E t < due_in n t.entries → any_of is_late (held_of t) ≡ true
  late_some h = ⊎_elim (λ k. k) (λ k. absurd (due_short t w n (n * E t) h (paid k))) (either (any_of is_late (held_of t)))
    where
      one : (e : Entry) → is_late e ≡ false → Paid t w n (n * E t) e
      one e z p l = ltb-false _ _ (rw (p, l) at z)

      paid : any_of is_late (held_of t) ≡ false → All (Paid t w n (n * E t)) t.entries
      paid k = at_places t w (Paid t w n (n * E t)) (λ z l. absurd (clash false z refl)) (all_map one (any_none is_late (held_of t) k))

  -- ---- what looking ahead says
  module _ (l : 1 ≤ length (held_of t)) (o : overfull F (held_of t) ≡ false) where
    there_some : 1 ≤ length (held_of u)
    there_some = omega (arith, skipped_length m t)

    there_full : overfull F (held_of u) ≡ false
    there_full = ap (ltb (room_in F)) (skipped_load m t) ∙ o

    pub turn_misses : n * E t < due_in n t.entries → keeps_up_ahead F (held_of t) ≡ false
    turn_misses h =
        sym (leap_ahead m t w quiet l o) ∙ ahead_misses u there_tidy there_some
        (or_right (overfull F (held_of u)) _ (late_there ∙ late_some h))

    pub turn_same : due_in n t.entries ≤ n * E t → keeps_up_ahead F (held_of (ended n t)) ≡ keeps_up_ahead F (held_of t)
    turn_same h =
        ap (λ x. keeps_up_ahead F (held_of x)) (sym past_there)
        ∙ ahead_turn u there_tidy there_some there_full (late_there ∙ late_none h)
        ∙ leap_ahead m t w quiet l o
