-- The laws by which a plain loop over intervals computes looking ahead: over a table, steps A, B and F in turn, until nothing is held.
-- Each turn leaves the table tidy and the longest life one shorter; looking ahead says no where the turn misses, and otherwise what it
-- says after the turn. Assumes nothing.
use Rattle.std.specs.Prelude.{◌≡◌, refl, true, ◌||◌, List, [], ◌∷◌, length}
use Rattle.std.proofs.Common.{sym, ap₂, ◌∙◌, arith}
use Rattle.std.proofs.Math.Path.{ap}
use Rattle.std.proofs.Math.Bool.{false, cond}
use Prim.Native.Nat.{ℕ, suc, ◌-◌, ◌≤◌}
use Rattle.spec_lists.specs.Lists.{most_of, any_of}
use Rattle.spec_lists.specs.All.{All}
use Rattle.base_lists.specs.All.{head}
use Rattle.spec_model.specs.declared.Entry.{Entry}
use Rattle.spec_model.specs.declared.Table.{Table}
use Rattle.spec_model.specs.declared.Frame.{Frame}
use Rattle.spec_model.specs.Tables.{held_of}
use Rattle.spec_rules.specs.Share.{overfull, step_b}
use Rattle.spec_rules.specs.Ahead.{misses}
use Rattle.spec_rules.specs.WellFormed.{Held, Tidy}
use Rattle.law_steps.proofs.Places.{tidy_held}
use Rattle.law_ahead.specs.Moved.{moved, life_of}
use Rattle.law_ahead.proofs.Moved.{no_extras, moved_most}
use Rattle.law_ahead.specs.KeepsUp.{keeps_up, keeps_up_ahead}
use Rattle.law_ahead.proofs.Tables.{tidy_together, stepped_held, stepped_tidy}
use Rattle.law_ahead.specs.Loop.{looked_past}

pub past_held : (t : Table) → Tidy t → held_of (looked_past t) ≡ moved (step_b t.frame (held_of t)) [] (held_of t)
past_held t w = stepped_held (step_b t.frame (held_of t)) [] t w

pub past_tidy : (t : Table) → Tidy t → Tidy (looked_past t)
past_tidy t w = stepped_tidy (step_b t.frame (held_of t)) [] t w (no_extras t.frame (held_of t) w.once)

-- ---- nothing is held
ahead_none : (F : Frame) → keeps_up_ahead F [] ≡ true
unfolding keeps_up_ahead keeps_up
ahead_none F = refl

pub ahead_over : (F : Frame) (es : List Entry) → length es ≡ 0 → keeps_up_ahead F es ≡ true
ahead_over F [] z = ahead_none F
ahead_over F (e ∷ es) z = absurd (omega arith)

-- ---- a turn
-- a held entry has life left
held_lives : {F : Frame} (es : List Entry) → All (Held F) es → 1 ≤ length es → 1 ≤ most_of life_of es
held_lives [] h l = absurd (omega arith)
held_lives (e ∷ es) h l = omega (arith, (head h).alive)

module _ (t : Table) (w : Tidy t) (l : 1 ≤ length (held_of t)) where
  abbrev F : Frame
  F = t.frame

  abbrev es : List Entry
  es = held_of t

  abbrev past : List Entry
  past = held_of (looked_past t)

  past_most : most_of life_of past ≡ most_of life_of es - 1
  past_most = ap (most_of life_of) (past_held t w) ∙ moved_most F (step_b F es) [] es (tidy_together w) (no_extras F es w.once)

  -- the test of this interval, and looking ahead from the next
  pub ahead_step : keeps_up_ahead F es ≡ cond (overfull F es || any_of (misses (step_b F es)) es) false (keeps_up_ahead F past)
  unfolding keeps_up_ahead keeps_up
  ahead_step = go (most_of life_of es) (most_of life_of past) (omega (arith, past_most, held_lives es (tidy_held w) l))
    where
      go : (n m : ℕ) → n ≡ suc m → keeps_up n F es ≡ cond (overfull F es || any_of (misses (step_b F es)) es) false (keeps_up m F past)
      go n m q =
          ap (λ k. keeps_up k F es) q
          ∙ ap (λ fs. cond (overfull F es || any_of (misses (step_b F es)) es) false (keeps_up m F fs)) (sym (past_held t w))

  pub ahead_misses : (overfull F es || any_of (misses (step_b F es)) es) ≡ true → keeps_up_ahead F es ≡ false
  ahead_misses h = ahead_step ∙ ap (λ b. cond b false (keeps_up_ahead F past)) h

  pub ahead_turn : overfull F es ≡ false → any_of (misses (step_b F es)) es ≡ false → keeps_up_ahead F past ≡ keeps_up_ahead F es
  ahead_turn h k = sym (ahead_step ∙ ap₂ (λ a b. cond (a || b) false (keeps_up_ahead F past)) h k)
