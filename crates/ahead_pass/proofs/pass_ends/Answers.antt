use Rattle.std.proofs.Common.{◌≡◌, ℕ, refl, arith, eq-eqb, ne_eqb}
use Rattle.ahead_figures.specs.Arrays.{mapped_turn}
use Rattle.ahead_figures.specs.declared.Figures.{Figures}
use Rattle.ahead_pass.specs.Passed.{after_end, passed_end}
use Rattle.ahead_pass.proofs.pass_ends.Goals as goal
use Rattle.ahead_pass.proofs.pass_ends.Goals.{then-f-at, else-f-at}

ended : (at : ℕ) (f : Figures) {g : Figures} → f.end.0 ≡ at → g ≡ after_end at f → g ≡ passed_end at f
ended at f e q = rw (eq-eqb _ _ e) q

lasting : (at : ℕ) (f : Figures) → (f.end.0 ≡ at → ⊥) → f ≡ passed_end at f
lasting at f e = rw (ne_eqb _ _ e) refl

pub loop-f-preserved : goal.loop-f-preserved
loop-f-preserved c =
    elim c.if-f-at.branch [
      | then-f-at w ↦ rw w.f-items-is (mapped_turn (passed_end c.args.at.0) _ c.loop-f.f-index _ c.loop-f.invariant (omega arith)
          (ended _ _ w.if-f-at.true w.after_end.ensures))
      | else-f-at w ↦ rw w.f-items-is (mapped_turn (passed_end c.args.at.0) _ c.loop-f.f-index _ c.loop-f.invariant (omega arith)
          (lasting _ _ w.if-f-at.false))
    ]
