-- Steps that the walks of the lent forms share. What a plain value owns is had for nothing, so a call that takes plain values asks
-- nothing of the walk, and it gives a plain value of which its contract's clause holds. A branch with nothing in its second arm goes on
-- behind itself. Assumes nothing.
use mathlib.Core.Path.{◌≡◌, refl, ap, subst}
use mathlib.Core.Bool.{Bool, true, false, not}
use lib.Dec.{T as Holds}
use mathlib.Core.List.{[], ◌∷◌, List}
use seplogic.Ra.Ura.{Ura}
use mir.Syntax.{Callee, Place, Opd as Operand, Body as Code, seq, call, cond, skip}
use mir.Val.{Val, vbool}
use base.Logic.{SProp, ent, emp}
use base.Fml.{ftrue}
use prog.Wp.{Calls, Loops, Env, Wp, after_seq}
use types.Logic.{Logic}
use contract.Monad.{fact}
use types.Kit.{Item, ‵, raw, some, later, mean, ◌⊛◌, Post, any_q, post, runs, lands, Go, Seq}
use types.Kit.{◌$◌, ◌∵◌, !, qed, drop, use0, use1, split, pick, frame, show, await, regoal, done}
use types.Run.{Opd, Opds, first, branches, skips}
use sound.WpLaws.{FmC}
use denote.RattleType.{RattleType}
use denote.Laws.{Is, Tells, shows}
use denote.Steps.{only, facts, heard}
use denote.Triple.Statement.{Contract, Triple}
use denote.Triple.Call.{calls_at}

-- what a call gives back at the machine value w: some value of R of which φ holds
abbrev pub Gives : {M : Type 1} (𝓤 : Ura M) (R : RattleType) → (R.Denot → Type 0) → Val → Item 𝓤
Gives 𝓤 R φ w = later (some (λ (r : R.Denot). ‵ (R.own_val r (w ∷ [])) ⊛ raw (fact 𝓤 (φ r))))

-- it is what is left of a callee's triple, where what the callee ensures shows φ
pub gives : {M : Type 1} {𝓤 : Ura M} (𝓛 : Logic 𝓤) (R : RattleType) (φ : R.Denot → Type 0) (w : Val)
    (P : R.Denot → SProp 𝓤) → ((r : R.Denot) → ent 𝓤 (P r) (fact 𝓤 (φ r)))
    → ent 𝓤 (mean 𝓛 (later (some (λ (r : R.Denot). (‵ ftrue ⊛ ‵ (R.own_val r (w ∷ []))) ⊛ raw (P r))))) (mean 𝓛 (Gives 𝓤 R φ w))
gives {𝓤 = 𝓤} 𝓛 R φ w P shown =
    𝓛.laws.⇛_mono _ _ (
    qed 𝓛 (some (λ (r : R.Denot). (‵ ftrue ⊛ ‵ (R.own_val r (w ∷ []))) ⊛ raw (P r)) ∷ []) ∵ pick ! (λ r. split ! $ split ! $ drop ! $
    show ! (λ (s : R.Denot). mean 𝓛 (‵ (R.own_val s (w ∷ [])) ⊛ raw (fact 𝓤 (φ s)))) r $ frame ! $
    use1 𝓛 (raw (fact 𝓤 (φ r))) (shown r) $ done !)
    )

-- a test that a call answers
pub is_true : (b : Bool) → Holds b → b ≡ true
is_true true h = refl
is_true false h = absurd h

pub is_false : (b : Bool) → Holds (not b) → b ≡ false
is_false true h = absurd h
is_false false h = refl

module _ {M : Type 1} {𝓤 : Ura M} {𝓛 : Logic 𝓤} {Γ : List (Item 𝓤)} {C : Calls 𝓤 𝓛.H} {Λ : Loops 𝓤 𝓛.H}
    {E : Env 𝓤 𝓛.H} {Q : Post 𝓤 𝓛.H} {d : Place} {rest : Code} where
  -- what a call gives, r at the machine value w, where v spells out its machine value
  pub tells_value : Go {0} → (R : RattleType) (v : R.Denot → Val) → Tells R (Is R) (λ r. v r ∷ []) → (r : R.Denot) (w : Val) → Is R r (w ∷ [])
      → (Is R r (v r ∷ []) → Seq (Go {0}) 𝓛 Γ (lands C Λ E d (v r) rest Q)) → Seq (Go {0}) 𝓛 Γ (lands C Λ E d w rest Q)
  tells_value t R v tells r w is k =
      regoal ! (λ z. lands C Λ E d z rest Q) (ap only (tells r (w ∷ []) is)) refl $ k (subst (Is R r) (tells r (w ∷ []) is) is)

module _ {M : Type 1} {𝓤 : Ura M} {𝓛 : Logic 𝓤} {Γ : List (Item 𝓤)} {C : Calls 𝓤 𝓛.H} {Λ : Loops 𝓤 𝓛.H}
    {E : Env 𝓤 𝓛.H} {Q : Post 𝓤 𝓛.H} {f : Callee} {xs : List Operand} {d : Place} {rest : Code} where
  -- the call at c's ghost value x; v spells out the machine value of its result
  open 𝓛 use {H}

  pub calls_value : Go {0} → FmC 𝓤 H 𝓛.laws C → (R : RattleType) (v : R.Denot → Val) → Tells R (Is R) (λ r. v r ∷ [])
      → (φ : R.Denot → Type 0) (c : Contract 𝓤) → Triple 𝓤 (C f) c
      → (x : c.Ghost) → ent 𝓤 (emp 𝓤) (c.pre x) → ((w : Val) → ent 𝓤 (c.post x w) (mean 𝓛 (Gives 𝓤 R φ w)))
      → Opds (Go {0}) 𝓛 (raw (c.pre x) ∷ Γ) E xs (c.args x)
      → ((r : R.Denot) → φ r → Is R r (v r ∷ []) → Seq (Go {0}) 𝓛 Γ (lands C Λ E d (v r) rest Q))
      → Seq (Go {0}) 𝓛 Γ (runs C Λ E (seq (call f xs d) rest) Q)
  calls_value t fm R v tells φ c known x asked given os k =
      use0 𝓛 (raw (c.pre x)) asked $ calls_at ! fm c known x os (λ w.
      use1 𝓛 (Gives 𝓤 R φ w) (given w) $ await ! tt $ pick ! (λ r. split ! $
      facts ! R (Is R) (shows 𝓛 R) r (w ∷ []) (λ is. heard ! (φ r) (λ e. tells_value ! R v tells r w is (k r e)))))

module _ {M : Type 1} {𝓤 : Ura M} {𝓛 : Logic 𝓤} {Γ : List (Item 𝓤)} {C : Calls 𝓤 𝓛.H} {Λ : Loops 𝓤 𝓛.H}
    {E : Env 𝓤 𝓛.H} {Q : Post 𝓤 𝓛.H} {x : Operand} {then rest : Code} where
  open 𝓛 use {H}

  pub tests : Go {0} → {y : Bool} → Opd (Go {0}) 𝓛 Γ E x (vbool y)
      → (Holds y → Seq (Go {0}) 𝓛 Γ (runs C Λ E then (any_q (after_seq 𝓤 H (Wp 𝓤 H C Λ E rest (post 𝓤 H Q)) (post 𝓤 H Q)))))
      → (Holds (not y) → Seq (Go {0}) 𝓛 Γ (runs C Λ E rest Q)) → Seq (Go {0}) 𝓛 Γ (runs C Λ E (seq (cond x then skip) rest) Q)
  tests t test held failed = first ! $ branches ! test held (λ z. skips ! $ record { prf = (failed z).prf })
