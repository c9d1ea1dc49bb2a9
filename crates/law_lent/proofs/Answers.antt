-- The call for an answer's number, of an answer of any plain type: the number lands where the code has it. Assumes nothing.
use mathlib.Core.Path.{◌≡◌, refl, subst}
use Prim.Native.Nat.{ℕ, ◌<◌, ◌^◌}
use mathlib.Core.List.{[], ◌∷◌, List}
use seplogic.Ra.Ura.{Ura}
use mir.Syntax.{Callee, Place, Opd as Operand, w32, Body as Code, seq, call}
use mir.Val.{Val, vint}
use base.Logic.{ent, emp, snd∗, ex_e}
use prog.Wp.{Calls, Loops, Env}
use types.Logic.{Logic, sem}
use contract.Monad.{fact}
use types.Kit.{Item, raw, mean, Post, runs, lands, Go, Seq, ◌$◌, ◌∵◌, !, qed, join, fjoin, regoal, done}
use types.Run.{Opds}
use sound.WpLaws.{FmC}
use denote.RattleType.{RattleType}
use denote.Laws.{Is, Makes}
use denote.Plain.{uint_Tells}
use denote.Builtin.{u32}
use denote.Exit.{yes}
use denote.Signature.{plain}
use denote.Steps.{owned, nothing}
use denote.Triple.Spec.{triple_of}
use denote.Triple.Statement.{Contract, Triple}
use denote.Triple.Clauses.{Ended, Clauses, closing, ensured, lasts}
use Rattle.law_lent.proofs.Walk.{Gives, gives, calls_value}

-- of an answer of R, by value, a number
abbrev by_value : RattleType → Ended
by_value R = record {
  signature = record {
    lifetimes = 0;
    outlives = [];
    params = plain (λ κs. R) ∷ [];
    result = plain (λ κs. u32);
  };
  kept = (yes, tt);
}

module _ {M : Type 1} (𝓤 : Ura M) (R : RattleType) (number : R.Denot → ℕ) where
  abbrev number_clauses : Clauses 𝓤 (by_value R)
  number_clauses κs a = record {
    ghost = Unit {0};
    requires = λ g. emp 𝓤;
    ensures = λ g r e. fact 𝓤 (r ≡ number a.0);
  }

  module _ (𝓛 : Logic 𝓤) where
    abbrev pub Numbers : Contract 𝓤
    Numbers = triple_of 𝓛 (by_value R).signature (closing 𝓛 (by_value R) number_clauses)

    module _ (a : R.Denot) (v : Val) where
      abbrev pub to_number : Numbers.Ghost
      to_number = ((tt, tt, tt, (a, tt), (v ∷ [], tt)), tt)

      asked : Makes 𝓛 R (Is R) → Is R a (v ∷ []) → ent 𝓤 (emp 𝓤) (Numbers.pre to_number)
      asked makes is =
          qed 𝓛 [] ∵ nothing ! $ nothing ! $ owned ! R (Is R) makes a (v ∷ []) is $ fjoin ! $ nothing ! $ join ! $ done !

      given : (w : Val) → ent 𝓤 (Numbers.post to_number w) (mean 𝓛 (Gives 𝓤 u32 (λ n. n ≡ number a) w))
      given w =
          gives 𝓛 u32 (λ n. n ≡ number a) w (ensured 𝓛 (by_value R) number_clauses tt (a, tt) tt)
          (λ n. ex_e 𝓤 _ (λ ws. snd∗ 𝓤 (sem 𝓛 (lasts (by_value R) tt (a, tt) ws)) (fact 𝓤 (n ≡ number a))))

module _ {M : Type 1} {𝓤 : Ura M} {𝓛 : Logic 𝓤} {Γ : List (Item 𝓤)} {C : Calls 𝓤 𝓛.H} {Λ : Loops 𝓤 𝓛.H}
    {E : Env 𝓤 𝓛.H} {Q : Post 𝓤 𝓛.H} {f : Callee} {xs : List Operand} {d : Place} {rest : Code} (R : RattleType) (number : R.Denot → ℕ) where
  open 𝓛 use {H}

  pub calls_number : Go {0} → FmC 𝓤 H 𝓛.laws C → Makes 𝓛 R (Is R) → Triple 𝓤 (C f) (Numbers 𝓤 R number 𝓛)
      → (a : R.Denot) (v : Val) → Is R a (v ∷ [])
      → Opds (Go {0}) 𝓛 (raw ((Numbers 𝓤 R number 𝓛).pre (to_number 𝓤 R number 𝓛 a v)) ∷ Γ) E xs (v ∷ [])
      → (number a < 2 ^ 32 → Seq (Go {0}) 𝓛 Γ (lands C Λ E d (vint w32 (number a)) rest Q))
      → Seq (Go {0}) 𝓛 Γ (runs C Λ E (seq (call f xs d) rest) Q)
  calls_number z fm makes known a v is os k =
      calls_value ! fm u32 (vint w32) (uint_Tells w32) (λ n. n ≡ number a) (Numbers 𝓤 R number 𝓛) known
      (to_number 𝓤 R number 𝓛 a v) (asked 𝓤 R number 𝓛 a v makes is) (given 𝓤 R number 𝓛 a v) os (λ n same is-n.
      regoal ! (λ m. lands C Λ E d (vint w32 m) rest Q) same refl $ k (subst (λ m. m < 2 ^ 32) same is-n.1))
