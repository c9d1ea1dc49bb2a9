-- A lent form that takes plain values beside the table and gives a plain value: where a walk of its code goes from what the host has lent at
-- entry to what it has lent at exit, it meets its contract. Assumes nothing.
use mathlib.Core.Path.{refl}
use Prim.Native.Nat.{ℕ}
use mathlib.Core.List.{[], ◌∷◌, List}
use seplogic.Ra.Ura.{Ura}
use mir.Syntax.{Fn, named}
use mir.Val.{Val, vptr}
use base.Logic.{SProp, ent, sep, via}
use base.Fml.{GName, Lft, Share, ftrue, flft, fobs}
use prog.Wp.{WpFn, Tables}
use types.Logic.{Logic}
use contract.Monad.{fact}
use types.Kit.{‵, raw, ◌⊛◌, ⋆, ◌$◌, ◌∵◌, !, qed, move, keep, drop, use0, split, join}
use types.Kit.{fsplit, fsplit3, fjoin, fjoin3, feq_i, suffices, frame, done}
use sound.WpLaws.{WpFn-mono}
use denote.RattleType.{RattleType, Valss, owns}
use denote.Laws.{Is, Makes}
use denote.Builtin.{RefMutOf}
use denote.Exit.{yes}
use denote.Ref.{MutBor, MutRef, mut_vals, mut_Tells}
use denote.Signature.{plain}
use denote.Steps.{owned, nothing}
use denote.Triple.Entry.{on_entry}
use denote.Triple.Spec.{Meets}
use denote.Triple.Clauses.{Ended, Clauses, closing}
use denote.Triple.Walked.{says, Stays, stay_ref, has_of, walk_of, Goes-ref, ends_at, walked, walk_Meets}
use Rattle.spec_model.specs.declared.Table.{Table}
use Rattle.spec_model.specs.contracts.Table as T
use Rattle.law_lent.proofs.Lent.{lent, loan, Lent}
use Rattle.law_lent.proofs.Beside.{Plain, slots, kept, stays, rows, Values, spells, tellss, spelled, machines}
use Rattle.law_lent.proofs.Beside.{AreValues, lasts, fits, goes, had}

module _ (Ps : List Plain) (R : RattleType) where
  abbrev by_loan : Ended
  by_loan = record {
    signature = record {
      lifetimes = 1;
      outlives = [];
      params = RefMutOf (0 ∷ []) tt (plain (λ κs. T.the_row)) (λ κs. tt) ∷ slots Ps;
      result = plain (λ κs. R);
    };
    kept = (yes, kept Ps);
  }

  abbrev stayed : Stays by_loan.signature.params by_loan.kept
  stayed = (stay_ref (0 ∷ []) tt (plain (λ _. T.the_row)), stays Ps)

-- Asks is what is required of the table and the values; Says, of these, is what holds of the answer and the table after it
module _ {M : Type 1} (𝓤 : Ura M) (Ps : List Plain) (R : RattleType) (Asks : (κ : Lft) → Table → Values Ps κ → SProp 𝓤)
    (Says : (κ : Lft) → Table → Values Ps κ → R.Denot → Table → Type 0) where
  abbrev loan_clauses : Clauses 𝓤 (by_loan Ps R)
  loan_clauses κs a = record {
    ghost = Unit {0};
    requires = λ g. Asks κs.0 a.0.now a.1;
    ensures = λ g r e. fact 𝓤 (Says κs.0 a.0.now a.1 r e.0.now);
  }

  module _ (𝓛 : Logic 𝓤) where
    open 𝓛 use {H}

    module _ (κ : Lft) (q : Share) (b o : ℕ) (γ : GName) (h : Table) (n : Values Ps κ) where
      abbrev x : MutBor Table × Values Ps κ
      x = (record { ref_ptr = (b, o); ghost_name = γ; now = h }, n)

      abbrev at : List Val × Valss (rows Ps κ)
      at = (vptr b o ∷ [], spelled Ps κ n)

      abbrev pub Post : Val → SProp 𝓤
      Post = (walk_of 𝓛 (by_loan Ps R) (stayed Ps R) loan_clauses).post (((κ, tt), (q, tt), tt, x, at), tt)

      pub exits : AreValues Ps κ n → Makes 𝓛 R (Is R) → (r : R.Denot) (w : Val) (t : Table) → Says κ h n r t → Is R r (w ∷ [])
          → ent 𝓤 (⋆ 𝓛 (Lent 𝓤 κ q b o γ t)) (Post w)
      exits are makes r w t e is =
          qed 𝓛 (Lent 𝓤 κ q b o γ t) ∵
          suffices ! _ (ends_at 𝓛 (by_loan Ps R) (stayed Ps R) loan_clauses (((κ, tt), (q, tt), tt, x, at), tt)
          w r (t, lasts Ps κ n) (tt, fits Ps κ n)) $ says ! e $
          nothing ! $ move ! (3 ∷ 0 ∷ []) $ join ! $ frame ! $ feq_i ! (List Val) (vptr b o ∷ []) (vptr b o ∷ []) refl $ fjoin3 ! $
          use0 𝓛 (‵ (has_of (κ, tt) (slots Ps) (kept Ps) (stays Ps) n (lasts Ps κ n) (spelled Ps κ n))) (had 𝓛 Ps κ n are) $
          move ! (1 ∷ 0 ∷ []) $ fjoin ! $ owned ! R (Is R) makes r (w ∷ []) is $ move ! (1 ∷ 0 ∷ []) $ done !

      -- what is had at entry: the lent table, and what is asked of it
      enters : ent 𝓤 (sep 𝓤 (on_entry 𝓛 (by_loan Ps R).signature (κ, tt) (q, tt) x at) (Asks κ h n))
          (⋆ 𝓛 (‵ (fobs γ (lent h)) ∷ ‵ (loan κ b o γ) ∷ ‵ (flft κ q) ∷ raw (Asks κ h n) ∷ []))
      enters =
          qed 𝓛 (((‵ (flft κ q) ⊛ ‵ ftrue) ⊛ ‵ (owns (MutRef (named 0) κ T.the_row ∷ rows Ps κ) x at)) ∷ raw (Asks κ h n) ∷ []) ∵
          split ! $ split ! $ move ! (2 ∷ []) $ fsplit ! $ fsplit3 ! $ drop ! $ keep ! (0 ∷ 1 ∷ 3 ∷ 5 ∷ []) $ done !

    pub loan_meets : (𝓣 : Tables 𝓤 H) (f : Fn) → ((κ : Lft) (q : Share) (b o : ℕ) (γ : GName) (h : Table) (n : Values Ps κ) → AreValues Ps κ n
        → ent 𝓤 (⋆ 𝓛 (‵ (fobs γ (lent h)) ∷ ‵ (loan κ b o γ) ∷ ‵ (flft κ q) ∷ raw (Asks κ h n) ∷ []))
        (WpFn 𝓤 H 𝓣.C 𝓣.Λ f (vptr b o ∷ machines Ps κ n) (Post κ q b o γ h n)))
        → Meets 𝓛 (by_loan Ps R).signature (WpFn 𝓤 H 𝓣.C 𝓣.Λ f) (closing 𝓛 (by_loan Ps R) loan_clauses)
    loan_meets 𝓣 f walk =
        walk_Meets 𝓛 (by_loan Ps R) (stayed Ps R)
        (Goes-ref 𝓛 1 0 tt (plain (λ _. T.the_row)), goes 𝓛 Ps) loan_clauses
        (WpFn 𝓤 H 𝓣.C 𝓣.Λ f) (WpFn-mono 𝓤 H 𝓛.laws 𝓣 f)
        (walked 𝓛 (by_loan Ps R) (stayed Ps R) loan_clauses (WpFn 𝓤 H 𝓣.C 𝓣.Λ f) (λ κs. (mut_vals, spells Ps κs.0))
        (λ κs. (mut_Tells (named 0) κs.0 T.the_row, tellss Ps κs.0))
        (λ κs qs bounds a g are.
        via 𝓤 _ (enters κs.0 qs.0 a.0.ref_ptr.0 a.0.ref_ptr.1 a.0.ghost_name a.0.now a.1)
        (walk κs.0 qs.0 a.0.ref_ptr.0 a.0.ref_ptr.1 a.0.ghost_name a.0.now a.1 are.1)))
