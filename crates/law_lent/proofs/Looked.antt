-- A form that looks at a lent table, takes plain values beside it and gives one: where a walk of its code goes from the shared
-- loan at entry to the same at exit, it meets its contract. Assumes nothing.
use mathlib.Core.Path.{refl}
use Prim.Native.Nat.{ℕ}
use mathlib.Core.List.{[], ◌∷◌, List}
use seplogic.Ra.Ura.{Ura}
use mir.Syntax.{Fn, named}
use mir.Val.{Val, vptr}
use base.Logic.{SProp, ent, sep, via}
use base.Fml.{Lft, Share, Fml, ftrue, fsep, flft}
use prog.Wp.{WpFn, Tables}
use types.Logic.{Logic}
use contract.Monad.{fact}
use types.Kit.{Item, ‵, raw, ◌⊛◌, ⋆, Goal, Soaks, Go, Seq, Step, step, ◌$◌, ◌∵◌, !, qed, move, keep, drop, use0, split, join}
use types.Kit.{fsplit, fjoin, fpick, fpack, feq_i, suffices, frame, done}
use sound.WpLaws.{WpFn-mono}
use denote.RattleType.{RattleType, Valss, owns}
use denote.Laws.{Is, Makes, shows}
use denote.Memory.{cell_at, hidden_shr, part_of, shared_of}
use denote.Builtin.{RefOf}
use denote.Exit.{yes}
use denote.Ref.{Bor, ShrRef, shr_vals, shr_Tells}
use denote.Opens.{Shut, twice_dup, shr_open, shr_Shut}
use denote.Signature.{plain}
use denote.Steps.{owned, peeks, nothing}
use denote.Struct.Laws as LL
use denote.Triple.Entry.{on_entry}
use denote.Triple.Spec.{Meets}
use denote.Triple.Clauses.{Ended, Clauses, closing}
use denote.Triple.Walked.{says, Stays, stay_none_ref, has_of, walk_of, Goes-none_ref, ends_at, walked, walk_Meets}
use Rattle.spec_model.specs.declared.Table.{Table}
use Rattle.spec_model.specs.contracts.Table as T
use Rattle.spec_model.proofs.Table.TheLaws as T'
use Rattle.law_lent.proofs.Beside.{Plain, slots, kept, stays, rows, Values, spells, tellss, spelled, machines}
use Rattle.law_lent.proofs.Beside.{AreValues, lasts, fits, goes, had}
use Rattle.law_lent.proofs.Entries.{table_at}

module _ (Ps : List Plain) (R : RattleType) where
  abbrev by_look : Ended
  by_look = record {
    signature = record {
      lifetimes = 1;
      outlives = [];
      params = RefOf (0 ∷ []) tt (plain (λ κs. T.the_row)) (λ κs. tt) ∷ slots Ps;
      result = plain (λ κs. R);
    };
    kept = (yes, kept Ps);
  }

  abbrev stayed : Stays by_look.signature.params by_look.kept
  stayed = (stay_none_ref (0 ∷ []) tt (plain (λ _. T.the_row)) yes, stays Ps)

-- the shared loan of the table h
abbrev pub look : Lft → Table → ℕ → ℕ → Fml
look = hidden_shr T.the_row

-- what the host has lent to look at: the loan and its token
abbrev pub Shared : {M : Type 1} (𝓤 : Ura M) → Lft → Share → ℕ → ℕ → Table → List (Item 𝓤)
Shared 𝓤 κ q b o h = ‵ (look κ h b o) ∷ ‵ (flft κ q) ∷ []

-- Asks is what is required of the table and the values; Says, of these, is what holds of the result
module _ {M : Type 1} (𝓤 : Ura M) (Ps : List Plain) (R : RattleType) (Asks : (κ : Lft) → Table → Values Ps κ → SProp 𝓤)
    (Says : (κ : Lft) → Table → Values Ps κ → R.Denot → Type 0) where
  abbrev look_clauses : Clauses 𝓤 (by_look Ps R)
  look_clauses κs a = record {
    ghost = Unit {0};
    requires = λ g. Asks κs.0 a.0.now a.1;
    ensures = λ g r e. fact 𝓤 (Says κs.0 a.0.now a.1 r);
  }

  module _ (𝓛 : Logic 𝓤) where
    open 𝓛 use {H}

    module _ (κ : Lft) (q : Share) (b o : ℕ) (h : Table) (n : Values Ps κ) where
      abbrev x : Bor Table × Values Ps κ
      x = (record { ref_ptr = (b, o); now = h }, n)

      abbrev at : List Val × Valss (rows Ps κ)
      at = (vptr b o ∷ [], spelled Ps κ n)

      abbrev pub Post : Val → SProp 𝓤
      Post = (walk_of 𝓛 (by_look Ps R) (stayed Ps R) look_clauses).post (((κ, tt), (q, tt), tt, x, at), tt)

      pub exits : AreValues Ps κ n → Makes 𝓛 R (Is R) → (r : R.Denot) (w : Val) → Says κ h n r → Is R r (w ∷ [])
          → ent 𝓤 (⋆ 𝓛 (Shared 𝓤 κ q b o h)) (Post w)
      exits are makes r w e is =
          qed 𝓛 (Shared 𝓤 κ q b o h) ∵
          suffices ! _ (ends_at 𝓛 (by_look Ps R) (stayed Ps R) look_clauses (((κ, tt), (q, tt), tt, x, at), tt)
          w r (tt, lasts Ps κ n) (tt, fits Ps κ n)) $ says ! e $ nothing ! $ move ! (2 ∷ 0 ∷ []) $ join ! $ frame ! $
          feq_i ! (List Val) (vptr b o ∷ []) (vptr b o ∷ []) refl $ fjoin ! $
          use0 𝓛 (‵ (has_of (κ, tt) (slots Ps) (kept Ps) (stays Ps) n (lasts Ps κ n) (spelled Ps κ n))) (had 𝓛 Ps κ n are) $
          move ! (1 ∷ 0 ∷ []) $ fjoin ! $ owned ! R (Is R) makes r (w ∷ []) is $ move ! (1 ∷ 0 ∷ []) $ done !

      -- what is had at entry: the shared loan, and what is asked of its table
      enters : ent 𝓤 (sep 𝓤 (on_entry 𝓛 (by_look Ps R).signature (κ, tt) (q, tt) x at) (Asks κ h n))
          (⋆ 𝓛 (‵ (look κ h b o) ∷ ‵ (flft κ q) ∷ raw (Asks κ h n) ∷ []))
      enters =
          qed 𝓛 (((‵ (flft κ q) ⊛ ‵ ftrue) ⊛ ‵ (owns (ShrRef (named 0) κ T.the_row ∷ rows Ps κ) x at)) ∷ raw (Asks κ h n) ∷ []) ∵
          split ! $ split ! $ move ! (2 ∷ []) $ fsplit ! $ fsplit ! $ drop ! $ keep ! (0 ∷ 2 ∷ 4 ∷ []) $ done !

    pub look_meets : (𝓣 : Tables 𝓤 H) (f : Fn) → ((κ : Lft) (q : Share) (b o : ℕ) (h : Table) (n : Values Ps κ) → AreValues Ps κ n
        → ent 𝓤 (⋆ 𝓛 (‵ (look κ h b o) ∷ ‵ (flft κ q) ∷ raw (Asks κ h n) ∷ []))
        (WpFn 𝓤 H 𝓣.C 𝓣.Λ f (vptr b o ∷ machines Ps κ n) (Post κ q b o h n)))
        → Meets 𝓛 (by_look Ps R).signature (WpFn 𝓤 H 𝓣.C 𝓣.Λ f) (closing 𝓛 (by_look Ps R) look_clauses)
    look_meets 𝓣 f walk =
        walk_Meets 𝓛 (by_look Ps R) (stayed Ps R)
        (Goes-none_ref 𝓛 1 (0 ∷ []) tt (plain (λ _. T.the_row)) yes, goes 𝓛 Ps)
        look_clauses (WpFn 𝓤 H 𝓣.C 𝓣.Λ f) (WpFn-mono 𝓤 H 𝓛.laws 𝓣 f)
        (walked 𝓛 (by_look Ps R) (stayed Ps R) look_clauses (WpFn 𝓤 H 𝓣.C 𝓣.Λ f) (λ κs. (shr_vals, spells Ps κs.0))
        (λ κs. (shr_Tells (named 0) κs.0 T.the_row, tellss Ps κs.0))
        (λ κs qs bounds a g are.
        via 𝓤 _ (enters κs.0 qs.0 a.0.ref_ptr.0 a.0.ref_ptr.1 a.0.now a.1)
        (walk κs.0 qs.0 a.0.ref_ptr.0 a.0.ref_ptr.1 a.0.now a.1 are.1)))

module _ {M : Type 1} {𝓤 : Ura M} {𝓛 : Logic 𝓤} {Γ : List (Item 𝓤)} {G : Goal 𝓤 𝓛.H}
    (h : Table) (b o : ℕ) where
  -- a table that lies in memory is one
  is_table : Go {0} → (s : Share) → ((vs : List Val) → Is T.the_row h vs → Seq (Go {0}) 𝓛 (‵ (table_at s h b o) ∷ Γ) G)
      → Seq (Go {0}) 𝓛 (‵ (table_at s h b o) ∷ Γ) G
  unfolding part_of
  is_table z s k =
      fpick ! (λ vs. fsplit ! $ move ! (1 ∷ []) $ peeks ! T.the_row (Is T.the_row) (shows 𝓛 T.the_row) h vs (λ is. move ! (1 ∷ 0 ∷ []) $
      fjoin ! $ fpack ! (List Val) (λ us. fsep (cell_at s (T.the_row).mir us b o) ((T.the_row).own_val h us)) vs $ k vs is))

module _ {M : Type 1} {𝓤 : Ura M} {𝓛 : Logic 𝓤} {Γ : List (Item 𝓤)} {G : Goal 𝓤 𝓛.H} {κ : Lft} {q : Share}
    (h : Table) (b o : ℕ) where
  -- some share of the table is had while the shared loan is open
  pub look_opens : Go {0} → Soaks G → ((s : Share) (vs : List Val) → Is T.the_row h vs
      → Seq (Go {0}) 𝓛 (‵ (table_at s h b o) ∷ Shut 𝓛 κ q (table_at s h b o) ∷ ‵ (look κ h b o) ∷ Γ) G)
      → Seq (Go {0}) 𝓛 (‵ (look κ h b o) ∷ ‵ (flft κ q) ∷ Γ) G
  look_opens z soaks k =
      let opens = (LL.copied T.the_type T'.the_copy 𝓛).opens h b o in
      twice_dup ! (shared_of T.the_row h b o) opens.1 κ $ move ! (0 ∷ 2 ∷ []) $
      shr_open ! soaks (λ s. table_at s h b o) (shared_of T.the_row h b o) opens.0 (λ s. move ! (1 ∷ []) $ is_table h b o ! s (k s))

  pub look_shuts : Go {0} → Soaks G → (s : Share)
      → Step (Go {0}) 𝓛 (‵ (flft κ q) ∷ Γ) G (‵ (table_at s h b o) ∷ Shut 𝓛 κ q (table_at s h b o) ∷ Γ) G
  look_shuts z soaks s = step (λ k. move ! (1 ∷ []) $ shr_Shut ! soaks $ k)
