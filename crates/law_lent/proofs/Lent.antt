-- What the walks of the lent forms share: how the lent table's borrow is opened and closed, and how the lent table is copied to a local,
-- over any locals of which _1 has the table's pointer. Assumes nothing.
use mathlib.Core.Path.{◌≡◌, refl, sym, subst}
use Prim.Native.Nat.{ℕ, ◌<◌, ◌^◌}
use mathlib.Core.List.{[], ◌∷◌, List}
use mathlib.Core.Option.{Option, none, some}
use lib.ListN.{get_or, set}
use seplogic.Ra.Ura.{Ura}
use base.Fraction.{full_share}
use lib.Dec.{T as Holds}
use mir.Syntax.{Ty, w32, Width, int_big, deref, place, copy, rv_opd, Body as Code, seq, assign}
use mir.Val.{Val, vint, vptr, WT, Fits, has_ty}
use base.Logic.{via, guard_i}
use base.Stored.{Gv}
use base.Fml.{Fml, GName, Lft, Share, fat, flft, fobs, fauth, fbor, fobor}
use prog.Wp.{Calls, Loops, Env}
use types.Logic.{Logic}
use types.Kit.{Item, ‵, Post, Goal, runs, Soaks, Go, Seq, Step, step, ◌$◌, !, move, use1}
use types.Run.{Opd, look, stop, hop, from, load, of_opd}
use types.Part.{look_in}
use types.SemTy.{Body}
use denote.Laws.{Is, shows}
use denote.Memory.{mem, cell_at}
use denote.Plain.{uint_Makes}
use denote.Builtin.{u32}
use denote.Steps.{opens, closes, owned, peeks}
use denote.Struct.Steps.{spelt}
use denote.Struct.Laws as LL
use Rattle.spec_model.specs.declared.Table.{Table}
use Rattle.spec_model.specs.contracts.Table as T
use Rattle.spec_model.proofs.Table.TheLaws as T'
use Rattle.law_lent.proofs.Locals.{type_of, Has, locals, cell, sets}

-- a table's machine value
abbrev pub machine : Table → Val
machine t = LL.val T.the_type T'.the_laws t

-- as a ghost name tracks it
abbrev pub lent : Table → Gv
lent t = (T.the_row).coded.code t

-- the lent table's borrow, shut and open
abbrev pub loan : Lft → ℕ → ℕ → GName → Fml
loan κ b o γ = fbor κ (Body (mem T.the_row) b o γ)

abbrev pub open_loan : Lft → Share → ℕ → ℕ → GName → Fml
open_loan κ q b o γ = fobor κ q (Body (mem T.the_row) b o γ)

-- what the host has lent, at the table t: what it sees there, the borrow and its token
abbrev pub Lent : {M : Type 1} (𝓤 : Ura M) → Lft → Share → ℕ → ℕ → GName → Table → List (Item 𝓤)
Lent 𝓤 κ q b o γ t = ‵ (fobs γ (lent t)) ∷ ‵ (loan κ b o γ) ∷ ‵ (flft κ q) ∷ []

abbrev pub IsTable : Table → Type 0
IsTable t = Is T.the_row t (machine t ∷ [])

abbrev pub Typed : Ty → Val → Type 0
Typed τ v = Holds (has_ty τ v) × WT v

module _ {M : Type 1} {𝓤 : Ura M} {𝓛 : Logic 𝓤} {Γ : List (Item 𝓤)} where
  -- what a number owns is had for nothing
  open 𝓛 use {H}

  pub number : Go {0} → {G : Goal 𝓤 H} (n : ℕ) → n < 2 ^ 32 → Step (Go {0}) 𝓛 (‵ (u32.own_val n (vint w32 n ∷ [])) ∷ Γ) G Γ G
  number t n fits = owned ! u32 (Is u32) (uint_Makes 𝓛 w32) n (vint w32 n ∷ []) (refl, fits)

  -- a constant that is too large to be compared by computation
  pub large : Go {0} → {E : Env 𝓤 H} {w : Width} {n : ℕ} → Fits w n → Opd (Go {0}) 𝓛 Γ E (int_big w n) (vint w n)
  large t {E} {w} {n} fits = record { go = λ Kt h. via 𝓤 (Kt (vint w n)) h (guard_i 𝓤 (Fits w n) (Kt (vint w n)) fits) }

  module _ {κ : Lft} {q : Share} {γ : GName} (b o : ℕ) where
    -- the borrow opened: the table's cell, what the table owns, and what closes the borrow
    pub table_opens : Go {0} → {G : Goal 𝓤 H} → Soaks G → (h : Table)
        → (IsTable h → Seq (Go {0}) 𝓛 (‵ (fat full_share T'.mir b o (machine h)) ∷ ‵ ((T.the_row).own_val h (machine h ∷ []))
        ∷ ‵ (open_loan κ q b o γ) ∷ ‵ (fobs γ (lent h)) ∷ ‵ (fauth γ (lent h)) ∷ Γ) G)
        → Seq (Go {0}) 𝓛 (‵ (fobs γ (lent h)) ∷ ‵ (loan κ b o γ) ∷ ‵ (flft κ q) ∷ Γ) G
    table_opens t z h k =
        opens ! z T.the_row {h = h} b o (λ vs.
        spelt ! T.the_row (Is T.the_row) (shows 𝓛 T.the_row) (LL.vals T.the_type T'.the_laws) (LL.tells T.the_type T'.the_laws)
        full_share h vs b o $
        use1 𝓛 (‵ (fat full_share T'.mir b o (machine h))) (𝓛.laws.raw_at full_share T'.mir b o (machine h)) $ move ! (1 ∷ []) $
        peeks ! T.the_row (Is T.the_row) (shows 𝓛 T.the_row) h (machine h ∷ []) (λ was. move ! (1 ∷ 0 ∷ []) $ k was))

    -- and closed, where another table lies in the cell
    pub table_closes : Go {0} → {G : Goal 𝓤 H} → Soaks G → {u v : Gv} (h : Table) → IsTable h
        → Step (Go {0}) 𝓛 (‵ (fobs γ (lent h)) ∷ ‵ (loan κ b o γ) ∷ ‵ (flft κ q) ∷ Γ) G
        (‵ (fat full_share T'.mir b o (machine h)) ∷ ‵ (open_loan κ q b o γ) ∷ ‵ (fobs γ u) ∷ ‵ (fauth γ v) ∷ Γ) G
    table_closes t z h is = step (λ s.
        use1 𝓛 (‵ (cell_at full_share (T.the_row).mir (machine h ∷ []) b o)) (𝓛.laws.at_raw full_share T'.mir b o (machine h)) $
        owned ! T.the_row (Is T.the_row) ((LL.makes T.the_type T'.the_plain) 𝓛) h (machine h ∷ []) is $ move ! (1 ∷ 0 ∷ []) $
        closes ! z T.the_row h (machine h ∷ []) b o $ s)

-- a value of the type that a local is known to have
pub typed_as : (v : Val) {τ ρ : Ty} → τ ≡ ρ → Typed ρ v → Typed τ v
typed_as v e typed = subst (λ (τ : Ty). Typed τ v) (sym e) typed

module _ {M : Type 1} {𝓤 : Ura M} {𝓛 : Logic 𝓤} {Γ : List (Item 𝓤)} {κ : Lft} {q : Share} {γ : GName}
    (b o : ℕ) {C : Calls 𝓤 𝓛.H} {Λ : Loops 𝓤 𝓛.H} {E : Env 𝓤 𝓛.H} {xs : List (Option Val)} {Q : Post 𝓤 𝓛.H}
  where
    -- the lent table is copied to the local _i, and _1 has the pointer to it
    pub table_copied : Go {0} → {i : ℕ} → get_or xs 1 none ≡ some (vptr b o) → Has xs i → type_of E i ≡ T'.mir → {rest : Code} (h : Table)
        → (IsTable h → Seq (Go {0}) 𝓛 (‵ (fat full_share T'.mir b o (machine h)) ∷ ‵ ((T.the_row).own_val h (machine h ∷ []))
        ∷ ‵ (open_loan κ q b o γ) ∷ ‵ (fobs γ (lent h)) ∷ ‵ (fauth γ (lent h)) ∷ locals 𝓤 E (set xs i (some (machine h))) ∷ Γ)
        (runs C Λ E rest Q))
        → Seq (Go {0}) 𝓛 (‵ (fobs γ (lent h)) ∷ ‵ (loan κ b o γ) ∷ ‵ (flft κ q) ∷ locals 𝓤 E xs ∷ Γ)
        (runs C Λ E (seq (assign (place i []) (rv_opd (copy (place 1 (deref T'.mir ∷ []))))) rest) Q)
    table_copied t at_1 has τ-is h k =
        table_opens b o ! tt h (λ was.
        sets ! 5 refl has (of_opd ! (load ! (from ! (hop ! (look_in ! 5 (cell ! 1 at_1)) (stop !))) (look ! 0 refl)))
        (typed_as (machine h) τ-is ((LL.lawful T.the_type T'.the_laws 𝓛).typed h _ was).0) $ k was)
