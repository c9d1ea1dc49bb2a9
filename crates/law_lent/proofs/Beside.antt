-- Plain values that a form takes beside a lent table, of any types and however many: their machine values are spelled out, what they own is
-- had for nothing, and nothing is said of them at exit. A parameter more is one more in the list. Assumes nothing.
use mathlib.Core.Path.{◌≡◌, refl}
use mathlib.Core.List.{[], ◌∷◌, List}
use seplogic.Ra.Ura.{Ura}
use mir.Syntax.{w32}
use mir.Val.{Val}
use base.Logic.{ent, emp, id⊢}
use base.Fml.{Lft, ftrue}
use types.Logic.{Logic, sem}
use types.Kit.{‵, ◌$◌, ◌∵◌, !, qed, use0, fjoin, done}
use denote.RattleType.{RattleType, Denots, Valss, flat}
use denote.Laws.{Is, Ises, Are, Tells, Tellss, Spells, Makes, valss}
use denote.Plain.{uint_vals, uint_Tells, uint_Makes}
use denote.Builtin.{u32}
use denote.Exit.{Last, left, yes}
use denote.Signature.{Slot, plain, types_at}
use denote.Struct.Laws as LL
use denote.Triple.End.{Kepts, Fins, all}
use denote.Triple.Walked.{Stays, stay_none, fits_of, has_of, AllGo, Goes-none}
use Rattle.spec_model.specs.contracts.Name as N
use Rattle.spec_model.proofs.Name.TheLaws as N'

-- one of them
pub record Plain : Type 2 where
  pub row : RattleType
  pub vals : row.Denot → List Val
  pub tells : Tells row (Is row) vals
  pub makes : {M : Type 1} {𝓤 : Ura M} (𝓛 : Logic 𝓤) → Makes 𝓛 row (Is row)
  pub last : (x : row.Denot) → Last (row.exit yes) x
  pub silent : (x : row.Denot) (f : Last (row.exit yes) x) → left (row.exit yes) x f ≡ ftrue

abbrev pub number_beside : Plain
number_beside = record {
  row = u32;
  vals = uint_vals w32;
  tells = uint_Tells w32;
  makes = λ 𝓛. uint_Makes 𝓛 w32;
  last = λ x. tt;
  silent = λ x f. refl;
}

abbrev pub name_beside : Plain
name_beside = record {
  row = N.the_row;
  vals = LL.vals N.the_type N'.the_laws;
  tells = LL.tells N.the_type N'.the_laws;
  makes = λ 𝓛. LL.makes N.the_type N'.the_plain 𝓛;
  last = λ x. tt;
  silent = λ x f. refl;
}

-- ---- all of them
abbrev pub slots : List Plain → List (Slot 1)
slots [] = []
slots (P ∷ Ps) = plain (λ κs. P.row) ∷ slots Ps

abbrev pub kept : (Ps : List Plain) → Kepts (slots Ps)
kept Ps = all yes (slots Ps)

abbrev pub stays : (Ps : List Plain) → Stays (slots Ps) (kept Ps)
stays [] = tt
stays (P ∷ Ps) = (stay_none (λ _. P.row) yes, stays Ps)

abbrev pub rows : List Plain → Lft → List RattleType
rows Ps κ = types_at (slots Ps) (κ, tt)

abbrev pub Values : List Plain → Lft → Type 0
Values Ps κ = Denots (rows Ps κ)

abbrev pub spells : (Ps : List Plain) (κ : Lft) → Spells (rows Ps κ)
spells [] κ = tt
spells (P ∷ Ps) κ = (P.vals, spells Ps κ)

abbrev pub tellss : (Ps : List Plain) (κ : Lft) → Tellss (rows Ps κ) (Ises (rows Ps κ)) (spells Ps κ)
tellss [] κ = tt
tellss (P ∷ Ps) κ = (P.tells, tellss Ps κ)

-- their machine values, for each and in a row
abbrev pub spelled : (Ps : List Plain) (κ : Lft) → Values Ps κ → Valss (rows Ps κ)
spelled Ps κ a = valss (rows Ps κ) (spells Ps κ) a

abbrev pub machines : (Ps : List Plain) (κ : Lft) → Values Ps κ → List Val
machines Ps κ a = flat (rows Ps κ) (spelled Ps κ a)

-- they are values of their types
abbrev pub AreValues : (Ps : List Plain) (κ : Lft) → Values Ps κ → Type 0
AreValues Ps κ a = Are (rows Ps κ) (Ises (rows Ps κ)) a (spelled Ps κ a)

abbrev pub lasts : (Ps : List Plain) (κ : Lft) (a : Values Ps κ) → Fins (κ, tt) (slots Ps) (kept Ps) a
lasts [] κ a = tt
lasts (P ∷ Ps) κ a = (P.last a.0, lasts Ps κ a.1)

abbrev pub fits : (Ps : List Plain) (κ : Lft) (a : Values Ps κ) → fits_of (κ, tt) (slots Ps) (kept Ps) (stays Ps) a (lasts Ps κ a)
fits [] κ a = tt
fits (P ∷ Ps) κ a = (tt, fits Ps κ a.1)

module _ {M : Type 1} {𝓤 : Ura M} (𝓛 : Logic 𝓤) where
  abbrev pub goes : (Ps : List Plain) → AllGo 𝓛 1 (slots Ps) (kept Ps) (stays Ps)
  goes [] = tt
  goes (P ∷ Ps) = (Goes-none 𝓛 1 (λ _. P.row) yes (λ κs x f. P.silent x f), goes Ps)

  -- what they own is had for nothing
  pub had : (Ps : List Plain) (κ : Lft) (a : Values Ps κ) → AreValues Ps κ a
      → ent 𝓤 (emp 𝓤) (sem 𝓛 (has_of (κ, tt) (slots Ps) (kept Ps) (stays Ps) a (lasts Ps κ a) (spelled Ps κ a)))
  had [] κ a are = id⊢ 𝓤 (emp 𝓤)
  had (P ∷ Ps) κ a are =
      let rest = has_of (κ, tt) (slots Ps) (kept Ps) (stays Ps) a.1 (lasts Ps κ a.1) (spelled Ps κ a.1) in
      qed 𝓛 [] ∵ use0 𝓛 (‵ rest) (had Ps κ a.1 are.1) $
      use0 𝓛 (‵ (P.row.own_val a.0 (P.vals a.0))) (P.makes 𝓛 a.0 (P.vals a.0) are.0) $ fjoin ! $ done !
