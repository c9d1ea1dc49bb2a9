-- The figures of a table's places by columns, one for each figure: definitions and laws hand them on as one record, and read a place's figures
-- by `figures_at`. Assumes nothing.
use Rattle.std.specs.Prelude.{◌≡◌, refl, List, [], ◌∷◌, map, ℕ, zero, suc, ◌<◌, length, set, get_or, replicate}
use Rattle.std.proofs.Common.{sym, ap, ap₂, ◌∙◌}
use Rattle.std.proofs.lemmas.List.{length-map}
use Rattle.base_lists.specs.Loops.{map_at}
use Rattle.spec_model.specs.Entries.{free_entry}
use Rattle.spec_model.specs.declared.Entry.{Entry}
use Rattle.spec_model.specs.Tables.{places}
use Rattle.spec_rules.specs.Share.{load_of}
use Rattle.law_model.specs.Loads.{load_of_free}
use Rattle.law_steps.specs.Ranks.{rank}
use Rattle.law_steps.proofs.Ranks.{rank_free}
use Rattle.table_entry.specs.Amounts.{owed_to}
use Rattle.ahead_figures.specs.Figures.{never, end_of, life_of, begin_of, period_of, figures_of}
use Rattle.ahead_figures.specs.declared.Figures.{Figures}

pub record Columns : Type 0 where
  pub ranks : List ℕ
  pub owed : List ℕ
  pub ends : List ℕ
  pub lives : List ℕ
  pub loads : List ℕ
  pub begins : List ℕ
  pub periods : List ℕ

-- arrays that are lent
abbrev pub columns : (ranks owed ends lives loads begins periods : List ℕ) → Columns
columns ranks owed ends lives loads begins periods =
    record { ranks = ranks; owed = owed; ends = ends; lives = lives; loads = loads; begins = begins; periods = periods }

-- a figure for each place
pub record Sized (c : Columns) : Type 0 where
  pub ranks : length c.ranks ≡ places
  pub owed : length c.owed ≡ places
  pub ends : length c.ends ≡ places
  pub lives : length c.lives ≡ places
  pub loads : length c.loads ≡ places
  pub begins : length c.begins ≡ places
  pub periods : length c.periods ≡ places

-- the figures of one place
abbrev pub figures_at : Columns → ℕ → Figures
figures_at c i =
    record {
      rank = get_or c.ranks i 0;
      owed = record { 0 = get_or c.owed i 0 };
      end = record { 0 = get_or c.ends i 0 };
      life = record { 0 = get_or c.lives i 0 };
      load = record { 0 = get_or c.loads i 0 };
      begin = record { 0 = get_or c.begins i 0 };
      period = record { 0 = get_or c.periods i 0 };
    }

-- other figures in the place of these
abbrev pub entered : ℕ → Figures → Columns → Columns
entered i f c =
    columns (set c.ranks i f.rank) (set c.owed i f.owed.0) (set c.ends i f.end.0) (set c.lives i f.life.0)
    (set c.loads i f.load.0) (set c.begins i f.begin.0) (set c.periods i f.period.0)

-- another amount owed at a place, and at each place
abbrev pub with_owed : ℕ → Figures → Figures
with_owed o f =
    record {
      rank = f.rank;
      owed = record { 0 = o };
      end = f.end;
      life = f.life;
      load = f.load;
      begin = f.begin;
      period = f.period;
    }

abbrev pub owing : List ℕ → Columns → Columns
owing O c = columns c.ranks O c.ends c.lives c.loads c.begins c.periods

-- ---- the figures of entries
abbrev pub columns_of : List Entry → Columns
columns_of es =
    columns (map rank es) (map owed_to es) (map end_of es) (map life_of es) (map load_of es) (map begin_of es) (map period_of es)

-- of free places
pub columns_free :
    columns (replicate places 0) (replicate places 0) (replicate places never) (replicate places 0) (replicate places 0) (replicate places 0)
    (replicate places 0)
    ≡ columns_of (replicate places free_entry)
columns_free =
    ap₂ (λ r l. columns (replicate places r) (replicate places 0) (replicate places never) (replicate places 0) (replicate places l)
    (replicate places 0) (replicate places 0)) (sym rank_free) (sym load_of_free)

pub columns_sized : (es : List Entry) → length es ≡ places → Sized (columns_of es)
columns_sized es n =
    record {
      ranks = one rank;
      owed = one owed_to;
      ends = one end_of;
      lives = one life_of;
      loads = one load_of;
      begins = one begin_of;
      periods = one period_of;
    }
  where
    one : (g : Entry → ℕ) → length (map g es) ≡ places
    one g = length-map es g ∙ n

pub columns_at : (es : List Entry) (i : ℕ) → i < length es → figures_at (columns_of es) i ≡ figures_of (get_or es i free_entry)
columns_at es i h = rw (one rank, one owed_to, one end_of, one life_of, one load_of, one begin_of, one period_of)
  where
    one : (g : Entry → ℕ) → get_or (map g es) i 0 ≡ g (get_or es i free_entry)
    one g = map_at g es i free_entry 0 h

map_set : (g : Entry → ℕ) (es : List Entry) (i : ℕ) (e : Entry) → set (map g es) i (g e) ≡ map g (set es i e)
map_set g [] i e = refl
map_set g (x ∷ es) zero e = refl
map_set g (x ∷ es) (suc i) e = ap (λ l. g x ∷ l) (map_set g es i e)

-- of one more entry, in its place
pub columns_entered : (es : List Entry) (i : ℕ) (e : Entry) → entered i (figures_of e) (columns_of es) ≡ columns_of (set es i e)
columns_entered es i e = rw (one rank, one owed_to, one end_of, one life_of, one load_of, one begin_of, one period_of)
  where
    one : (g : Entry → ℕ) → set (map g es) i (g e) ≡ map g (set es i e)
    one g = map_set g es i e
