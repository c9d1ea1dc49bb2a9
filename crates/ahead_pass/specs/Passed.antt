-- What becomes of a place's figures at an end of its period or its life. Assumes nothing.
use Rattle.std.specs.Prelude.{◌≡◌, cond, ℕ, ◌+◌, ◌*◌, ◌≤◌, ◌<◌, eqb, get_or}
use Rattle.base_lists.specs.Spare.{Spare}
use Rattle.spec_model.specs.Tables.{places}
use Rattle.law_steps.specs.Ranks.{rank_most, rank_interval}
use Rattle.ahead_figures.specs.Columns.{Columns, figures_at, Sized}
use Rattle.ahead_figures.specs.Figures.{longest, never}
use Rattle.ahead_figures.specs.declared.Figures.{Figures}

-- ---- the figures of one place
-- no rank gets larger on the way
abbrev pub rank_top : ℕ
rank_top = rank_most + longest * rank_interval

-- its life is over: the place is free
abbrev pub gone : Figures → Figures
gone f =
    record {
      rank = f.rank;
      owed = record { 0 = 0 };
      end = record { 0 = never };
      life = f.life;
      load = record { 0 = 0 };
      begin = record { 0 = 0 };
      period = f.period;
    }

-- its next period begins
abbrev pub anew : ℕ → Figures → Figures
anew at f =
    record {
      rank = f.rank + f.period.0 * rank_interval;
      owed = f.begin;
      end = record { 0 = at + f.period.0 };
      life = f.life;
      load = f.load;
      begin = f.begin;
      period = f.period;
    }

abbrev pub after_end : ℕ → Figures → Figures
after_end at f = cond (eqb f.life.0 at) (gone f) (anew at f)

-- past the end at hand
abbrev pub passed_end : ℕ → Figures → Figures
passed_end at f = cond (eqb f.end.0 at) (after_end at f) f

-- the figures of a place have room to grow
pub record InRoom (f : Figures) (at : ℕ) : Type 0 where
  pub rank : f.rank ≤ rank_top
  pub period : f.period.0 ≤ longest
  pub soon : at ≤ longest

-- ---- all places
pub record PassedEnds (at : ℕ) (c c' : Columns) : Type 0 where
  pub sized : Sized c'
  pub each : (i : ℕ) → i < places → figures_at c' i ≡ passed_end at (figures_at c i)

-- only the first places are used, and each has room to grow
pub record Roomy (c : Columns) (used at : ℕ) : Type 0 where
  pub few : used ≤ places
  pub sized : Sized c
  pub spare : Spare never used c.ends
  pub rank : (i : ℕ) → i < places → get_or c.ranks i 0 ≤ rank_top
  pub period : (i : ℕ) → i < places → get_or c.periods i 0 ≤ longest
  pub soon : at ≤ longest
