-- What an even share of every interval takes of one interval, by the figures of the places, where looking ahead keeps these in arrays; and
-- that for each entry this is what the entry needs. Assumes nothing.
use Rattle.std.specs.Prelude.{◌≡◌, List, [], ℕ, ◌+◌, ◌-◌, ◌≤◌, ◌<◌, max, refl, length, get_or, sum_by, All}
use Rattle.std.proofs.Common.{sym, subst, ◌∙◌, arith}
use Rattle.base_numbers.specs.Upward.{upward}
use Rattle.base_numbers.proofs.RoundingUp.{upward_none}
use Rattle.spec_model.specs.declared.Entry.{Entry}
use Rattle.spec_model.specs.Tables.{places}
use Rattle.law_ahead.specs.Even.{evenly}
use Rattle.ahead_figures.specs.Columns.{Columns, columns, figures_at}
use Rattle.ahead_figures.specs.Arrays.{table_of, table_at, summed_by, padded_sum}
use Rattle.ahead_figures.specs.Figures.{never}
use Rattle.ahead_figures.specs.Totals.{total, total_same, total_table}
use Rattle.ahead_figures.specs.declared.Figures.{Figures}

-- a place's load, and so many slots of each interval as serve it in time: what it is owed, up to its end, and what each later period begins
-- with, over the period
abbrev pub need_in : (now : ℕ) → Figures → ℕ
need_in now f = f.load.0 + max (upward f.owed.0 (f.end.0 - now)) (upward f.begin.0 f.period.0)

abbrev pub even_needs : (now : ℕ) → Columns → ℕ
even_needs now c = total places (need_in now) c

-- the columns that it goes by: no ranks and no lives
abbrev pub shares : (owed ends loads begins periods : List ℕ) → Columns
shares owed ends loads begins periods = columns [] owed ends [] loads begins periods

-- only the first places are used, and no end is past
pub record Shared (c : Columns) (used now : ℕ) : Type 0 where
  pub few : used ≤ places
  pub owed : (i : ℕ) → used ≤ i → i < places → get_or c.owed i 0 ≡ 0
  pub loads : (i : ℕ) → used ≤ i → i < places → get_or c.loads i 0 ≡ 0
  pub begins : (i : ℕ) → used ≤ i → i < places → get_or c.begins i 0 ≡ 0
  pub ahead : (i : ℕ) → i < places → now ≤ get_or c.ends i 0

-- ---- nothing needs nothing
pub even_none : (left period : ℕ) → max (upward 0 left) (upward 0 period) ≡ 0
even_none left period = omega (arith, upward_none left, upward_none period)

pub shared_free : {c : Columns} {used now : ℕ} → Shared c used now → (i : ℕ) → used ≤ i → i < places → need_in now (figures_at c i) ≡ 0
shared_free {c} {used} {now} s i h k =
    rw (s.owed i h k, s.loads i h k, s.begins i h k) (omega (arith, even_none (get_or c.ends i 0 - now) (get_or c.periods i 0)))

-- ---- an entry: the larger of the two serves it evenly
-- kind 2 has its minimum in each later period
pub even_whole : (e : Entry) → e.kind ≡ 2
    → max (upward e.owed.0 e.left.0) (upward e.min.0 e.period.0) ≡ evenly e
unfolding evenly
even_whole e k = rw k

-- kind 3 has no later period
pub even_transfer : (e : Entry) → e.kind ≡ 3 → (period : ℕ)
    → max (upward e.owed.0 e.left.0) (upward 0 period) ≡ evenly e
unfolding evenly
even_transfer e k period = rw (k, upward_none period) (omega arith)

-- ---- a table, by the figures of its first places
pub needs_table : (now : ℕ) (fs : List Figures) → length fs ≤ places
    → (let c = table_of fs in sum_by (need_in now) fs ≡ even_needs now (shares c.owed c.ends c.loads c.begins c.periods))
needs_table now fs h =
    summed_by (need_in now) fs ∙ sym (padded_sum (need_in now) (omega (arith, even_none (never - now) 0)) fs)
    ∙ sym (total_table (need_in now) fs h)
    ∙ total_same (need_in now) (table_of fs) _ places (λ i. refl)

pub ahead_table : {now : ℕ} (fs : List Figures) → length fs ≤ places → ((i : ℕ) → i < places → now ≤ get_or (table_of fs).ends i 0)
    → All (λ f. now ≤ f.end.0) fs
ahead_table {now} fs h a i d l = subst (λ f. now ≤ f.end.0) (table_at fs i d l) (a i (omega arith))
