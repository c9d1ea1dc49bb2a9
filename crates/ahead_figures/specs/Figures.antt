-- The figures of an entry that looking ahead goes by, where looking ahead begins. Assumes nothing.
use Rattle.std.specs.Prelude.{cond, ℕ}
use Rattle.spec_model.specs.Entries.{is_held, is_kind, is_piece, asks}
use Rattle.spec_model.specs.declared.Entry.{Entry}
use Rattle.spec_model.specs.declared.Intervals.{Intervals}
use Rattle.spec_model.specs.declared.Slots.{Slots}
use Rattle.spec_rules.specs.Share.{load_of}
use Rattle.law_steps.specs.Ranks.{rank}
use Rattle.table_entry.specs.Amounts.{owed_to}
use Rattle.ahead_figures.specs.declared.Figures.{Figures}

-- no life is longer, and so no end comes later
abbrev pub longest : ℕ
longest = 65535

abbrev pub never : ℕ
never = 4294967295

abbrev pub life_of : Entry → ℕ
life_of e = e.life_left.0

-- in a free place nothing ends
abbrev pub life_end : Entry → ℕ
life_end e = cond (is_held e) (life_of e) never

-- that of the period, where there is one
abbrev pub end_of : Entry → ℕ
end_of e = cond (is_piece e) e.left.0 (life_end e)

-- what the next period of kind 2 begins with; a transfer begins once
abbrev pub begin_of : Entry → ℕ
begin_of e = cond (is_kind 2 e) (asks e) 0

-- 0 where no period follows
abbrev pub period_of : Entry → ℕ
period_of e = cond (is_kind 2 e) e.period.0 0

-- what does not go by kind, beside what does
abbrev pub figured : Entry → (owed : Slots) (end : Intervals) (begin : Slots) (period : Intervals) → Figures
figured e owed end begin period =
    record {
      rank = rank e;
      owed = owed;
      end = end;
      life = e.life_left;
      load = record { 0 = load_of e };
      begin = begin;
      period = period;
    }

abbrev pub figures_of : Entry → Figures
figures_of e = figured e (record { 0 = owed_to e }) (record { 0 = end_of e }) (record { 0 = begin_of e }) (record { 0 = period_of e })
