-- The figures of a place show its entry, at a time that counts intervals from where looking ahead began; and they show it still after the
-- intervals up to the nearest end, served as one. Assumes nothing.
use Rattle.std.specs.Prelude.{◌≡◌, true, ℕ, ◌+◌, ◌*◌, ◌-◌, ◌≤◌}
use Rattle.std.proofs.Math.Bool.{cond}
use Rattle.std.proofs.Math.Dec.{eqb}
use Rattle.spec_model.specs.Entries.{is_held, is_piece}
use Rattle.spec_model.specs.declared.Entry.{Entry}
use Rattle.spec_rules.specs.Share.{load_of}
use Rattle.law_steps.specs.Ranks.{rank, rank_most, rank_interval}
use Rattle.law_ahead.specs.Leap.{event_in}
use Rattle.table_entry.specs.Amounts.{owed_to}
use Rattle.ahead_figures.specs.Figures.{longest, never, begin_of, period_of}
use Rattle.ahead_figures.specs.declared.Figures.{Figures}

-- the end of an entry's period or life, counted from where looking ahead began; in a free place nothing ends
abbrev pub end_at : (now : ℕ) → Entry → ℕ
end_at now e = cond (is_held e) (now + event_in e) never

pub record Shown (now : ℕ) (e : Entry) (f : Figures) : Type 0 where
  pub owed : f.owed.0 ≡ owed_to e
  pub end : f.end.0 ≡ end_at now e
  pub load : f.load.0 ≡ load_of e
  pub begin : f.begin.0 ≡ begin_of e
  pub life : is_held e ≡ true → f.life.0 ≡ now + e.life_left.0
  pub soon : is_held e ≡ true → now + e.life_left.0 ≤ longest
  pub period : is_held e ≡ true → f.period.0 ≡ period_of e
  pub short : f.period.0 ≤ longest
  pub rank : is_piece e ≡ true → f.rank ≡ rank e + now * rank_interval
  pub low : f.rank ≤ rank_most + now * rank_interval

-- what is due at the end is paid
abbrev pub stays : (at b : ℕ) → Entry → Figures → ℕ
stays at b e f = cond (eqb f.end.0 at) 0 (owed_to e - b)
