-- Laws of passing an end: one place after the other, and of a whole table by the figures of its first places. Assumes nothing.
use Rattle.std.specs.Prelude.{◌≡◌, refl, Bool, true, false, cond, List, map, All, ℕ, ◌+◌, ◌≤◌, ◌<◌, eqb, ltb, length, set, get_or}
use Rattle.std.proofs.Common.{sym, ap, subst, ◌∙◌, zero-le, arith, length-set, get_or-set_same, get_or-set_other, eq-eqb, ne_eqb, ltb-true, ltb-false, lt-ltb, le-ltb}
use Rattle.std.proofs.Math.Decide.{ℕ_discrete}
use Rattle.std.proofs.lemmas.List.{length-map}
use Rattle.base_lists.specs.Loops.{map_at}
use Rattle.base_lists.specs.Tests.{same_test}
use Rattle.base_lists.specs.Spare.{Spare, spare_at_lem}
use Rattle.spec_model.specs.Tables.{places}
use Rattle.ahead_figures.specs.Arrays.{free_figures, padded, columns_in, table_of, sized_in, figures_in, length_padded, padded_map, table_at}
use Rattle.ahead_figures.specs.Columns.{Columns, columns, figures_at, Sized}
use Rattle.ahead_figures.specs.Figures.{never}
use Rattle.ahead_figures.specs.declared.Figures.{Figures}
use Rattle.ahead_pass.specs.Passed.{gone, anew, after_end, passed_end, InRoom, Roomy, PassedEnds}

-- the figures of place i, but for its life and its period, which stay
abbrev pub moved : ℕ → Figures → Columns → Columns
moved i g c =
    columns (set c.ranks i g.rank) (set c.owed i g.owed.0) (set c.ends i g.end.0) c.lives
    (set c.loads i g.load.0) (set c.begins i g.begin.0) c.periods

module _ (i : ℕ) (g : Figures) {c : Columns} (s : Sized c) where
  moved_sized : Sized (moved i g c)
  moved_sized =
      record {
        ranks = length-set c.ranks i _ ∙ s.ranks;
        owed = length-set c.owed i _ ∙ s.owed;
        ends = length-set c.ends i _ ∙ s.ends;
        lives = s.lives;
        loads = length-set c.loads i _ ∙ s.loads;
        begins = length-set c.begins i _ ∙ s.begins;
        periods = s.periods;
      }

  moved_same : i < places → g.life ≡ (figures_at c i).life → g.period ≡ (figures_at c i).period → figures_at (moved i g c) i ≡ g
  moved_same h l p =
      rw (
        get_or-set_same c.ranks i g.rank 0 (omega (arith, s.ranks)),
        get_or-set_same c.owed i g.owed.0 0 (omega (arith, s.owed)),
        get_or-set_same c.ends i g.end.0 0 (omega (arith, s.ends)),
        get_or-set_same c.loads i g.load.0 0 (omega (arith, s.loads)),
        get_or-set_same c.begins i g.begin.0 0 (omega (arith, s.begins)),
        ← l,
        ← p,
      )

  moved_other : (j : ℕ) → (j ≡ i → ⊥) → figures_at (moved i g c) j ≡ figures_at c j
  moved_other j n =
      rw (
        get_or-set_other c.ranks i j g.rank 0 n,
        get_or-set_other c.owed i j g.owed.0 0 n,
        get_or-set_other c.ends i j g.end.0 0 n,
        get_or-set_other c.loads i j g.load.0 0 n,
        get_or-set_other c.begins i j g.begin.0 0 n,
      )

-- a life and a period stay
kept_life : (at : ℕ) (f : Figures) → (after_end at f).life ≡ f.life
kept_life at f = go (eqb f.life.0 at)
  where
    go : (b : Bool) → (cond b (gone f) (anew at f)).life ≡ f.life
    go true = refl
    go false = refl

kept_period : (at : ℕ) (f : Figures) → (after_end at f).period ≡ f.period
kept_period at f = go (eqb f.life.0 at)
  where
    go : (b : Bool) → (cond b (gone f) (anew at f)).period ≡ f.period
    go true = refl
    go false = refl

module _ (at : ℕ) (c₀ : Columns) where
  abbrev before : ℕ → Figures
  before j = figures_at c₀ j

  -- after i turns the first i places have passed it
  pub record Passing (i : ℕ) (c : Columns) : Type 0 where
    pub sized : Sized c
    pub so_far : (j : ℕ) → j < places → figures_at c j ≡ cond (ltb j i) (passed_end at (before j)) (before j)

  pub passing_none : Sized c₀ → Passing 0 c₀
  passing_none s = record { sized = s; so_far = λ j h. rw (le-ltb j 0 zero-le) }

  module _ {i : ℕ} {c : Columns} (p : Passing i c) (h : i < places) where
    -- the place of the turn has not passed it yet
    pub passing_here : figures_at c i ≡ before i
    passing_here = p.so_far i h ∙ ap (λ b. cond b (passed_end at (before i)) (before i)) (le-ltb i i (omega arith))

    -- one place more: it has passed, and the others are as they were
    turned : {c' : Columns} → Sized c' → figures_at c' i ≡ passed_end at (before i)
        → ((j : ℕ) → (j ≡ i → ⊥) → figures_at c' j ≡ figures_at c j) → Passing (i + 1) c'
    turned {c'} s here others = record { sized = s; so_far = each }
      where
        same : (j : ℕ) → (j ≡ i → ⊥) → ltb j i ≡ ltb j (i + 1)
        same j n =
            same_test (ltb j i) (ltb j (i + 1)) (λ k. lt-ltb j (i + 1) (omega (arith, ltb-true j i k)))
            (λ k. lt-ltb j i (omega (arith, ltb-true j (i + 1) k)))

        each : (j : ℕ) → j < places → figures_at c' j ≡ cond (ltb j (i + 1)) (passed_end at (before j)) (before j)
        each j l =
            elim (ℕ_discrete j i) [
              | yes e ↦ rw (e, lt-ltb i (i + 1) (omega arith)) here
              | no n ↦ others j n ∙ p.so_far j l ∙ ap (λ b. cond b (passed_end at (before j)) (before j)) (same j n)
            ]

    pub passing_same : (get_or c.ends i 0 ≡ at → ⊥) → Passing (i + 1) c
    passing_same n =
        turned p.sized (passing_here ∙ sym (ap (λ b. cond b (after_end at (before i)) (before i)) (ne_eqb _ at other))) (λ j k. refl)
      where
        other : (before i).end.0 ≡ at → ⊥
        other e = n (ap (λ (f : Figures). f.end.0) passing_here ∙ e)

    pub passing_more : {g : Figures} → get_or c.ends i 0 ≡ at → g ≡ after_end at (figures_at c i) → Passing (i + 1) (moved i g c)
    passing_more {g} e q =
        turned (moved_sized i g p.sized) (same ∙ due) (moved_other i g p.sized)
      where
        same : figures_at (moved i g c) i ≡ g
        same =
            moved_same i g p.sized h (ap (λ (f : Figures). f.life) q ∙ kept_life at (figures_at c i))
            (ap (λ (f : Figures). f.period) q ∙ kept_period at (figures_at c i))

        due : g ≡ passed_end at (before i)
        due =
            q ∙ ap (after_end at) passing_here
            ∙ sym (ap (λ b. cond b (after_end at (before i)) (before i)) (eq-eqb _ at (sym (ap (λ (f : Figures). f.end.0) passing_here) ∙ e)))

  -- behind the places that are used nothing ends
  pub passing_all : {i n : ℕ} {c : Columns} → Passing i c → n ≤ i → Sized c₀ → Spare never n c₀.ends → at < never → PassedEnds at c₀ c
  passing_all {i} {n} p h s q l = record { sized = p.sized; each = λ j k. p.so_far j k ∙ go j k (ltb j i) refl }
    where
      go : (j : ℕ) → j < places → (b : Bool) → ltb j i ≡ b → cond b (passed_end at (before j)) (before j) ≡ passed_end at (before j)
      go j k true e = refl
      go j k false e =
          sym (ap (λ b. cond b (after_end at (before j)) (before j))
          (ne_eqb _ at (λ z. omega (arith, z, spare_at_lem never n j c₀.ends 0 q (omega (arith, ltb-false j i e)) (omega (arith, s.ends))))))

-- ---- a table, by the figures of its first places
passed_free : (at : ℕ) → at < never → passed_end at free_figures ≡ free_figures
passed_free at h = ap (λ b. cond b (after_end at free_figures) free_figures) (ne_eqb never at (λ z. omega arith))

pub passed_table : (at : ℕ) (fs : List Figures) → length fs ≤ places → at < never
    → PassedEnds at (table_of fs) (table_of (map (passed_end at) fs))
passed_table at fs h l =
    record {
      sized = sized_in _ (length_padded (map (passed_end at) fs) (omega (arith, length-map fs (passed_end at))));
      each = λ i k.
          let n : i < length (padded fs) = omega (arith, length_padded fs h) in
          ap (λ gs. figures_at (columns_in gs) i) (padded_map (passed_end at) (passed_free at l) fs)
          ∙ figures_in (map (passed_end at) (padded fs)) i (omega (arith, length-map (padded fs) (passed_end at)))
          ∙ map_at (passed_end at) (padded fs) i free_figures free_figures n
          ∙ ap (passed_end at) (sym (figures_in (padded fs) i n));
    }

pub roomy_table : {used at : ℕ} (fs : List Figures) → length fs ≤ places → Roomy (table_of fs) used at → All (λ f. InRoom f at) fs
roomy_table {used} {at} fs h r k d l =
    subst (λ f. InRoom f at) (table_at fs k d l)
    (record { rank = r.rank k (omega arith); period = r.period k (omega arith); soon = r.soon })
