-- The loop that serves by rank: what it has done. Assumes nothing.
use Rattle.std.proofs.Common.{◌≡◌, ℕ, ◌-◌, ◌≤◌, ◌<◌, List, min, length, set, get_or, refl, sym, ap, subst, ◌∙◌, arith, length-set}
use Rattle.spec_model.specs.Tables.{places}
use Rattle.ahead_figures.specs.Arrays.{table_of, table_at}
use Rattle.ahead_figures.specs.Columns.{Columns, with_owed, owing}
use Rattle.ahead_figures.specs.declared.Figures.{Figures}
use Rattle.ahead_serve.specs.Serving.{left_of, Ranked, First}
use Rattle.ahead_serve.specs.Places.{table_set}
use Rattle.ahead_serve.specs.Laws.{left_none, left_nobody, served_ranked, served_left}

-- the rest of the slots leaves of what is still owed what all slots leave of all
pub record Serving (slots used : ℕ) (c₀ : Columns) (rest : ℕ) (c : Columns) : Type 0 where
  pub ranked : Ranked c.ranks c.owed used
  pub so_far : owing (left_of rest c.ranks c.owed) c ≡ owing (left_of slots c₀.ranks c₀.owed) c₀
  pub inside : rest ≤ slots

module _ {slots used : ℕ} {c₀ : Columns} where
  pub serving_none : Ranked c₀.ranks c₀.owed used → Serving slots used c₀ slots c₀
  serving_none w = record { ranked = w; so_far = refl; inside = omega arith }

  module _ {rest : ℕ} {c : Columns} (s : Serving slots used c₀ rest c) where
    pub serving_more : {k x : ℕ} → First c.ranks c.owed k → k < places → x ≡ min (get_or c.owed k 0) rest
        → Serving slots used c₀ (rest - x) (owing (set c.owed k (get_or c.owed k 0 - x)) c)
    serving_more f h e =
        record {
          ranked = served_ranked rest s.ranked f h e;
          so_far = ap (λ o. owing o c) (served_left rest s.ranked f h e) ∙ s.so_far;
          inside = omega (arith, s.inside);
        }

    pub serving_all : rest ≡ 0 → c ≡ owing (left_of slots c₀.ranks c₀.owed) c₀
    serving_all z = ap (λ o. owing o c) (left_none rest s.ranked.owing z) ∙ s.so_far

    -- nobody is owed anything
    pub serving_nobody : First c.ranks c.owed places → c ≡ owing (left_of slots c₀.ranks c₀.owed) c₀
    serving_nobody f = ap (λ o. owing o c) (left_nobody rest s.ranked.owing f (omega arith)) ∙ s.so_far

-- ---- a turn, by the figures of its place
module _ {slots rest : ℕ} {c₀ : Columns} (fs : List Figures) {i x : ℕ} (d : Figures) where
  pub turn_served : Serving slots (length fs) c₀ rest (table_of fs) → (i < length fs) × First (table_of fs).ranks (table_of fs).owed i
      → x ≡ min (get_or fs i d).owed.0 rest → (let gs = set fs i (with_owed ((get_or fs i d).owed.0 - x) (get_or fs i d)) in
      Serving slots (length gs) c₀ (rest - x) (table_of gs))
  turn_served s f e =
      let own : get_or (table_of fs).owed i 0 ≡ (get_or fs i d).owed.0 = ap (λ (g : Figures). g.owed.0) (table_at fs i d f.0) in
      subst (λ n. Serving slots n c₀ (rest - x) (table_of (set fs i (with_owed ((get_or fs i d).owed.0 - x) (get_or fs i d)))))
      (sym (length-set fs i (with_owed ((get_or fs i d).owed.0 - x) (get_or fs i d))))
      (subst (Serving slots (length fs) c₀ (rest - x)) (sym (table_set fs i ((get_or fs i d).owed.0 - x) d f.0))
      (subst (λ o. Serving slots (length fs) c₀ (rest - x) (owing (set (table_of fs).owed i (o - x)) (table_of fs))) own
      (serving_more s f.1 (omega (arith, f.0, s.ranked.owing.short)) (rw own e))))
