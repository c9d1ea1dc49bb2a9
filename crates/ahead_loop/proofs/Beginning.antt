-- Where looking ahead begins: the figures of a table's first places, with those of one more entry, stand for the table with the entry.
-- Assumes nothing.
use Rattle.std.proofs.Common.{◌≡◌, List, ℕ, ◌+◌, ◌<◌, max, map, length, take, drop, set, sym, ap, ap₂, subst, ◌∙◌, arith, length-set}
use Rattle.std.proofs.lemmas.List.{length-map, length-take-le, map-set}
use Rattle.spec_lists.specs.All.{All}
use Rattle.base_lists.specs.Spare.{Spare, spare_map}
use Rattle.spec_model.specs.Entries.{free_entry}
use Rattle.spec_model.specs.Frames.{room_in}
use Rattle.spec_model.specs.Tables.{places, put_in}
use Rattle.spec_model.specs.declared.Entry.{Entry}
use Rattle.spec_model.specs.declared.Table.{Table}
use Rattle.spec_rules.specs.WellFormed.{Tidy}
use Rattle.table_queue.specs.Queues.{Used}
use Rattle.ahead_figures.specs.Arrays.{free_figures, columns_in, table_of, free_is, columns_in_of, padded_take}
use Rattle.ahead_figures.specs.Columns.{columns_of}
use Rattle.ahead_figures.specs.Figures.{figures_of}
use Rattle.ahead_figures.specs.declared.Figures.{Figures}
use Rattle.law_figures.specs.Looking.{Begins}
use Rattle.law_figures.proofs.Begin.{begins, put_used}

module _ (t : Table) {place used room last : ℕ} (e : Entry) (w : Tidy t × Used used t) (p : (place < places) × Tidy (put_in t place e))
    (m : room ≡ room_in t.frame) (l : last ≡ max used (place + 1)) where
  abbrev es : List Entry
  es = set t.entries place e

  in_use : Used last (put_in t place e)
  in_use = put_used t w.0 e p.0 w.1 l

  spare : Spare free_figures last (map figures_of es)
  spare = subst (λ d. All (λ y. y ≡ d) (drop last (map figures_of es))) (sym free_is) (spare_map free_entry figures_of last es in_use.1)

  size : length (map figures_of es) ≡ places
  size = length-map es figures_of ∙ length-set t.entries place e ∙ w.0.size

  pub begun : {fs : List Figures} {f : Figures} → fs ≡ map figures_of t.entries → f ≡ figures_of e
      → (let gs = take last (set fs place f) in Begins (put_in t place e) room (length gs) (table_of gs))
  begun {fs} {f} q h =
      let all : set fs place f ≡ map figures_of es = ap₂ (λ l g. set l place g) q h ∙ sym (map-set figures_of t.entries place e) in
      let known : table_of (take last (set fs place f)) ≡ columns_of es =
      ap (λ l. table_of (take last l)) all ∙ ap columns_in (padded_take last (map figures_of es) size in_use.0 spare) ∙ columns_in_of es in
      let few : last ≡ length (take last (set fs place f)) =
      sym (length-take-le last (set fs place f) (omega (arith, ap length all, size, in_use.0))) in
      subst (λ r. Begins (put_in t place e) r (length (take last (set fs place f))) (table_of (take last (set fs place f)))) (sym m)
      (begins (put_in t place e) p.1 (subst (λ n. Used n (put_in t place e)) few in_use) known)
