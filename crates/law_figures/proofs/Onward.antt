-- A turn of looking ahead by figures, up to the end that comes first: what is due there is paid, the slots that are left go by rank to what
-- is due later, and what ends there ends. The figures then show the table of that end. Assumes nothing.
use Rattle.std.specs.Prelude.{◌≡◌, ◌⊎◌, Bool, true, false, List, map, ℕ, ◌+◌, ◌*◌, ◌-◌, ◌≤◌, ◌<◌, min, leb, eqb, ltb, length, drop, get_or}
use Rattle.std.proofs.Math.Path.{refl, ap, subst}
use Rattle.std.proofs.Common.{sym, ap₂, ◌∙◌, inl, inr, ⊎_elim, arith, leb-true, leb-false, ltb-true, lt-ltb}
use Rattle.std.proofs.Math.Bool.{cond}
use Rattle.std.proofs.lemmas.Simd.{map-map}
use Rattle.std.proofs.Math.Decide.{dec_le}
use Rattle.std.proofs.Math.Nat.{zero-sub}
use Rattle.std.proofs.Math.ListN.{get_or-eq_default}
use Rattle.spec_lists.specs.Lists.{sum_of, one_if}
use Rattle.spec_lists.specs.All.{All}
use Rattle.base_lists.specs.Tests.{clash, either, same_test, one_if_false}
use Rattle.base_lists.specs.All.{all_at, at_all, all_kept, all_of}
use Rattle.base_lists.specs.Sums.{sum_ext, sum_add, count_once}
use Rattle.base_lists.specs.Spare.{Spare, spare_map}
use Rattle.base_lists.specs.Loops.{map_at}
use Rattle.spec_model.specs.Names.{same, name_in_range, nobody, is_nobody}
use Rattle.spec_model.specs.Entries.{free_entry, is_held, is_piece, is_named}
use Rattle.spec_model.specs.declared.Name.{Name}
use Rattle.spec_model.specs.declared.Entry.{Entry}
use Rattle.spec_model.specs.declared.Table.{Table}
use Rattle.spec_model.specs.Tables.{places}
use Rattle.spec_rules.specs.Share.{sooner}
use Rattle.spec_rules.specs.Ahead.{settled}
use Rattle.spec_rules.specs.WellFormed.{Held, Tidy}
use Rattle.law_model.specs.Names.{same_refl, same_eq, same_ne, in_range_some}
use Rattle.law_steps.proofs.Held.{held_is}
use Rattle.law_steps.specs.Order.{by_left}
use Rattle.law_steps.proofs.Order.{before_sooner}
use Rattle.law_steps.specs.StepB.{owed_before}
use Rattle.law_steps.proofs.Places.{held_sum}
use Rattle.law_steps.specs.Closed.{takes}
use Rattle.law_steps.proofs.Closed.{takes_owed}
use Rattle.law_steps.specs.Ranks.{rank, rank_interval}
use Rattle.law_steps.proofs.Ranks.{rank_sooner, held_ranked, rank_name}
use Rattle.law_ahead.specs.Served.{later}
use Rattle.law_ahead.specs.Leap.{event_in, E, ended}
use Rattle.law_ahead.proofs.Leap.{later_free}
use Rattle.law_ahead.specs.Ends.{due_in, Until}
use Rattle.table_entry.specs.Amounts.{owed_to}
use Rattle.table_queue.specs.Zips.{zip_at, length_zip}
use Rattle.table_queue.specs.Queues.{no_rank, owed_below, piece_of}
use Rattle.ahead_serve.specs.Serving.{left_of, unpaid, Apart, Ranked}
use Rattle.ahead_figures.specs.Columns.{Columns, figures_at, owing, with_owed}
use Rattle.ahead_figures.specs.Figures.{longest, never}
use Rattle.ahead_pass.specs.Passed.{passed_end, PassedEnds, Roomy}
use Rattle.law_figures.specs.Shown.{Shown, stays}
use Rattle.law_figures.proofs.Shown.{shown_next}
use Rattle.law_figures.specs.Shows.{Shows}
use Rattle.law_figures.proofs.Shows.{place, end_held, ends_spare, owed_spare, sum_as, now_or_later}

module _ {now used : ℕ} {t : Table} {c : Columns} (s : Shows now used t c) (w : Tidy t) (l : now ≤ longest) where
  abbrev here : ℕ → Entry
  here i = get_or t.entries i free_entry

  abbrev R : List ℕ
  R = c.ranks

  abbrev O : List ℕ
  O = c.owed

  abbrev D : List ℕ
  D = c.ends

  -- ---- ranks
  -- who is owed something is a piece
  owed_piece : (i : ℕ) → 0 < get_or O i 0 → (i < places) × Held t.frame (here i) × (is_piece (here i) ≡ true)
  owed_piece i h =
      elim (dec_le places i) [
        | yes k ↦ absurd (omega (arith, get_or-eq_default O 0 {n = i} (omega (arith, s.sized.owed))))
        | no k ↦ some (omega arith)
      ]
    where
      some : i < places → (i < places) × Held t.frame (here i) × (is_piece (here i) ≡ true)
      some k =
          elim (place s w i k) [
            | inl z ↦ absurd (omega (arith, (s.each i k).owed, ap owed_to z))
            | inr q ↦ (
              k,
              q,
              ⊎_elim (λ p. p) (λ p. absurd (omega (arith, (s.each i k).owed, ap (λ b. cond b (here i).owed.0 0) p)))
                  (either (is_piece (here i))),
            )
          ]

  apart : Apart R O
  apart i j h k q =
      let a = owed_piece i h in
      let b = owed_piece j k in
      let x : (here i).name ≡ (here j).name =
      rank_name (held_ranked a.1) (held_ranked b.1) (omega (arith, q, (s.each i a.0).rank a.2, (s.each j b.0).rank b.2)) in
      count_once (is_named (here i).name) t.entries free_entry i j (omega (arith, w.size)) (omega (arith, w.size))
      (same_refl (here i).name) (same_eq (here j).name (here i).name (sym x)) (once (here i).name a.1.name)
    where
      -- a free place has no name in range
      other : (n : Name) → name_in_range n ≡ true → same nobody n ≡ false
      other n r = same_ne nobody n (λ z. clash (is_nobody n) (sym (ap is_nobody z)) (in_range_some n r))

      once : (n : Name) → name_in_range n ≡ true → sum_of (λ e. one_if (is_named n e)) t.entries ≤ 1
      once n r = omega (arith, held_sum (λ e. one_if (is_named n e)) (one_if_false (other n r)) w.entries, w.once n)

  pub ranked : Ranked R O used
  ranked =
      record {
        owing = record { keyed = s.sized.ranks; room = s.sized.owed; short = s.spare.0; spare = owed_spare s w };
        apart = apart;
        small = at_all (λ r. r < no_rank) R 0 (λ i h. omega (arith, (s.each i (omega (arith, s.sized.ranks))).low));
      }

  -- whatever is owed, an end can be passed
  pub roomy : {Z : List ℕ} → length Z ≡ places → (at : ℕ) → at ≤ longest → Roomy (owing Z c) used at
  roomy n at h =
      record {
        few = s.spare.0;
        sized = record {
          ranks = s.sized.ranks;
          owed = n;
          ends = s.sized.ends;
          lives = s.sized.lives;
          loads = s.sized.loads;
          begins = s.sized.begins;
          periods = s.sized.periods;
        };
        spare = ends_spare s w;
        rank = λ i k. omega (arith, (s.each i k).low);
        period = λ i k. (s.each i k).short;
        soon = h;
      }

  -- ---- service: nothing ends before n intervals are over, and their m slots are enough for what is due then
  module _ (n m : ℕ) (u : Until n t) (h : due_in n t.entries ≤ m) where
    abbrev at : ℕ
    at = now + n

    abbrev ps : List Entry
    ps = t.entries

    abbrev U : List ℕ
    U = unpaid at D O

    until : (i : ℕ) → i < places → is_held (here i) ≡ true → n ≤ event_in (here i)
    until i k = all_at _ ps free_entry (all_kept _ is_held ps u) i (omega (arith, w.size))

    unpaid_at : (i : ℕ) → i < places → get_or U i 0 ≡ cond (eqb (get_or D i 0) at) 0 (owed_to (here i))
    unpaid_at i k =
        zip_at _ D O i 0 0 0 (omega (arith, s.sized.ends)) (omega (arith, s.sized.owed)) ∙ ap (cond (eqb (get_or D i 0) at) 0) (s.each i k).owed

    -- a piece, by its own figures
    module _ (i : ℕ) (k : i < places) (q : Held t.frame (here i)) (p : is_piece (here i) ≡ true) where
      due_at_lem : eqb (get_or D i 0) at ≡ leb (here i).left.0 n
      due_at_lem =
          ap (λ v. eqb v at) (end_held s w i k (held_is q) ∙ ap (λ b. now + cond b (here i).left.0 (here i).life_left.0) p)
          ∙ now_or_later now n (here i).left.0
          (omega (arith, until i k (held_is q), ap (λ b. cond b (here i).left.0 (here i).life_left.0) p))

    -- beside a piece that is due later
    module _ (i : ℕ) (k : i < places) (q : Held t.frame (here i)) (p : is_piece (here i) ≡ true) (z : n < (here i).left.0) where
      abbrev x : Entry
      x = here i

      -- what is not due and comes before it
      abbrev ahead_of : Entry → ℕ
      ahead_of e = cond (is_piece e) (cond (leb e.left.0 n) 0 (cond (sooner e x) e.owed.0 0)) 0

      lower : (j : ℕ) → j < places → cond (ltb (get_or R j 0) (get_or R i 0)) (get_or U j 0) 0 ≡ ahead_of (here j)
      lower j l = rw (unpaid_at j l) (elim (place s w j l) [ inl f ↦ free f | inr g ↦ held g (either (is_piece (here j))) ])
        where
          e : Entry
          e = here j

          none : (b c : Bool) {v : ℕ} → v ≡ 0 → cond b (cond c 0 v) 0 ≡ 0
          none true true f = refl
          none true false f = f
          none false c f = refl

          free : e ≡ free_entry → cond (ltb (get_or R j 0) (get_or R i 0)) (cond (eqb (get_or D j 0) at) 0 (owed_to e)) 0 ≡ ahead_of e
          free f = none (ltb (get_or R j 0) (get_or R i 0)) (eqb (get_or D j 0) at) (ap owed_to f) ∙ sym (ap ahead_of f)

          turn : (a b : Bool) (v : ℕ) → cond a (cond b 0 v) 0 ≡ cond b 0 (cond a v 0)
          turn true b v = refl
          turn false true v = refl
          turn false false v = refl

          held : Held t.frame e → (is_piece e ≡ true) ⊎ (is_piece e ≡ false)
              → cond (ltb (get_or R j 0) (get_or R i 0)) (cond (eqb (get_or D j 0) at) 0 (owed_to e)) 0 ≡ ahead_of e
          held g (inr f) =
              none (ltb (get_or R j 0) (get_or R i 0)) (eqb (get_or D j 0) at) (ap (λ b. cond b e.owed.0 0) f)
              ∙ sym (ap (λ b. cond b (cond (leb e.left.0 n) 0 (cond (sooner e x) e.owed.0 0)) 0) f)
          held g (inl f) =
              rw (before, due_at_lem j l g f, f) (turn (sooner e x) (leb e.left.0 n) e.owed.0)
            where
              before : ltb (get_or R j 0) (get_or R i 0) ≡ sooner e x
              before =
                  ap₂ ltb ((s.each j l).rank f) ((s.each i k).rank p)
                  ∙ shift (rank e) (rank x) (now * rank_interval) ∙ sym (rank_sooner (held_ranked g) (held_ranked q))
                where
                  shift : (a b v : ℕ) → ltb (a + v) (b + v) ≡ ltb a b
                  shift a b v =
                      same_test (ltb (a + v) (b + v)) (ltb a b) (λ y. lt-ltb a b (omega (arith, ltb-true (a + v) (b + v) y)))
                      (λ y. lt-ltb (a + v) (b + v) (omega (arith, ltb-true a b y)))

      -- what comes before it is due, or comes before it among the rest
      before_all : owed_before x ps ≡ due_in n ps + owed_below (get_or R i 0) R U
      before_all =
          sum_ext _ (λ e. cond (is_piece e) (cond (leb e.left.0 n) e.owed.0 0) 0 + ahead_of e) (all_of ps one)
          ∙ sum_add (λ (e : Entry). cond (is_piece e) (cond (leb e.left.0 n) e.owed.0 0) 0) ahead_of ps
          ∙ ap (λ v. due_in n ps + v)
          (sym (sum_as s w (λ r o. cond (ltb r (get_or R i 0)) o 0) ahead_of R U s.sized.ranks
          (length_zip (λ (e o : ℕ). cond (eqb e at) 0 o) D O ∙ ap₂ min s.sized.ends s.sized.owed) lower))
        where
          one : (e : Entry) → cond (is_piece e) (cond (sooner e x) e.owed.0 0) 0
              ≡ cond (is_piece e) (cond (leb e.left.0 n) e.owed.0 0) 0 + ahead_of e
          one e = go (is_piece e) (leb e.left.0 n) refl
            where
              first : e.left.0 ≤ n → sooner e x ≡ true
              first y = before_sooner e x (by_left (omega arith))

              go : (a b : Bool) → leb e.left.0 n ≡ b → cond a (cond (sooner e x) e.owed.0 0) 0
                  ≡ cond a (cond b e.owed.0 0) 0 + cond a (cond b 0 (cond (sooner e x) e.owed.0 0)) 0
              go false b y = refl
              go true true y = ap (λ c. cond c e.owed.0 0) (first (leb-true _ _ y)) ∙ omega arith
              go true false y = omega arith

    -- what stays owed, place by place
    abbrev Z : List ℕ
    Z = left_of (m - due_in n ps) R U

    left_at : (i : ℕ) → i < places → get_or Z i 0 ≡ stays at (takes m ps (here i)) (here i) (figures_at c i)
    unfolding takes
    left_at i k =
        zip_at _ R U i 0 0 0 (omega (arith, s.sized.ranks))
        (omega (arith, length_zip (λ (e o : ℕ). cond (eqb e at) 0 o) D O, s.sized.ends, s.sized.owed))
        ∙ ap (λ o. o - piece_of (m - due_in n ps) R U (get_or R i 0) o) (unpaid_at i k)
        ∙ go (eqb (get_or D i 0) at) refl
      where
        e : Entry
        e = here i

        -- who is owed nothing stays so
        nothing : owed_to e ≡ 0 → owed_to e - piece_of (m - due_in n ps) R U (get_or R i 0) (owed_to e) ≡ owed_to e - takes m ps e
        nothing v = rw v (zero-sub _ ∙ sym (zero-sub _))

        later_due : eqb (get_or D i 0) at ≡ false → Held t.frame e → is_piece e ≡ true
            → owed_to e - piece_of (m - due_in n ps) R U (get_or R i 0) (owed_to e) ≡ owed_to e - takes m ps e
        later_due y q p =
            let b = before_all i k q p (leb-false e.left.0 n (sym (due_at_lem i k q p) ∙ y)) in
            rw p (ap (λ v. e.owed.0 - min e.owed.0 v) (less (owed_below (get_or R i 0) R U) b))
          where
            less : (v : ℕ) {a : ℕ} → a ≡ due_in n ps + v → m - due_in n ps - v ≡ m - a
            less v b = omega arith

        go : (b : Bool) → eqb (get_or D i 0) at ≡ b
            → cond b 0 (owed_to e) - piece_of (m - due_in n ps) R U (get_or R i 0) (cond b 0 (owed_to e)) ≡ cond b 0 (owed_to e - takes m ps e)
        go true y = omega arith
        go false y =
            elim (place s w i k) [
              | inl f ↦ nothing (ap owed_to f)
              | inr q ↦ ⊎_elim (later_due y q) (λ f. nothing (ap (λ b. cond b e.owed.0 0) f)) (either (is_piece e))
            ]

    -- ---- and past the end they show the table of that end
    pub shows_next : {c' : Columns} → at < never → m ≡ n * E t → PassedEnds at (owing Z c) c' → Shows at used (ended n t) c'
    unfolding settled
    shows_next {c'} l q a =
        record {
          sized = a.sized;
          spare = (s.spare.0, spare);
          each = λ i k. subst (λ f. Shown at (get_or (ended n t).entries i free_entry) f) (sym (a.each i k ∙ figures i k)) (entry i k);
        }
      where
        move : Entry → Entry
        move e = settled (later n (takes (n * E t) ps e) e)

        spare : Spare free_entry used (ended n t).entries
        spare =
            rw map-map (subst (λ e. All (λ y. y ≡ e) (drop used (map move ps))) (ap settled (later_free n (n * E t) ps))
            (spare_map free_entry move used ps s.spare.1))

        figures : (i : ℕ) → i < places → passed_end at (figures_at (owing Z c) i)
            ≡ passed_end at (with_owed (stays at (takes m ps (here i)) (here i) (figures_at c i)) (figures_at c i))
        figures i k = ap (λ o. passed_end at (with_owed o (figures_at c i))) (left_at i k)

        moved : (i : ℕ) → i < places → settled (later n (takes m ps (here i)) (here i)) ≡ get_or (ended n t).entries i free_entry
        moved i k =
            ap (λ v. settled (later n (takes v ps (here i)) (here i))) q
            ∙ sym (map_at move ps i free_entry free_entry (omega (arith, w.size)))
            ∙ ap (λ xs. get_or xs i free_entry) (sym (map-map settled (λ e. later n (takes (n * E t) ps e) e) ps))

        entry : (i : ℕ) → i < places → Shown at (get_or (ended n t).entries i free_entry)
            (passed_end at (with_owed (stays at (takes m ps (here i)) (here i) (figures_at c i)) (figures_at c i)))
        entry i k =
            subst (λ e. Shown at e
            (passed_end at (with_owed (stays at (takes m ps (here i)) (here i) (figures_at c i)) (figures_at c i))))
            (moved i k)
            (shown_next now n (takes m ps (here i)) (here i) (figures_at c i) (s.each i k) (takes_owed m ps (here i))
            (place s w i k) l
            (until i k))
