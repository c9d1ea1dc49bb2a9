-- The tie rules as one order: sorting by it gives document 01's order, kind 1 by name and then the pieces by the order of
-- step B. Among held entries it is the order of their ranks. Assumes nothing.
use Rattle.std.specs.Prelude.{◌≡◌, refl, ◌⊎◌, Bool, true, false, cond, List, ◌∷◌, ◌++◌, ◌<◌, leb, ltb}
use Rattle.std.proofs.Common.{sym, ap, ◌∙◌, inl, inr, ⊎_elim, arith, ltb-true, leb-true, lt-ltb, le-ltb, le-leb, eq-eqb}
use Rattle.spec_lists.specs.Lists.{cons_if, keep, insert, sort}
use Rattle.base_lists.specs.Tests.{clash, same_test}
use Rattle.spec_lists.specs.All.{All, stop, and}
use Rattle.base_lists.specs.All.{all_keep, all_sort}
use Rattle.spec_model.specs.Names.{same}
use Rattle.spec_model.specs.Entries.{is_kind, is_piece}
use Rattle.spec_model.specs.declared.Frame.{Frame}
use Rattle.spec_model.specs.declared.Entry.{Entry}
use Rattle.spec_rules.specs.Share.{sooner, order}
use Rattle.spec_rules.specs.Slots.{lower_named, tie_order}
use Rattle.spec_rules.specs.WellFormed.{Held}
use Rattle.law_model.specs.Names.{rank_room, lower_rank, rank_lower, same_false}
use Rattle.law_steps.specs.Held.{Fraction, Piece}
use Rattle.law_steps.proofs.Held.{held_kinds, piece_of_lem, not_fraction, fraction_not}
use Rattle.law_steps.specs.Ranks.{rank}
use Rattle.law_steps.proofs.Ranks.{held_ranked, rank_sooner, rank_name}
use Rattle.beacon_order.specs.Ties.{ties}

-- an entry of kind 1, or a piece
abbrev First : Entry → Type 0
First e = is_kind 1 e ≡ true

abbrev Later : Entry → Type 0
Later e = is_kind 1 e ≡ false

-- one of kind 1 goes among those of kind 1
insert_first : (e : Entry) → First e → {gs ps : List Entry} → All First gs → All Later ps
    → insert ties e (gs ++ ps) ≡ insert lower_named e gs ++ ps
insert_first e p stop stop = refl
insert_first e p stop (and {x = f} {xs = fs} q h) = rw (p, q) refl
insert_first e p {ps = ps} (and {x = a} {xs = gs} q h) k = rw (p, q) (go (lower_named e a) (insert_first e p h k))
  where
    go : (b : Bool) → insert ties e (gs ++ ps) ≡ insert lower_named e gs ++ ps
        → cond b (e ∷ a ∷ (gs ++ ps)) (a ∷ insert ties e (gs ++ ps)) ≡ cond b (e ∷ a ∷ gs) (a ∷ insert lower_named e gs) ++ ps
    go true i = refl
    go false i = ap (λ l. a ∷ l) i

-- a piece goes among the pieces
insert_later : (e : Entry) → Later e → {gs ps : List Entry} → All First gs → All Later ps
    → insert ties e (gs ++ ps) ≡ gs ++ insert sooner e ps
insert_later e p stop stop = refl
insert_later e p stop (and {x = f} {xs = fs} q h) =
    rw (p, q) (ap (λ l. cond (sooner e f) (e ∷ f ∷ fs) (f ∷ l)) (insert_later e p stop h))
insert_later e p (and {x = a} q h) k = rw (p, q) (ap (λ l. a ∷ l) (insert_later e p h k))

-- By the list: its first entry goes to its own part.
pub sort_ties : {F : Frame} {es : List Entry} → All (Held F) es → sort ties es ≡ tie_order es
unfolding tie_order order
sort_ties stop = refl
sort_ties {F} (and {x = e} {xs = es} h r) = ap (insert ties e) (sort_ties r) ∙ go (held_kinds h)
  where
    firsts : All First (sort lower_named (keep (is_kind 1) es))
    firsts = all_sort lower_named (all_keep (is_kind 1) (λ f q p. q) r)

    later : (f : Entry) → Held F f → is_piece f ≡ true → Later f
    later f p q = ⊎_elim (λ k. absurd (clash (is_piece f) q (fraction_not f k.kind))) (λ k. not_fraction f k.kind) (held_kinds p)

    laters : All Later (sort sooner (keep is_piece es))
    laters = all_sort sooner (all_keep is_piece (λ f q p. later f p q) r)

    go : Fraction F e ⊎ Piece F e
        → insert ties e (sort lower_named (keep (is_kind 1) es) ++ sort sooner (keep is_piece es))
        ≡ sort lower_named (cons_if (is_kind 1 e) e (keep (is_kind 1) es)) ++ sort sooner (cons_if (is_piece e) e (keep is_piece es))
    go (inl f) = rw (eq-eqb e.kind 1 f.kind, fraction_not e f.kind) (insert_first e (eq-eqb e.kind 1 f.kind) firsts laters)
    go (inr p) = rw (not_fraction e p.kind, piece_of_lem e p.kind) (insert_later e (not_fraction e p.kind) firsts laters)

-- ---- held entries, by rank
module _ {F : Frame} {e f : Entry} where
  firsts_rank : Fraction F e → Fraction F f → lower_named e f ≡ ltb (rank e) (rank f)
  firsts_rank p q =
      same_test (lower_named e f) (ltb (rank e) (rank f))
      (λ l. lt-ltb (rank e) (rank f) (omega (arith, lower_rank e.name f.name p.name q.name l, p.left, q.left, p.kind, q.kind)))
      (λ l. rank_lower e.name f.name p.name q.name (omega (arith, ltb-true (rank e) (rank f) l, p.left, q.left, p.kind, q.kind)))

  -- kind 1 has no intervals left, and so a rank below that of each piece
  first_below : Fraction F e → Piece F f → rank e < rank f
  first_below p q = omega (arith, p.left, p.kind, rank_room e.name p.name, q.ahead)

pub ties_rank : {F : Frame} {e f : Entry} → Held F e → Held F f → ties e f ≡ ltb (rank e) (rank f)
ties_rank {F} {e} {f} h k = go (held_kinds h) (held_kinds k)
  where
    go : Fraction F e ⊎ Piece F e → Fraction F f ⊎ Piece F f → ties e f ≡ ltb (rank e) (rank f)
    go (inl p) (inl q) = rw (eq-eqb e.kind 1 p.kind, eq-eqb f.kind 1 q.kind) (firsts_rank p q)
    go (inl p) (inr q) =
        rw (eq-eqb e.kind 1 p.kind, not_fraction f q.kind) (sym (lt-ltb (rank e) (rank f) (first_below p q)))
    go (inr p) (inl q) =
        rw (not_fraction e p.kind, eq-eqb f.kind 1 q.kind)
        (sym (le-ltb (rank e) (rank f) (omega (arith, first_below q p))))
    go (inr p) (inr q) = rw (not_fraction e p.kind, not_fraction f q.kind) (rank_sooner (held_ranked h) (held_ranked k))

-- entries of different names have different ranks
pub ties_le : {F : Frame} {e f : Entry} → Held F e → Held F f → same e.name f.name ≡ false → leb (rank e) (rank f) ≡ ties e f
ties_le {e = e} {f = f} h k n =
    let d : rank e ≡ rank f → ⊥ = λ z. same_false e.name f.name n (rank_name (held_ranked h) (held_ranked k) z) in
    same_test (leb (rank e) (rank f)) (ltb (rank e) (rank f))
    (λ l. lt-ltb (rank e) (rank f) (omega (arith, leb-true (rank e) (rank f) l, d)))
    (λ l. le-leb (rank e) (rank f) (omega (arith, ltb-true (rank e) (rank f) l)))
    ∙ sym (ties_rank h k)
