use Rattle.std.proofs.Common.{get_or, arith, sym, ◌∙◌}
use Rattle.base_lists.specs.First.{first_found, first_passed}
use Rattle.law_model.specs.Names.{same_streams}
use Rattle.spec_model.specs.Entries.{free_entry}
use Rattle.table_places.specs.Search.{is_held_as, eq_held, found_inside, found_past, place_nobody}
use Rattle.table_places.proofs.place_of.Goals as goal

pub returns-then-is_nobody : goal.returns-then-is_nobody
returns-then-is_nobody c =
    let none = place_nobody c.args.name (sym c.is_nobody.ensures ∙ c.if-is_nobody.true) c.args.entries.now in found_past (omega arith)

pub returns-then-eq : goal.returns-then-eq
returns-then-eq c =
    let e = get_or c.args.entries.now c.loop-place.place free_entry in
    let held = c.eq.ensures ∙ same_streams e.name c.args.name ∙ eq_held c.args.name (sym c.is_nobody.ensures ∙ c.if-is_nobody.false) e in
    found_inside (first_found (is_held_as c.args.name) _ _ c.loop-place.invariant.1 free_entry c.loop-place-test.true held c.if-eq.true)
    c.loop-place-test.true

pub loop-place-preserved : goal.loop-place-preserved
loop-place-preserved c =
    let e = get_or c.args.entries.now c.loop-place.place free_entry in
    let held = c.eq.ensures ∙ same_streams e.name c.args.name ∙ eq_held c.args.name (sym c.is_nobody.ensures ∙ c.if-is_nobody.false) e in
    (omega arith, first_passed (is_held_as c.args.name) _ _ c.loop-place.invariant.1 free_entry c.loop-place-test.true held c.if-eq.false)
