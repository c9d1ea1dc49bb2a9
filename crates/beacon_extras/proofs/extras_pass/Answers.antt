use Rattle.std.proofs.Common.{◌≡◌, ℕ, ◌≤◌, ◌<◌, length, get_or, take, arith, length-take}
use Rattle.std.proofs.lemmas.List.{get_or-take}
use Rattle.spec_model.specs.Entries.{free_entry}
use Rattle.spec_model.specs.declared.Table.{Table}
use Rattle.beacon_extras.specs.Extras.{added_small, added_parts, added_more, added_all}
use Rattle.beacon_extras.proofs.extras_pass.Goals as goal

-- the entry of a turn is that of its place
within : (t : Table) (used i : ℕ) → i < length (take used t.entries) → i < used
within t used i h = omega (arith, length-take used t.entries)

read : (t : Table) (used i : ℕ) → i < length (take used t.entries) → get_or (take used t.entries) i free_entry ≡ get_or t.entries i free_entry
read t used i h = get_or-take used t.entries i free_entry (within t used i h)

pub add_need-requires : goal.add_need-requires
add_need-requires c =
    let t = c.args.t in
    let p = c.requires in
    let a = c.loop-i.invariant in
    let h = c.loop-i-test.true in
    rw (read t c.args.used c.loop-i.i h) (added_small t p.0 p.1.0 p.1.1 a, added_parts t p.0 p.1.0 p.1.1 a (within t c.args.used c.loop-i.i h))

pub loop-i-preserved : goal.loop-i-preserved
loop-i-preserved c =
    let t = c.args.t in
    let p = c.requires in
    let h = c.loop-i-test.true in
    rw (c.add_need.ensures, read t c.args.used c.loop-i.i h)
    (added_more t p.0 p.1.0 p.1.1 c.loop-i.invariant (within t c.args.used c.loop-i.i h))

pub passes-requires : goal.passes-requires
passes-requires c = (let p = c.requires in added_small c.args.t p.0 p.1.0 p.1.1 c.loop-i.invariant)

pub returns : goal.returns
returns c =
    let p = c.requires in
    let end : c.args.used ≤ c.loop-i.i = omega (arith, c.loop-i-test.false, length-take c.args.used c.args.t.entries, p.1.0.0, p.0.size) in
    added_all c.args.t p.0 p.1.0 p.1.1 c.loop-i.invariant end c.passes.ensures
