use Rattle.std.proofs.Common.{◌≡◌, ℕ, ◌<◌, refl, ap, ◌∙◌, length, take, get_or, arith, length-take}
use Rattle.std.proofs.lemmas.List.{get_or-take}
use Rattle.spec_model.specs.Entries.{free_entry}
use Rattle.spec_model.specs.Tables.{places, with_entries}
use Rattle.law_steps.proofs.Settled.{after_free}
use Rattle.table_queue.proofs.Known.{used_inside, used_rest}
use Rattle.beacon_share.specs.Shares.{granted, grant_at}
use Rattle.beacon_share.specs.declared.Shares.{Shares}
use Rattle.beacon_advance.specs.Zipped.{zipped_more, zipped_all}
use Rattle.beacon_advance.specs.Moving.{after_grant, unmoved}
use Rattle.beacon_advance.proofs.advance.Goals as goal

pub loop-i-init : goal.loop-i-init
loop-i-init c = (omega arith, refl)

-- the grant of a turn is that of its place
module _ (s : Shares) (used i : ℕ) (h : i < length (take used s.grants)) where
  within : i < used
  within = omega (arith, length-take used s.grants)

  got : get_or (take used s.grants) i (granted 0 0) ≡ grant_at s i
  got = get_or-take used s.grants i (granted 0 0) within

-- the entry of the turn is still that of the table
pub after_grant-requires : goal.after_grant-requires
after_grant-requires c =
    let t = c.args.t in
    let s = c.args.s in
    let all : length t.entries ≡ places = omega arith in
    let h = within s c.args.used c.loop-i.i c.loop-i-test.true in
    let here = unmoved t s c.requires.sized c.loop-i.i c.loop-i.invariant.1 (used_inside t all c.requires.used h) in
    rw (here, got s c.args.used c.loop-i.i c.loop-i-test.true) (c.requires.within c.loop-i.i h)

pub loop-i-preserved : goal.loop-i-preserved
loop-i-preserved c =
    let t = c.args.t in
    let s = c.args.s in
    let all : length t.entries ≡ places = omega arith in
    let h = within s c.args.used c.loop-i.i c.loop-i-test.true in
    let inside = used_inside t all c.requires.used h in
    let here = unmoved t s c.requires.sized c.loop-i.i c.loop-i.invariant.1 inside in (
      omega arith,
      rw (c.after_grant.ensures, here, got s c.args.used c.loop-i.i c.loop-i-test.true, c.loop-i.invariant.1)
          (ap (with_entries t) (zipped_more after_grant s.grants t.entries c.loop-i.i (granted 0 0) free_entry c.requires.sized inside)),
    )

pub returns : goal.returns
returns c =
    let t = c.args.t in
    let s = c.args.s in
    let all : length t.entries ≡ places = omega arith in
    c.loop-i.invariant.1
    ∙ ap (with_entries t)
    (zipped_all after_grant (λ g. after_free g.piece.0 g.extra.0) c.loop-i.i s.grants t.entries c.requires.sized
    (used_rest t all c.requires.used c.loop-i.invariant.0 (omega (arith, c.loop-i-test.false, length-take c.args.used s.grants, c.requires.sized, c.requires.used.0))))
