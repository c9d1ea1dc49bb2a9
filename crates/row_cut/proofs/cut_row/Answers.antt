-- `row_cut::cut_row` meets its contract. Assumes nothing.
use Rattle.std.proofs.Common.{◌≡◌, ℕ, arith, refl, sym, ◌∙◌, get_or, length}
use borrow.Author.Tests.{eq-eqb, ne_eqb}
use Rattle.row_cut.specs.declared.Reader.{Reader}
use Rattle.row_cut.specs.Lines.{line_in, reader_in}
use Rattle.row_cut.specs.LineLaws.{GoesOn, none_held_lem, cr_kept, cut_here, cut_cr, cut_byte, cut_through}
use Rattle.row_cut.proofs.cut_row.Goals as goal
use Rattle.row_cut.proofs.cut_row.Goals.{then-held+else-byte-eq10, else-held, then-not-held, else-not-held}

pub returns-then-byte-eq10 : goal.returns-then-byte-eq10
returns-then-byte-eq10 c =
    let here = cut_here c.args.chunk.now _ _ c.loop-i-test.true c.if-held.true c.if-byte-eq10.true in
    rw c.at_start.ensures (sym here ∙ c.loop-i.invariant)

-- where the ways meet that keep the CR and that have none, the row goes on
pub loop-i-preserved : goal.loop-i-preserved
loop-i-preserved c =
    let r : Reader = reader_in c.loop-i.bytes c.loop-i.len c.loop-i.held in
    let b : ℕ = get_or c.args.chunk.now c.loop-i.i 0 in
    let on : GoesOn r b (line_in c.if-held.bytes c.if-held.len) =
    elim c.if-held.branch [
      | then-held+else-byte-eq10 w ↦ rw (w.bytes-is, w.len-is, w.keep_byte-len.ensures) (cr_kept r b w.if-held.true w.if-byte-eq10.false)
      | else-held w ↦ rw (w.bytes-is, w.len-is) (none_held_lem r b w.if-held.false)
    ] in
    elim c.if-not-held.branch [
      | then-not-held w ↦ rw (w.bytes-is, w.len-is) (sym (cut_byte c.args.chunk.now _ r _ _ c.loop-i-test.true on (ne_eqb _ _ w.if-not-held.true) w.keep_byte-len-then-not-held.ensures) ∙ c.loop-i.invariant)
      | else-not-held w ↦ rw (w.bytes-is, w.len-is) (sym (cut_cr c.args.chunk.now _ r _ _ c.loop-i-test.true on (eq-eqb _ _ w.if-not-held.false) refl) ∙ c.loop-i.invariant)
    ]

pub returns : goal.returns
returns c =
    let n : length c.args.chunk.now ≡ c.loop-i.i = omega arith in
    rw n (sym (cut_through c.args.chunk.now _ (reader_in c.loop-i.bytes c.loop-i.len c.loop-i.held) c.loop-i-test.false) ∙ c.loop-i.invariant)
