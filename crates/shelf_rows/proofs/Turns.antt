-- What stands between two rows of a chunk, and what the next row makes of it. Assumes nothing.
use Rattle.std.proofs.Common.{◌≡◌, List, ℕ, ◌+◌, ◌-◌, ◌≤◌, ◌<◌, Some, None, length, subst, sym, arith}
use Rattle.std.proofs.Math.ListN.{take}
use Rattle.row_cut.specs.declared.Line.{Line}
use Rattle.row_cut.specs.declared.Cut.{Cut}
use Rattle.law_rows.specs.Ready.{ready_after}
use Rattle.law_rows.specs.Sizes.{rows_most}
use Rattle.spec_shelf.specs.declared.Command.{Command}
use Rattle.spec_shelf.specs.Meaning.{State}
use Rattle.spec_shelf.specs.Printed.{written}
use Rattle.spec_shelf.specs.Meaning.{state_after, plan_after, rows_for}
use Rattle.spec_shelf.specs.Room.{answer_most, Ready}
use Rattle.shelf_state.specs.declared.Shelf.{Shelf}
use Rattle.shelf_state.specs.Cutting.{command_in, cut_of}
use Rattle.shelf_state.specs.Parts.{Done, shelf_of, left_of, done_open, done_row, cut_some}

-- the first `taken` bytes of a chunk are served, from the shelf s and the lent memory `plan₀` and `out₀`: what the shelf and the memory
-- are then
pub record Turn (s : Shelf) (chunk plan₀ out₀ : List ℕ) (at taken : ℕ) (cur : Shelf) (next : ℕ) (plan out : List ℕ) : Type 0 where
  pub done : Done s (take taken chunk) plan₀ out₀ at cur next plan out
  pub formed : Ready cur.state
  pub inside : taken ≤ length chunk
  pub room : next ≤ length out₀

module _ {s cur : Shelf} {chunk plan₀ out₀ plan out : List ℕ} {at taken next : ℕ}
    (h : Turn s chunk plan₀ out₀ at taken cur next plan out) {cut : Cut} (e : cut ≡ cut_of cur (left_of chunk taken))
    (more : taken < length chunk) where
  -- the cut takes some of the bytes that are left
  pub some : (taken + cut.taken ≤ length chunk) × (0 < cut.taken)
  some = cut_some cur chunk taken e more

  pub less : length chunk - (taken + cut.taken) < length chunk - taken
  less = omega (arith, some)

  -- the row goes on after the chunk
  pub goes_on : cut.row ≡ None → Turn s chunk plan₀ out₀ at (taken + cut.taken) (shelf_of cut.reader cur.state) next plan out
  goes_on z =
      record {
        done = done_open cur chunk taken e h.done z;
        formed = h.formed;
        inside = some.0;
        room = h.room;
      }

  -- the row has ended, and its call is answered: what the next turn begins with, by what the answer says
  pub answered : {l : Line} {c : Command} {t : State} {words bytes : List ℕ} {end : ℕ} → next + answer_most ≤ length out₀
      → cut.row ≡ Some l → c ≡ command_in l
      → (let rows = rows_for cur.state c in
      (t ≡ state_after cur.state c) × ((end ≡ next + length rows)
      × ((bytes ≡ written out next rows) × (words ≡ plan_after cur.state c plan))))
      → Turn s chunk plan₀ out₀ at (taken + cut.taken) (shelf_of cut.reader t) end words bytes
  answered {c = c} spare z k a =
      let place = a.1.0 in
      let most = rows_most cur.state c h.formed in
      record {
        done = done_row cur chunk taken e h.done z k a;
        formed = subst Ready (sym a.0) (ready_after cur.state c h.formed);
        inside = some.0;
        room = omega arith;
      }
