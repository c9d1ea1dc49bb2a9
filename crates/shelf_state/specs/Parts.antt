-- A chunk is served row by row: what stands after the first of its bytes. Assumes nothing.
use Rattle.std.specs.Prelude.{◌≡◌, refl, Some, None, List, [], ◌++◌, ℕ, zero, suc, ◌+◌, ◌-◌, ◌≤◌, ◌<◌, length, drop}
use Rattle.std.proofs.Math.Path.{sym}
use Rattle.std.proofs.Common.{subst, ap, ap₂, ◌∙◌, append-nil, arith, length-drop, take-add}
use Rattle.std.proofs.Math.ListN.{take}
use Rattle.std.proofs.Math.Seq.{take_all}
use Rattle.row_cut.specs.declared.Line.{Line}
use Rattle.row_cut.specs.declared.Reader.{Reader}
use Rattle.row_cut.specs.declared.Cut.{Cut}
use Rattle.row_cut.specs.Lines.{lines_in, reader_after}
use Rattle.row_cut.specs.Cuts.{row_ended, row_open}
use Rattle.spec_shelf.specs.declared.Command.{Command}
use Rattle.row_print.specs.PrintedLaws.{Wrote, wrote, wrote_then, written_none}
use Rattle.spec_shelf.specs.Printed.{written}
use Rattle.spec_shelf.specs.Meaning.{State}
use Rattle.shelf_state.specs.declared.Shelf.{Shelf}
use Rattle.spec_shelf.specs.Meaning.{state_after, plan_after, rows_for, printed}
use Rattle.spec_shelf.specs.Room.{answer_most}
use Rattle.shelf_state.specs.Cutting.{command_in, cut_of}
use Rattle.shelf_state.specs.Sizes.{cut_taken}
use Rattle.shelf_state.specs.Whole.{state_run, plan_run, chunk_rows, chunk_plan, shelf_after, rows_append, after_both, plan_both}

abbrev pub shelf_of : Reader → State → Shelf
shelf_of r s = record { reader = r; state = s }

-- the bytes p are served: the shelf after them, their rows in lent memory from a place on, and the plan's memory
pub record Done (s : Shelf) (p plan out : List ℕ) (at : ℕ) (after : Shelf) (next : ℕ) (words bytes : List ℕ) : Type 0 where
  pub shelf : after ≡ shelf_after s p
  pub rows : Wrote out at (chunk_rows s p) bytes next
  pub memory : words ≡ chunk_plan s p plan

pub done_none : (s : Shelf) (plan out : List ℕ) (at : ℕ) → Done s [] plan out at s at plan out
unfolding shelf_after chunk_rows chunk_plan state_run plan_run printed lines_in reader_after
done_none s plan out at =
    record { shelf = refl; rows = record { place = omega arith; memory = sym (written_none out at) }; memory = refl }

pub done_then : {s mid last : Shelf} {p q plan out words bytes words₂ bytes₂ : List ℕ} {at next end : ℕ}
    → Done s p plan out at mid next words bytes → Done mid q words bytes next last end words₂ bytes₂
    → Done s (p ++ q) plan out at last end words₂ bytes₂
done_then {s} {p = p} {q} {plan} {out} d e =
    record {
      shelf = e.shelf ∙ ap (λ m. shelf_after m q) d.shelf ∙ sym (after_both s p q);
      rows = rw rows_append (wrote_then d.rows (rw (sym d.shelf) e.rows));
      memory = e.memory ∙ ap₂ (λ m ws. chunk_plan m q ws) d.shelf d.memory ∙ sym (plan_both s p q plan);
    }

-- the bytes that one cut takes
module _ (s : Shelf) (chunk : List ℕ) where
  abbrev pub cut_bytes : List ℕ
  cut_bytes = take (cut_of s chunk).taken chunk

  -- the row has ended: its call is answered, and the next row begins
  pub row_answered : {l : Line} {plan out words bytes : List ℕ} {at next : ℕ} {t : State} → (cut_of s chunk).row ≡ Some l
      → let c = command_in l in let rows = rows_for s.state c in
      (t ≡ state_after s.state c) × ((next ≡ at + length rows) × ((bytes ≡ written out at rows) × (words ≡ plan_after s.state c plan)))
      → Done s cut_bytes plan out at (shelf_of (cut_of s chunk).reader t) next words bytes
  unfolding shelf_after chunk_rows chunk_plan state_run plan_run printed
  row_answered e (a, (n, (b, w))) =
      let x = row_ended 0 s.reader chunk e in
      let k : (cut_of s chunk).taken ≡ x.k = (let h = x.taken in omega arith) in
      record {
        shelf = rw (k, x.only, x.anew, x.after, a) refl;
        rows = rw (k, x.only, append-nil) (wrote (n, b));
        memory = rw (k, x.only) w;
      }

  -- it goes on after the chunk
  pub row_goes_on : {plan out : List ℕ} {at : ℕ} → (cut_of s chunk).row ≡ None
      → Done s cut_bytes plan out at (shelf_of (cut_of s chunk).reader s.state) at plan out
  unfolding shelf_after chunk_rows chunk_plan state_run plan_run printed
  row_goes_on {plan} {out} {at} e =
      let x = row_open 0 s.reader chunk e in
      let k : take (cut_of s chunk).taken chunk ≡ chunk = (let h = x.0 in take_all (cut_of s chunk).taken chunk (omega arith)) in
      record {
        shelf = rw (k, x.1.0, x.1.1) refl;
        rows = rw (k, x.1.0) (record { place = omega arith; memory = sym (written_none out at) });
        memory = rw (k, x.1.0) refl;
      }

-- ---- the loop over the rows: the bytes of a chunk from `taken` on are left
abbrev pub left_of : List ℕ → ℕ → List ℕ
left_of chunk taken = take (length chunk - taken) (drop taken chunk)

left_is : (chunk : List ℕ) (taken : ℕ) → left_of chunk taken ≡ drop taken chunk
left_is chunk taken = let h = length-drop taken chunk in take_all (length chunk - taken) (drop taken chunk) (omega arith)

pub left_length : (chunk : List ℕ) (taken : ℕ) → length (left_of chunk taken) ≡ length chunk - taken
left_length chunk taken = ap length (left_is chunk taken) ∙ length-drop taken chunk

-- the first bytes of a chunk, and then some of those that are left
pub taken_then : (chunk : List ℕ) (taken n : ℕ) → take (taken + n) chunk ≡ take taken chunk ++ take n (left_of chunk taken)
taken_then chunk taken n = take-add taken n chunk ∙ ap (λ l. take taken chunk ++ take n l) (sym (left_is chunk taken))

module _ (cur : Shelf) (chunk : List ℕ) (taken : ℕ) {cut : Cut} (e : cut ≡ cut_of cur (left_of chunk taken)) where
  pub cut_some : taken < length chunk → (taken + cut.taken ≤ length chunk) × (0 < cut.taken)
  cut_some h =
      let t = cut_taken cur (left_of chunk taken) in
      let most = t.0 in
      let on = t.1 in
      let n = left_length chunk taken in
      let q : cut.taken ≡ (cut_of cur (left_of chunk taken)).taken = ap (λ (c : Cut). c.taken) e in
      let some = on (omega arith) in
      (omega arith, omega arith)

  module _ {s : Shelf} {plan out words bytes : List ℕ} {at next : ℕ} (d : Done s (take taken chunk) plan out at cur next words bytes) where
    done_cut : {after : Shelf} {words₂ bytes₂ : List ℕ} {end : ℕ}
        → Done cur (cut_bytes cur (left_of chunk taken)) words bytes next after end words₂ bytes₂
        → Done s (take (taken + cut.taken) chunk) plan out at after end words₂ bytes₂
    done_cut {after} {words₂} {bytes₂} {end} f =
        let q : take (taken + cut.taken) chunk ≡ take taken chunk ++ cut_bytes cur (left_of chunk taken) =
        taken_then chunk taken cut.taken ∙ ap (λ (c : Cut). take taken chunk ++ take c.taken (left_of chunk taken)) e in
        subst (λ p. Done s p plan out at after end words₂ bytes₂) (sym q) (done_then d f)

    -- the row goes on after the chunk
    pub done_open : cut.row ≡ None
        → Done s (take (taken + cut.taken) chunk) plan out at (shelf_of cut.reader cur.state) next words bytes
    done_open z = done_cut (rw e (row_goes_on cur (left_of chunk taken) (rw e at z)))

    -- the row has ended, and its call is answered
    pub done_row : {l : Line} {c : Command} {t : State} {words₂ bytes₂ : List ℕ} {end : ℕ} → cut.row ≡ Some l → c ≡ command_in l
        → let rows = rows_for cur.state c in
        (t ≡ state_after cur.state c) × ((end ≡ next + length rows)
        × ((bytes₂ ≡ written bytes next rows) × (words₂ ≡ plan_after cur.state c words)))
        → Done s (take (taken + cut.taken) chunk) plan out at (shelf_of cut.reader t) end words₂ bytes₂
    done_row z k a = done_cut (rw e (row_answered cur (left_of chunk taken) (rw e at z) (rw k at a)))

-- ---- a part of a chunk takes a byte where its first answer has room
pub part_some : (s : Shelf) (chunk : List ℕ) (n at : ℕ) {next room : ℕ} → 0 < length chunk → at + answer_most ≤ room
    → next ≡ at + length (chunk_rows s (take n chunk)) → (next + answer_most ≤ room → n ≡ length chunk) → 0 < n
unfolding chunk_rows printed lines_in
part_some s chunk zero at h spare e all = let none = all (omega arith) in absurd (omega arith)
part_some s chunk (suc n) at h spare e all = omega arith
