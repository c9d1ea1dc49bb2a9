-- One entry of a table that lies in memory, at any share of it: it is taken out, read or overwritten, and put back. The code reaches it
-- by a pointer to the table's second field, moved on by one entry's size for each entry before it. Assumes nothing.
use mathlib.Core.Path.{◌≡◌, refl, sym, subst, ◌∙◌}
use Prim.Native.Nat.{ℕ, ◌+◌, ◌≤◌, ◌<◌}
use mathlib.Core.Bool.{not}
use mathlib.Core.List.{[], ◌∷◌, List}
use mathlib.Core.Option.{Option, none, some}
use lib.Dec.{ltb, ltb→lt, nltb→le, T as Holds}
use lib.ListN.{length, get_or, set, length-set}
use lib.Seq.{set-get_or, set_out}
use seplogic.Ra.Ura.{Ura}
use base.Fraction.{full_share}
use mir.Syntax.{Ty, ty_bool, ty_int, ty_ptr, w64, deref, field, place, copy, int, rv_opd, op2, mul, lt, unsigned, offset, addr_of}
use mir.Syntax.{Body as Code, seq, assign, cond, skip}
use mir.Val.{Val, vint, vbool, vptr}
use base.Logic.{SProp, ent, sep, wand, apply∗}
use base.Fml.{Fml, Share, fsep, fat}
use prog.Wp.{Calls, Loops, Env, next}
use types.Logic.{Logic, sem}
use types.Kit.{Item, ‵, raw, ◌⊛◌, Goal, prop, Post, post, runs, Go, Seq, Step, step}
use types.Kit.{◌$◌, ◌∵◌, !, qed, by, move, use1, use2, split, fsplit, fjoin, fpick, fpack, feq_l, feq_i, rewrite, assume, frame}
use types.Run.{look, stop, hop, fld, from, load, lit, of_opd, bin, addr, assigns_last, store, first}
use types.Part.{look_in}
use types.Share.{parts, arr_parts}
use denote.Laws.{Is, shows}
use denote.Memory.{part_at, cell_at, mem, shares, part_of}
use denote.Array.{Array}
use denote.ArrayMemory.{Array-apart, Array-whole}
use denote.Index.{place_is, others, takes, puts}
use denote.Steps.{owned, facts}
use denote.Struct.Steps.{spelt}
use denote.Struct.Laws as LL
use denote.Struct.Loose.{loosens}
use borrow.Struct.Behind.{put_at_lem}
use Rattle.spec_model.specs.Entries.{free_entry}
use Rattle.spec_model.specs.declared.Entry.{Entry}
use Rattle.spec_model.specs.declared.Table.{Table}
use Rattle.spec_model.specs.contracts.Entry as N
use Rattle.spec_model.proofs.Entry.TheLaws as N'
use Rattle.spec_model.specs.contracts.Table as T
use Rattle.spec_model.proofs.Table.TheLaws as T'
use Rattle.spec_model.specs.Tables.{places, with_entries, put_in}
use Rattle.law_lent.proofs.Bytes.{entries_field, head_bytes, entry_bytes, first_offset, entry_offset, offset_bytes, offset_fits}
use Rattle.law_lent.proofs.Lent.{Typed, typed_as}
use Rattle.law_lent.proofs.Locals.{type_of, Has, locals, without, cell, forgets, value, sets}
use Rattle.law_lent.proofs.Walk.{tests}

-- a table, and the entry of its place i, in memory
abbrev pub table_at : Share → Table → ℕ → ℕ → Fml
table_at s t b o = part_at T.the_row s t b o

abbrev pub entry_at : Share → Entry → ℕ → ℕ → ℕ → Fml
entry_at s e b o i = part_at N.the_row s e b (entry_offset o i)

abbrev pub at_place : Table → ℕ → Entry
at_place t i = get_or t.entries i free_entry

module _ {M : Type 1} {𝓤 : Ura M} (𝓛 : Logic 𝓤) (s : Share) (t : Table) (i : ℕ) (y : Entry) (b o : ℕ) where
  abbrev xs : List Entry
  xs = t.entries

  abbrev ys : List Entry
  ys = set xs i y

  abbrev all_at : List Entry → Fml
  all_at es = part_at (Array N.the_row places) s es b (first_offset o)

  abbrev ⟦◌⟧ : Fml → SProp 𝓤
  ⟦ P ⟧ = sem 𝓛 P

  -- what takes y in the entry's place
  abbrev Back : SProp 𝓤
  Back = wand 𝓤 ⟦ entry_at s y b o i ⟧ ⟦ table_at s (put_in t i y) b o ⟧

  entry_taken : i < places → ent 𝓤 ⟦ table_at s t b o ⟧ (sep 𝓤 ⟦ entry_at s (at_place t i) b o i ⟧ Back)
  entry_taken h =
      qed 𝓛 (‵ (table_at s t b o) ∷ []) ∵
      use1 𝓛 (‵ (all_at xs) ⊛ raw (wand 𝓤 ⟦ all_at ys ⟧ ⟦ table_at s (put_in t i y) b o ⟧))
      (put_at_lem 𝓛 s T.the_type (loosens (T.the_type).parts T'.the_laws) entries_field head_bytes refl refl (b, o) t (put_in t i y)
      ((T.struct).as_values t) ys refl refl) $
      split ! $
      use1 𝓛 (‵ ((arr_parts (shares N.the_row) places).part s xs b (first_offset o))) (Array-apart 𝓛 N.the_row s tt places xs b (first_offset o)) $
      fsplit ! $ feq_l ! (λ l. let h' : i < length xs = subst (λ n. i < n) (sym l) h in
      use1 𝓛 (‵ (entry_at s (at_place t i) b o i) ⊛ ‵ (others (shares N.the_row) s xs i b (first_offset o)))
      (takes (shares N.the_row) s 𝓛 xs i free_entry b (first_offset o) h') $ split ! $ frame ! $
      assume {P = ⟦ table_at s (put_in t i y) b o ⟧} ! (‵ (entry_at s y b o i)) $
      use2 𝓛 (‵ (parts (mem N.the_row) (shares N.the_row) s ys b (first_offset o))) (puts (shares N.the_row) s 𝓛 xs i y b (first_offset o) h') $
      feq_i ! ℕ (length ys) places (length-set xs i y ∙ l) $ fjoin ! $
      use1 𝓛 (‵ (all_at ys)) (Array-whole 𝓛 N.the_row s places ys b (first_offset o)) $
      by ! (apply∗ 𝓤 ⟦ all_at ys ⟧ ⟦ table_at s (put_in t i y) b o ⟧))

abbrev pub entry_val : Entry → Val
entry_val e = LL.val N.the_type N'.the_laws e

abbrev pub IsEntry : Entry → Type 0
IsEntry e = Is N.the_row e (entry_val e ∷ [])

pub typed_entry : {M : Type 1} {𝓤 : Ura M} (𝓛 : Logic 𝓤) → (e : Entry) → IsEntry e → Typed N'.mir (entry_val e)
typed_entry 𝓛 e is = ((LL.lawful N.the_type N'.the_laws 𝓛).typed e _ is).0

module _ {M : Type 1} {𝓤 : Ura M} {𝓛 : Logic 𝓤} {Γ : List (Item 𝓤)} {G : Goal 𝓤 𝓛.H} (s : Share) (t : Table)
    (i : ℕ) (y : Entry) (b o : ℕ) where
  -- the entry is taken out of the table, as the cell of its machine value
  takes_entry : Go {0} → i < places
      → (IsEntry (at_place t i) → Seq (Go {0}) 𝓛 (‵ (fat s N'.mir b (entry_offset o i) (entry_val (at_place t i)))
      ∷ raw (Back 𝓛 s t i y b o) ∷ Γ) G) → Seq (Go {0}) 𝓛 (‵ (table_at s t b o) ∷ Γ) G
  unfolding part_of
  takes_entry z h k =
      let e = at_place t i in
      use1 𝓛 (‵ (entry_at s e b o i) ⊛ raw (Back 𝓛 s t i y b o)) (entry_taken 𝓛 s t i y b o h) $ split ! $
      fpick ! (λ vs. fsplit ! $
      spelt ! N.the_row (Is N.the_row) (shows 𝓛 N.the_row) (LL.vals N.the_type N'.the_laws) (LL.tells N.the_type N'.the_laws)
      s e vs b (entry_offset o i) $
      use1 𝓛 (‵ (fat s N'.mir b (entry_offset o i) (entry_val e))) (𝓛.laws.raw_at s N'.mir b (entry_offset o i) (entry_val e)) $
      move ! (1 ∷ []) $ facts ! N.the_row (Is N.the_row) (shows 𝓛 N.the_row) e (entry_val e ∷ []) (λ is. k is))

  -- y is put in its place
  puts_entry : Go {0} → IsEntry y → Step (Go {0}) 𝓛 (‵ (table_at s (put_in t i y) b o) ∷ Γ) G
      (‵ (fat s N'.mir b (entry_offset o i) (entry_val y)) ∷ raw (Back 𝓛 s t i y b o) ∷ Γ) G
  unfolding part_of
  puts_entry z is = step (λ k.
      use1 𝓛 (‵ (cell_at s (N.the_row).mir (entry_val y ∷ []) b (entry_offset o i)))
      (𝓛.laws.at_raw s N'.mir b (entry_offset o i) (entry_val y)) $
      owned ! N.the_row (Is N.the_row) ((LL.makes N.the_type N'.the_plain) 𝓛) y (entry_val y ∷ []) is $ move ! (1 ∷ 0 ∷ []) $ fjoin ! $
      fpack ! (List Val) (λ us. fsep (cell_at s (N.the_row).mir us b (entry_offset o i)) ((N.the_row).own_val y us)) (entry_val y ∷ []) $
      use2 𝓛 (‵ (table_at s (put_in t i y) b o))
      (apply∗ 𝓤 (sem 𝓛 (entry_at s y b o i)) (sem 𝓛 (table_at s (put_in t i y) b o))) $ k)

-- The locals on the way to place i: _n holds i, _m its offset, _p the pointer to the first entry, and _r that to the entry.
module _ (b o i n m p r : ℕ) where
  abbrev offset_in : List (Option Val) → List (Option Val)
  offset_in xs = set xs m (some (vint w64 (offset_bytes i)))

  abbrev first_in : List (Option Val) → List (Option Val)
  first_in xs = set (offset_in xs) p (some (vptr b (first_offset o)))

  abbrev pub entry_in : List (Option Val) → List (Option Val)
  entry_in xs = set (first_in xs) r (some (vptr b (entry_offset o i)))

  -- each of them is there, is of its type and holds what it should; _1 has the pointer to the table
  abbrev pub Way : List (Ty × ℕ) → List (Option Val) → Type 0
  Way E xs =
      (type_of E m ≡ ty_int w64) × (type_of E p ≡ ty_ptr) × (type_of E r ≡ ty_ptr) × Has xs m × Has (offset_in xs) p × Has (first_in xs) r
      × (get_or xs n none ≡ some (vint w64 i)) × (get_or (offset_in xs) 1 none ≡ some (vptr b o))
      × (get_or (first_in xs) p none ≡ some (vptr b (first_offset o))) × (get_or (first_in xs) m none ≡ some (vint w64 (offset_bytes i)))

module _ {M : Type 1} {𝓤 : Ura M} {𝓛 : Logic 𝓤} {Γ : List (Item 𝓤)} {C : Calls 𝓤 𝓛.H} {Λ : Loops 𝓤 𝓛.H}
    {E : Env 𝓤 𝓛.H} {xs : List (Option Val)} {Q : Post 𝓤 𝓛.H} (b o i : ℕ) where
  -- The entry in _j takes its place, where _r points to it and this ends a part.
  open 𝓛 use {H}

  entry_stored : Go {0} → i < places → {r j : ℕ} → get_or xs r none ≡ some (vptr b (entry_offset o i)) → (t : Table) (e : Entry)
      → get_or xs j none ≡ some (entry_val e) → IsEntry e
      → Step (Go {0}) 𝓛 (‵ (table_at full_share (put_in t i e) b o) ∷ locals 𝓤 E xs ∷ Γ) (prop (post 𝓤 H Q next))
      (‵ (table_at full_share t b o) ∷ locals 𝓤 E xs ∷ Γ)
      (runs C Λ E (assign (place r (deref N'.mir ∷ [])) (rv_opd (copy (place j [])))) Q)
  entry_stored z h {r} at-r t e at_j is = step (λ k.
      takes_entry full_share t i e b o ! h (λ was.
      assigns_last ! (of_opd ! (value ! 2 refl at_j)) (from ! (hop ! (look_in ! 2 (cell ! r at-r)) (stop !)))
      (store ! 0 refl (typed_entry 𝓛 e is)) $
      puts_entry full_share t i e b o ! is $ k))

module _ {M : Type 1} {𝓤 : Ura M} {𝓛 : Logic 𝓤} {Γ : List (Item 𝓤)} {C : Calls 𝓤 𝓛.H} {Λ : Loops 𝓤 𝓛.H}
    {E : Env 𝓤 𝓛.H} {xs : List (Option Val)} {Q : Post 𝓤 𝓛.H} {rest : Code} (b o i : ℕ) where
  -- the pointer to place i is made in _r
  pub entry_reached : Go {0} → i < places → {n m p r : ℕ} → Way b o i n m p r E xs → {T : Item 𝓤}
      → Step (Go {0}) 𝓛 (T ∷ locals 𝓤 E (entry_in b o i n m p r xs) ∷ Γ) (runs C Λ E rest Q) (T ∷ locals 𝓤 E xs ∷ Γ)
      (runs C Λ E (seq (assign (place m []) (op2 (mul unsigned) (copy (place n [])) (int w64 entry_bytes)))
      (seq (assign (place p []) (addr_of (place 1 (deref T'.mir ∷ field entries_field ∷ []))))
      (seq (assign (place r []) (op2 offset (copy (place p [])) (copy (place m [])))) rest))) Q)
  entry_reached z h {n} {m} {p} {r} w {T} = step (λ k.
      let fits = offset_fits h in
      sets ! 1 refl w.3 (bin ! (value ! 1 refl w.6) (lit ! tt) (record { fits = fits }))
      (typed_as (vint w64 (offset_bytes i)) w.0 (tt, record { fits = fits })) $
      sets ! 1 refl w.4 (addr ! (from ! (hop ! (look_in ! 1 (cell ! 1 w.7)) (fld ! refl (stop !)))))
      (typed_as (vptr b (first_offset o)) w.1 (tt, tt)) $
      sets ! 1 refl w.5 (bin ! (value ! 1 refl w.8) (value ! 1 refl w.9) tt)
      (typed_as (vptr b (offset_bytes i + first_offset o)) w.2 (tt, tt)) $
      rewrite ! 1 (λ x. locals 𝓤 E (set (first_in b o i n m p r xs) r (some (vptr b x)))) (sym (place_is entry_bytes (first_offset o) i)) refl $ k)

  -- the entry there is copied to _j
  pub entry_read : Go {0} → i < places → {r j : ℕ} → get_or xs r none ≡ some (vptr b (entry_offset o i)) → Has xs j → type_of E j ≡ N'.mir
      → (s : Share) (t : Table)
      → (IsEntry (at_place t i) → Seq (Go {0}) 𝓛 (‵ (table_at s t b o) ∷ locals 𝓤 E (set xs j (some (entry_val (at_place t i)))) ∷ Γ)
      (runs C Λ E rest Q))
      → Seq (Go {0}) 𝓛 (‵ (table_at s t b o) ∷ locals 𝓤 E xs ∷ Γ)
      (runs C Λ E (seq (assign (place j []) (rv_opd (copy (place r (deref N'.mir ∷ []))))) rest) Q)
  entry_read z h {r} at-r has_j τ-j s t k =
      takes_entry s t i (at_place t i) b o ! h (λ is.
      sets ! 2 refl has_j (of_opd ! (load ! (from ! (hop ! (look_in ! 2 (cell ! r at-r)) (stop !))) (look ! 0 refl)))
      (typed_as (entry_val (at_place t i)) τ-j (typed_entry 𝓛 (at_place t i) is)) $
      puts_entry s t i (at_place t i) b o ! is $
      rewrite ! 0 (λ (es : List Entry). ‵ (table_at s (with_entries t es) b o))
      (set-get_or t.entries i free_entry) refl $ k is)

  -- the entry in _j takes its place, and the rest runs
  pub entry_written : Go {0} → i < places → {r j : ℕ} → get_or xs r none ≡ some (vptr b (entry_offset o i)) → (t : Table) (e : Entry)
      → get_or xs j none ≡ some (entry_val e) → IsEntry e
      → Step (Go {0}) 𝓛 (‵ (table_at full_share (put_in t i e) b o) ∷ locals 𝓤 E xs ∷ Γ) (runs C Λ E rest Q)
      (‵ (table_at full_share t b o) ∷ locals 𝓤 E xs ∷ Γ)
      (runs C Λ E (seq (assign (place r (deref N'.mir ∷ [])) (rv_opd (copy (place j [])))) rest) Q)
  entry_written z h at-r t e at_j is = step (λ k. first ! $ entry_stored b o i ! h at-r t e at_j is $ record { prf = k.prf })

module _ {M : Type 1} {𝓤 : Ura M} {𝓛 : Logic 𝓤} {Γ : List (Item 𝓤)} {C : Calls 𝓤 𝓛.H} {Λ : Loops 𝓤 𝓛.H}
    {E : Env 𝓤 𝓛.H} {xs : List (Option Val)} {Q : Post 𝓤 𝓛.H} {rest : Code} (b o i : ℕ) where
  -- The entry in _j is put at place i, which _n holds; past the last place the table stays. What the locals on the way hold is forgotten:
  -- they hold something in one arm only.
  pub entry_put : Go {0} → {c n m p r j : ℕ} → type_of E c ≡ ty_bool → Has xs c → get_or xs n none ≡ some (vint w64 i)
      → let ys = set xs c (some (vbool (ltb i places))) in let zs = entry_in b o i n m p r ys in
      get_or ys c none ≡ some (vbool (ltb i places)) → Way b o i n m p r E ys → get_or zs r none ≡ some (vptr b (entry_offset o i))
      → (t : Table) → length t.entries ≡ places → (e : Entry) → get_or zs j none ≡ some (entry_val e) → IsEntry e
      → without zs (c ∷ m ∷ p ∷ r ∷ []) ≡ xs → without ys (c ∷ []) ≡ xs
      → Step (Go {0}) 𝓛 (‵ (table_at full_share (put_in t i e) b o) ∷ locals 𝓤 E xs ∷ Γ) (runs C Λ E rest Q)
      (‵ (table_at full_share t b o) ∷ locals 𝓤 E xs ∷ Γ)
      (runs C Λ E (seq (assign (place c []) (op2 (lt unsigned) (copy (place n [])) (int w64 places))) (seq (cond (copy (place c []))
      (seq (assign (place m []) (op2 (mul unsigned) (copy (place n [])) (int w64 entry_bytes)))
      (seq (assign (place p []) (addr_of (place 1 (deref T'.mir ∷ field entries_field ∷ []))))
      (seq (assign (place r []) (op2 offset (copy (place p [])) (copy (place m []))))
      (assign (place r (deref N'.mir ∷ [])) (rv_opd (copy (place j []))))))) skip) rest)) Q)
  entry_put z {c} {n} {m} {p} {r} τ-c has-c at_n at_c way at-r t size e at_j is on-back off-back = step (λ k.
      sets ! 1 refl has-c (bin ! (value ! 1 refl at_n) (lit ! tt) tt) (typed_as (vbool (ltb i places)) τ-c (tt, tt)) $
      tests ! (value ! 1 refl at_c)
      (λ on.
      entry_reached b o i ! (ltb→lt i places on) way $ entry_stored b o i ! (ltb→lt i places on) at-r t e at_j is $
      move ! (1 ∷ []) $ forgets ! (c ∷ m ∷ p ∷ r ∷ []) $ rewrite ! 0 (locals 𝓤 E) on-back refl $ move ! (1 ∷ []) $ record { prf = k.prf })
      (λ off.
      move ! (1 ∷ []) $ forgets ! (c ∷ []) $ rewrite ! 0 (locals 𝓤 E) off-back refl $ move ! (1 ∷ []) $
      rewrite ! 0 (λ (es : List Entry). ‵ (table_at full_share (with_entries t es) b o))
      (sym (set_out t.entries i e (past off))) refl $ k))
    where
      past : Holds (not (ltb i places)) → length t.entries ≤ i
      past off = rw size (nltb→le i places off)
