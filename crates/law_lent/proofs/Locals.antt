-- The locals of a function, as one entry of a walk's context: each has room or holds a value. A step names a local by its number, so a
-- context stays short whatever the count of the locals, and they are allocated at once and freed at once. Assumes nothing.
use mathlib.Core.Path.{◌≡◌, refl, sym, ap, subst, ◌∙◌}
use mathlib.Core.Option.{Option, none, some}
use Prim.Native.Nat.{ℕ, zero, suc}
use native.Mathlib.Omega.{arith}
use mathlib.Core.List.{[], ◌∷◌, List}
use lib.ListN.{get_or, set}
use lib.Seq.{set-get_or}
use lib.Dec.{T as Holds}
use seplogic.Ra.Ura.{Ura}
use base.Fraction.{full_share}
use mir.Syntax.{Sym, Ty, Tys, ty_enum, ty_struct, ttnil, Local, local, Fn, field, place, copy, Rv as RValue, Body as Code, seq, assign}
use mir.Val.{Val, Vals, vstruct, WT, has_ty}
use mir.Fields.{get_v}
use prog.Memory.{field_at, field_of}
use base.Logic.{SProp, ent, sep, wand, all, emp, never, id⊢, via, assoc∗, mono∗, mono_l, mono_r, fst∗, snd∗, emp∗, wand_i, apply∗}
use base.Logic.{all_i, all_e, guard_i, never_e}
use base.Fml.{Fml, ftrue, ffalse, fsep, fat, froom, fdies}
use prog.Wp.{Calls, Loops, Env, spot_of, alloc, release, WpFn}
use types.Logic.{Logic, sem}
use types.Kit.{Item, ‵, raw, given, ◌⊛◌, mean, ⋆, nth, del, put, pull, fill, pop, push, Post, at_ret, Goal, prop, aim}
use types.Kit.{runs, lands, params', frees}
use types.Kit.{Go, Seq, Step, step, ◌$◌, ◌∵◌, !, qed, by, move, use1, use2, split, learn, fsplit, fjoin, rewrite, check, frame, assume, each, done}
use types.Run.{Writes, Opd, Rv, from, fld, stop, load, assigns, land}
use types.Part.{Part, sub, look_in}

-- one local, and all of them: their types and blocks, and what each holds
abbrev pub slot : Ty × ℕ → Option Val → Fml
slot e none = froom e.0 e.1 0
slot e (some v) = fat full_share e.0 e.1 0 v

unfoldable pub held : List (Ty × ℕ) → List (Option Val) → Fml
held [] [] = ftrue
held [] (x ∷ xs) = ffalse
held (e ∷ es) [] = ffalse
held (e ∷ es) (x ∷ xs) = fsep (fsep (slot e x) (fdies e.0 e.1)) (held es xs)

-- A step finds the locals by their shape: antt reads E and xs off the type Locals, and cannot off a formula that computes.
pub data Locals (E : List (Ty × ℕ)) (xs : List (Option Val)) : Type 0 where
  are : Locals E xs

abbrev pub locals : {M : Type 1} (𝓤 : Ura M) → List (Ty × ℕ) → List (Option Val) → Item 𝓤
locals 𝓤 E xs = given (Locals E xs) (‵ (held E xs))

-- the k-th local's type; and there is one
abbrev pub type_of : List (Ty × ℕ) → ℕ → Ty
type_of E k = (get_or E k (ty_enum [] ttnil, 0)).0

abbrev pub Has : List (Option Val) → ℕ → Type 0
Has [] k = ⊥
Has (x ∷ xs) zero = Unit {0}
Has (x ∷ xs) (suc k) = Has xs k

has : (xs : List (Option Val)) (k : ℕ) {v : Val} → get_or xs k none ≡ some v → Has xs k
has [] k e = let z : ◌≡◌ {A = ℕ} 0 1 = cc in omega arith
has (x ∷ xs) zero e = tt
has (x ∷ xs) (suc k) e = has xs k e

-- There is a field. A step that asks for no more than this leaves it to the lemma to name the field's type and place, which are long.
abbrev pub Some : Option (Ty × ℕ) → Type 0
Some none = ⊥
Some (some f) = Unit {0}

it : (x : Option (Ty × ℕ)) → Some x → (f : Ty × ℕ) × (x ≡ some f)
it none h = absurd h
it (some f) h = (f, refl)

module _ {M : Type 1} {𝓤 : Ura M} (𝓛 : Logic 𝓤) where
  open 𝓛 use {H}

  abbrev ⟦◌⟧ : Fml → SProp 𝓤
  ⟦ P ⟧ = sem 𝓛 P

  abbrev spot : List (Ty × ℕ) → ℕ → Ty × ℕ
  spot E k = ((spot_of 𝓤 H E k).0, (spot_of 𝓤 H E k).1)

  -- what takes the k-th local back, when it holds y, and whatever it holds then
  abbrev Returns : List (Ty × ℕ) → List (Option Val) → ℕ → Option Val → SProp 𝓤
  Returns E xs k y = wand 𝓤 ⟦ slot (spot E k) y ⟧ ⟦ held E (set xs k y) ⟧

  abbrev Back : List (Ty × ℕ) → List (Option Val) → ℕ → SProp 𝓤
  Back E xs k = all 𝓤 (Returns E xs k)

  taken : (E : List (Ty × ℕ)) (xs : List (Option Val)) (k : ℕ) → Has xs k
      → ent 𝓤 ⟦ held E xs ⟧ (sep 𝓤 ⟦ slot (spot E k) (get_or xs k none) ⟧ (Back E xs k))
  unfolding held
  taken E [] k h = absurd h
  taken [] (x ∷ xs) k h = never_e 𝓤 _
  taken (e ∷ E) (x ∷ xs) zero h =
      qed 𝓛 (‵ (held (e ∷ E) (x ∷ xs)) ∷ []) ∵ fsplit ! $ fsplit ! $ frame ! $
      each ! (Returns (e ∷ E) (x ∷ xs) 0) (λ y. assume ! (‵ (slot e y)) $ fjoin ! $ fjoin ! $ done !)
  taken (e ∷ E) (x ∷ xs) (suc k) h =
      qed 𝓛 (‵ (held (e ∷ E) (x ∷ xs)) ∷ []) ∵ fsplit ! $ move ! (1 ∷ []) $
      use1 𝓛 (‵ (slot (spot E k) (get_or xs k none)) ⊛ raw (Back E xs k)) (taken E xs k h) $ split ! $ frame ! $
      each ! (Returns (e ∷ E) (x ∷ xs) (suc k)) (λ y. assume ! (‵ (slot (spot E k) y)) $ move ! (1 ∷ []) $
      use1 𝓛 (raw (Returns E xs k y)) (all_e 𝓤 (Returns E xs k) y) $ move ! (1 ∷ 0 ∷ []) $
      use2 𝓛 (‵ (held E (set xs k y))) (apply∗ 𝓤 ⟦ slot (spot E k) y ⟧ ⟦ held E (set xs k y) ⟧) $ move ! (1 ∷ 0 ∷ []) $ fjoin ! $ done !)

  -- it is given back, at y
  given_back : {R : SProp 𝓤} (E : List (Ty × ℕ)) (xs : List (Option Val)) (k : ℕ) (y : Option Val) {Γ : List (Item 𝓤)}
      → Step (Go {0}) 𝓛 (locals 𝓤 E (set xs k y) ∷ Γ) (prop R) (‵ (slot (spot E k) y) ∷ raw (Back E xs k) ∷ Γ) (prop R)
  given_back E xs k y = step (λ s.
      move ! (1 ∷ []) $ use1 𝓛 (raw (Returns E xs k y)) (all_e 𝓤 (Returns E xs k) y) $ move ! (1 ∷ 0 ∷ []) $
      use2 𝓛 (‵ (held E (set xs k y))) (apply∗ 𝓤 ⟦ slot (spot E k) y ⟧ ⟦ held E (set xs k y) ⟧) $
      use1 𝓛 (locals 𝓤 E (set xs k y)) (guard_i 𝓤 (Locals E (set xs k y)) ⟦ held E (set xs k y) ⟧ are) $ s)

  roomy : (e : Ty × ℕ) (x : Option Val) → ent 𝓤 ⟦ slot e x ⟧ (H.room e.0 e.1 0)
  roomy e none = id⊢ 𝓤 (H.room e.0 e.1 0)
  roomy e (some v) = 𝓛.laws.at_room e.0 e.1 0 v

  emptied : (E : List (Ty × ℕ)) (xs : List (Option Val)) (k : ℕ) → ent 𝓤 ⟦ held E xs ⟧ ⟦ held E (set xs k none) ⟧
  unfolding held
  emptied E [] k = id⊢ 𝓤 ⟦ held E [] ⟧
  emptied [] (x ∷ xs) k = never_e 𝓤 ⟦ held [] (set (x ∷ xs) k none) ⟧
  emptied (e ∷ E) (x ∷ xs) zero = mono_l 𝓤 ⟦ held E xs ⟧ (mono_l 𝓤 (H.dies e.0 e.1) (roomy e x))
  emptied (e ∷ E) (x ∷ xs) (suc k) = mono_r 𝓤 (sep 𝓤 ⟦ slot e x ⟧ (H.dies e.0 e.1)) (emptied E xs k)

  -- the locals are given up
  released : (E : List (Ty × ℕ)) (xs : List (Option Val)) {R P : SProp 𝓤} → ent 𝓤 R P → ent 𝓤 (sep 𝓤 ⟦ held E xs ⟧ R) (release 𝓤 H E P)
  unfolding held
  released [] [] {R} h = via 𝓤 R (snd∗ 𝓤 (emp 𝓤) R) h
  released [] (x ∷ xs) {R} {P} h = via 𝓤 (never 𝓤) (fst∗ 𝓤 (never 𝓤) R) (never_e 𝓤 P)
  released (e ∷ E) [] {R} {P} h = via 𝓤 (never 𝓤) (fst∗ 𝓤 (never 𝓤) R) (never_e 𝓤 (release 𝓤 H (e ∷ E) P))
  released (e ∷ E) (x ∷ xs) {R} h =
      via 𝓤 (sep 𝓤 (sep 𝓤 ⟦ slot e x ⟧ (H.dies e.0 e.1)) (sep 𝓤 ⟦ held E xs ⟧ R))
      (assoc∗ 𝓤 (sep 𝓤 ⟦ slot e x ⟧ (H.dies e.0 e.1)) ⟦ held E xs ⟧ R)
      (mono∗ 𝓤 (mono_l 𝓤 (H.dies e.0 e.1) (roomy e x)) (released E xs h))

-- the locals numbered ks hold nothing any more
abbrev pub without : List (Option Val) → List ℕ → List (Option Val)
without xs [] = xs
without xs (k ∷ ks) = without (set xs k none) ks

-- for each local a block, and then what is had of the types and blocks
abbrev pub Blocks : List Local → (List (Ty × ℕ) → Type 1) → Type 1
Blocks [] X = X []
Blocks (local τ home ∷ ls) X = (l : ℕ) → Blocks ls (λ E. X ((τ, l) ∷ E))

each_block : (ls : List Local) {X Y : List (Ty × ℕ) → Type 1} → ((E : List (Ty × ℕ)) → X E → Y E) → Blocks ls X → Blocks ls Y
each_block [] f k = f [] k
each_block (local τ home ∷ ls) f k = λ l. each_block ls (λ E. f ((τ, l) ∷ E)) (k l)

-- none holds anything yet
abbrev pub rooms : List Local → List (Option Val)
rooms [] = []
rooms (l ∷ ls) = none ∷ rooms ls

module _ {M : Type 1} {𝓤 : Ura M} (𝓛 : Logic 𝓤) where
  open 𝓛 use {H}

  all_emptied : (E : List (Ty × ℕ)) (xs : List (Option Val)) (ks : List ℕ)
      → ent 𝓤 (sem 𝓛 (held E xs)) (sem 𝓛 (held E (without xs ks)))
  all_emptied E xs [] = id⊢ 𝓤 (sem 𝓛 (held E xs))
  all_emptied E xs (k ∷ ks) = via 𝓤 (sem 𝓛 (held E (set xs k none))) (emptied 𝓛 E xs k) (all_emptied E (set xs k none) ks)

  allocated : (ls : List Local) (R : SProp 𝓤) (Kt : List (Ty × ℕ) → SProp 𝓤)
      → Blocks ls (λ E. ent 𝓤 (sep 𝓤 (sem 𝓛 (held E (rooms ls))) R) (Kt E)) → ent 𝓤 R (alloc 𝓤 H ls Kt)
  unfolding held
  allocated [] R Kt k = via 𝓤 (sep 𝓤 (emp 𝓤) R) (emp∗ 𝓤 R) k
  allocated (local τ home ∷ ls) R Kt k =
      all_i 𝓤 (λ (l : ℕ). wand 𝓤 (sep 𝓤 (H.room τ l 0) (H.dies τ l)) (alloc 𝓤 H ls (λ E. Kt ((τ, l) ∷ E)))) (λ l.
      wand_i 𝓤 R (sep 𝓤 (H.room τ l 0) (H.dies τ l)) (alloc 𝓤 H ls (λ E. Kt ((τ, l) ∷ E)))
      (allocated ls (sep 𝓤 R (sep 𝓤 (H.room τ l 0) (H.dies τ l))) (λ E. Kt ((τ, l) ∷ E)) (each_block ls (λ E h.
      qed 𝓛 (‵ (held E (rooms ls)) ∷ raw R ∷ (‵ (froom τ l 0) ⊛ ‵ (fdies τ l)) ∷ []) ∵
      move ! (2 ∷ []) $ split ! $ fjoin ! $ fjoin ! $ by ! h) (k l))))

module _ {M : Type 1} {𝓤 : Ura M} {𝓛 : Logic 𝓤} {K : Type 0} where
  -- the k-th local holds v, and can be given another value
  open 𝓛 use {H}

  pub cell : K → {E : List (Ty × ℕ)} {xs : List (Option Val)} (k : ℕ) {v : Val} → get_or xs k none ≡ some v
      → Part K 𝓛 (locals 𝓤 E xs) full_share (spot_of 𝓤 H E k).0 (spot_of 𝓤 H E k).1 0 v (λ u. locals 𝓤 E (set xs k (some u)))
  cell t {E} {xs} k {v} e = record {
    out =
        qed 𝓛 (locals 𝓤 E xs ∷ []) ∵ learn ! (λ _.
        use1 𝓛 (‵ (slot (spot 𝓛 E k) (get_or xs k none)) ⊛ raw (Back 𝓛 E xs k)) (taken 𝓛 E xs k (has xs k e)) $ split ! $
        rewrite ! 0 (λ x. ‵ (slot (spot 𝓛 E k) x)) e refl $ frame ! $
        each ! (λ (u : Val). wand 𝓤 (H.at full_share (spot_of 𝓤 H E k).0 (spot_of 𝓤 H E k).1 0 u) (mean 𝓛 (locals 𝓤 E (set xs k (some u)))))
        (λ u. assume ! (‵ (slot (spot 𝓛 E k) (some u))) $ given_back 𝓛 E xs k (some u) $ done !));
    same = ap (λ (ys : List (Option Val)). locals 𝓤 E ys) (ap (λ (x : Option Val). set xs k x) (sym e) ∙ set-get_or xs k none);
  }

  -- a function is entered: its locals are allocated
  pub enters : K → {Γ : List (Item 𝓤)} (C : Calls 𝓤 H) (Λ : Loops 𝓤 H) (f : Fn) (vs : List Val) (Kf : Val → SProp 𝓤)
      → Blocks f.locals (λ E. Seq K 𝓛 (locals 𝓤 E (rooms f.locals) ∷ Γ) (params' E vs (runs C Λ E f.body (at_ret E Kf))))
      → Seq K 𝓛 Γ (prop (WpFn 𝓤 H C Λ f vs Kf))
  unfolding WpFn
  enters t {Γ} C Λ f vs Kf k = record {
    prf = allocated 𝓛 f.locals (⋆ 𝓛 Γ) (λ E. aim 𝓤 H (params' E vs (runs C Λ E f.body (at_ret E Kf))))
        (each_block f.locals (λ E s.
        via 𝓤 (sep 𝓤 (mean 𝓛 (locals 𝓤 E (rooms f.locals))) (⋆ 𝓛 Γ))
        (mono_l 𝓤 (⋆ 𝓛 Γ) (guard_i 𝓤 (Locals E (rooms f.locals)) (sem 𝓛 (held E (rooms f.locals))) are))
        (via 𝓤 (⋆ 𝓛 (locals 𝓤 E (rooms f.locals) ∷ Γ)) (push 𝓛 (locals 𝓤 E (rooms f.locals)) Γ) s.prf)) k);
  }

  module _ {Γ : List (Item 𝓤)} {E : Env 𝓤 H} {xs : List (Option Val)} where
    -- its locals are freed
    pub freed : K → {G : Goal 𝓤 H} → Step K 𝓛 Γ G (locals 𝓤 E xs ∷ Γ) (frees E G)
    freed t {G} = step (λ s. learn t (λ _. record {
      prf = via 𝓤 (sep 𝓤 (sem 𝓛 (held E xs)) (⋆ 𝓛 Γ)) (pop 𝓛 (‵ (held E xs)) Γ) (released 𝓛 E xs s.prf);
    }))

    -- what some hold is forgotten
    pub forgets : K → {G : Goal 𝓤 H} (ks : List ℕ) → Step K 𝓛 (locals 𝓤 E (without xs ks) ∷ Γ) G (locals 𝓤 E xs ∷ Γ) G
    forgets t ks = step (λ s. learn t (λ _.
        use1 𝓛 (locals 𝓤 E (without xs ks)) (via 𝓤 (sem 𝓛 (held E (without xs ks))) (all_emptied 𝓛 E xs ks)
        (guard_i 𝓤 (Locals E (without xs ks)) (sem 𝓛 (held E (without xs ks))) are)) $ s))

    -- entry n of the context is the locals; the k-th is given a value
    pub keeps : K → (n k : ℕ) {v : Val} → nth 𝓛 n Γ ≡ locals 𝓤 E xs → Has xs k → Holds (has_ty (spot_of 𝓤 H E k).0 v) × WT v
        → Writes K 𝓛 Γ (spot_of 𝓤 H E k).0 (spot_of 𝓤 H E k).1 0 v (put 𝓛 n (locals 𝓤 E (set xs k (some v))) Γ)
    keeps t n k {v} at_n h typed = record {
      go = λ P s.
          via 𝓤 (sep 𝓤 (mean 𝓛 (locals 𝓤 E xs)) (⋆ 𝓛 (del 𝓛 n Γ)))
          (subst (λ (j : Item 𝓤). ent 𝓤 (⋆ 𝓛 Γ) (sep 𝓤 (mean 𝓛 j) (⋆ 𝓛 (del 𝓛 n Γ)))) at_n (pull 𝓛 n Γ))
          (qed 𝓛 (locals 𝓤 E xs ∷ raw (⋆ 𝓛 (del 𝓛 n Γ)) ∷ []) ∵ learn ! (λ _.
          use1 𝓛 (‵ (slot (spot 𝓛 E k) (get_or xs k none)) ⊛ raw (Back 𝓛 E xs k)) (taken 𝓛 E xs k h) $ split ! $
          use1 𝓛 (‵ (slot (spot 𝓛 E k) none)) (roomy 𝓛 (spot 𝓛 E k) (get_or xs k none)) $
          check ! typed $ frame ! $ assume ! (‵ (slot (spot 𝓛 E k) (some v))) $ given_back 𝓛 E xs k (some v) $
          by ! (via 𝓤 (⋆ 𝓛 (put 𝓛 n (locals 𝓤 E (set xs k (some v))) Γ)) (fill 𝓛 n (locals 𝓤 E (set xs k (some v))) Γ) s)));
    }

    -- a local is read, set, or set to what a call returns
    pub value : K → (n : ℕ) {k : ℕ} {v : Val} → nth 𝓛 n Γ ≡ locals 𝓤 E xs → get_or xs k none ≡ some v → Opd K 𝓛 Γ E (copy (place k [])) v
    value t n {k} {v} at_n e =
        load t (from t (stop t)) (look_in t n
        (subst (λ (j : Item 𝓤). Part K 𝓛 j full_share (spot_of 𝓤 H E k).0 (spot_of 𝓤 H E k).1 0 v (λ u. locals 𝓤 E (set xs k (some u))))
        (sym at_n) (cell t k e)))

    -- a field of a local that holds a struct
    pub part : K → (n : ℕ) {k j : ℕ} {ν : Sym} {τs : Tys} {us : Vals} → nth 𝓛 n Γ ≡ locals 𝓤 E xs
        → type_of E k ≡ ty_struct ν τs → get_or xs k none ≡ some (vstruct us) → Some (field_at 0 τs j)
        → Opd K 𝓛 Γ E (copy (place k (field j ∷ []))) (get_v us j)
    part t n {k} {j} {ν} {τs} {us} at_n τ-is e h =
        let at_j = (it (field_at 0 τs j) h).1 in
        load t (from t (fld t (ap (λ (ρ : Ty). field_of ρ j) τ-is ∙ at_j) (stop t))) (look_in t n (sub t j at_j
        (subst (λ (i : Item 𝓤). Part K 𝓛 i full_share (ty_struct ν τs) (spot_of 𝓤 H E k).1 0 (vstruct us) (λ u. locals 𝓤 E (set xs k (some u))))
        (sym at_n)
        (subst (λ (ρ : Ty). Part K 𝓛 (locals 𝓤 E xs) full_share ρ (spot_of 𝓤 H E k).1 0 (vstruct us) (λ u. locals 𝓤 E (set xs k (some u))))
        τ-is (cell t k e)))))

    module _ {C : Calls 𝓤 H} {Λ : Loops 𝓤 H} {q : Post 𝓤 H} {k : ℕ} {rest : Code} where
      pub sets : K → (n : ℕ) {rv : RValue} {v : Val} → nth 𝓛 n Γ ≡ locals 𝓤 E xs → Has xs k → Rv K 𝓛 Γ E rv v
          → Holds (has_ty (spot_of 𝓤 H E k).0 v) × WT v
          → Step K 𝓛 (put 𝓛 n (locals 𝓤 E (set xs k (some v))) Γ) (runs C Λ E rest q) Γ (runs C Λ E (seq (assign (place k []) rv) rest) q)
      sets t n at_n h r typed = assigns t r (from t (stop t)) (keeps t n k at_n h typed)

      pub receives : K → (n : ℕ) {v : Val} → nth 𝓛 n Γ ≡ locals 𝓤 E xs → Has xs k → Holds (has_ty (spot_of 𝓤 H E k).0 v) × WT v
          → Step K 𝓛 (put 𝓛 n (locals 𝓤 E (set xs k (some v))) Γ) (runs C Λ E rest q) Γ (lands C Λ E (place k []) v rest q)
      receives t n at_n h typed = land t (from t (stop t)) (keeps t n k at_n h typed)
