-- A fact of every element of a list, under maps, filters, sorts and joins. Assumes nothing.
use Rattle.std.specs.Prelude.{◌≡◌, refl, Bool, true, false, cond, ◌||◌, List, [], ◌∷◌, ◌++◌, map, ℕ, zero, suc, ◌≤◌, ◌<◌, length, get_or, take, replicate}
use Rattle.std.proofs.Common.{ap₂, zero-le, suc-le-suc, arith}
use Rattle.spec_lists.specs.All.{All, stop, and}
use Rattle.spec_lists.specs.Lists.{cons_if, keep, most_of, any_of, insert, sort, concat_map}
use Rattle.base_lists.specs.Tests.{clash, or_false}

module _ {A : Type 0} where
  pub head : {P : A → Type 0} {x : A} {xs : List A} → All P (x ∷ xs) → P x
  head (and p h) = p

  pub tail : {P : A → Type 0} {x : A} {xs : List A} → All P (x ∷ xs) → All P xs
  tail (and p h) = h

  pub all_map : {P Q : A → Type 0} {xs : List A} → ((x : A) → P x → Q x) → All P xs → All Q xs
  all_map f stop = stop
  all_map f (and {x = y} p h) = and (f y p) (all_map f h)

  pub all_zip : {P Q R : A → Type 0} {xs : List A} → ((x : A) → P x → Q x → R x) → All P xs → All Q xs → All R xs
  all_zip f stop k = stop
  all_zip f (and {x = y} p h) k = and (f y p (head k)) (all_zip f h (tail k))

  pub all_both : {P Q : A → Type 0} {xs : List A} → All P xs → All Q xs → All (λ x. P x × Q x) xs
  all_both h k = all_zip (λ x p q. (p, q)) h k

  -- what holds of everything
  pub all_of : {P : A → Type 0} (xs : List A) → ((x : A) → P x) → All P xs
  all_of [] f = stop
  all_of (x ∷ xs) f = and (f x) (all_of xs f)

  pub all_at : (P : A → Type 0) (xs : List A) (d : A) → All P xs → (i : ℕ) → i < length xs → P (get_or xs i d)
  all_at P [] d h i l = absurd (omega arith)
  all_at P (x ∷ xs) d h zero l = head h
  all_at P (x ∷ xs) d h (suc i) l = all_at P xs d (tail h) i (omega arith)

  -- ---- a filter
  all_cons_if : {P : A → Type 0} (b : Bool) (x : A) (xs : List A) → (b ≡ true → P x) → All P xs → All P (cons_if b x xs)
  all_cons_if true x xs f h = and (f refl) h
  all_cons_if false x xs f h = h

  pub at_all : (P : A → Type 0) (xs : List A) (d : A) → ((i : ℕ) → i < length xs → P (get_or xs i d)) → All P xs
  at_all P [] d h = stop
  at_all P (x ∷ xs) d h = and (h zero (suc-le-suc zero-le)) (at_all P xs d (λ i l. h (suc i) (suc-le-suc l)))

  pub all_keep : {P Q : A → Type 0} (p : A → Bool) {xs : List A} → ((x : A) → p x ≡ true → P x → Q x) → All P xs → All Q (keep p xs)
  all_keep p f stop = stop
  all_keep p f (and {x = y} {xs = ys} q h) = all_cons_if (p y) y (keep p ys) (λ e. f y e q) (all_keep p f h)

  pub all_kept : (P : A → Type 0) (p : A → Bool) (xs : List A) → All P (keep p xs) → All (λ x. p x ≡ true → P x) xs
  all_kept P p [] h = stop
  all_kept P p (x ∷ xs) h = go (p x) refl h (all_kept P p xs)
    where
      go : (b : Bool) → p x ≡ b → All P (cons_if b x (keep p xs)) → (All P (keep p xs) → All (λ y. p y ≡ true → P y) xs)
          → All (λ y. p y ≡ true → P y) (x ∷ xs)
      go true q h w = and (λ z. head h) (w (tail h))
      go false q h w = and (λ z. absurd (clash (p x) z q)) (w h)

  pub keep_all : (p : A → Bool) {xs : List A} → All (λ x. p x ≡ true) xs → keep p xs ≡ xs
  keep_all p stop = refl
  keep_all p (and {x = y} {xs = ys} q h) = ap₂ (λ b l. cons_if b y l) q (keep_all p h)

  -- ---- a sort
  all_cond : {P : A → Type 0} (b : Bool) {xs ys : List A} → All P xs → All P ys → All P (cond b xs ys)
  all_cond true h k = h
  all_cond false h k = k

  pub all_insert : {P : A → Type 0} (before : A → A → Bool) (x : A) {xs : List A} → P x → All P xs → All P (insert before x xs)
  all_insert before x p stop = and p stop
  all_insert before x p (and {x = y} q h) = all_cond (before x y) (and p (and q h)) (and q (all_insert before x p h))

  pub all_sort : {P : A → Type 0} (before : A → A → Bool) {xs : List A} → All P xs → All P (sort before xs)
  all_sort before stop = stop
  all_sort before (and {x = y} q h) = all_insert before y q (all_sort before h)

  all_uninsert : (P : A → Type 0) (before : A → A → Bool) (x : A) (xs : List A) → All P (insert before x xs) → P x × All P xs
  all_uninsert P before x [] h = (head h, stop)
  all_uninsert P before x (y ∷ ys) h = go (before x y) h (all_uninsert P before x ys)
    where
      go : (b : Bool) → All P (cond b (x ∷ y ∷ ys) (y ∷ insert before x ys)) → (All P (insert before x ys) → P x × All P ys)
          → P x × All P (y ∷ ys)
      go true h w = (head h, tail h)
      go false h w = ((w (tail h)).0, and (head h) (w (tail h)).1)

  pub all_sorted : (P : A → Type 0) (before : A → A → Bool) (xs : List A) → All P (sort before xs) → All P xs
  all_sorted P before [] h = stop
  all_sorted P before (x ∷ xs) h =
      let w : P x × All P (sort before xs) = all_uninsert P before x (sort before xs) h in
      and w.0 (all_sorted P before xs w.1)

  -- ---- two lists, one after the other
  pub all_append : {P : A → Type 0} {xs ys : List A} → All P xs → All P ys → All P (xs ++ ys)
  all_append stop k = k
  all_append (and p h) k = and p (all_append h k)

  pub all_left : (P : A → Type 0) (xs ys : List A) → All P (xs ++ ys) → All P xs
  all_left P [] ys h = stop
  all_left P (x ∷ xs) ys h = and (head h) (all_left P xs ys (tail h))

  pub all_right : (P : A → Type 0) (xs ys : List A) → All P (xs ++ ys) → All P ys
  all_right P [] ys h = h
  all_right P (x ∷ xs) ys h = all_right P xs ys (tail h)

  pub all_take : {P : A → Type 0} (n : ℕ) {xs : List A} → All P xs → All P (take n xs)
  all_take zero h = stop
  all_take (suc n) stop = stop
  all_take (suc n) (and p h) = and p (all_take n h)

  pub all_replicate : (P : A → Type 0) (n : ℕ) (x : A) → P x → All P (replicate n x)
  all_replicate P zero x p = stop
  all_replicate P (suc n) x p = and p (all_replicate P n x p)

  -- ---- tests
  pub most_all : (f : A → ℕ) (xs : List A) (m : ℕ) → most_of f xs ≤ m → All (λ x. f x ≤ m) xs
  most_all f [] m h = stop
  most_all f (x ∷ xs) m h = and {x = x} (omega arith) (most_all f xs m (omega arith))

  pub any_none : (p : A → Bool) (xs : List A) → any_of p xs ≡ false → All (λ x. p x ≡ false) xs
  any_none p [] h = stop
  any_none p (x ∷ xs) h =
      let w : (p x ≡ false) × (any_of p xs ≡ false) = or_false (p x) (any_of p xs) h in
      and w.0 (any_none p xs w.1)

  pub none_any : (p : A → Bool) {xs : List A} → All (λ x. p x ≡ false) xs → any_of p xs ≡ false
  none_any p stop = refl
  none_any p (and q h) = ap₂ ◌||◌ q (none_any p h)

module _ {A B : Type 0} where
  pub all_of_map : {P : B → Type 0} (g : A → B) {xs : List A} → All (λ x. P (g x)) xs → All P (map g xs)
  all_of_map g stop = stop
  all_of_map g (and p h) = and p (all_of_map g h)

  pub all_unmap : (P : B → Type 0) (g : A → B) (xs : List A) → All P (map g xs) → All (λ x. P (g x)) xs
  all_unmap P g [] h = stop
  all_unmap P g (x ∷ xs) h = and (head h) (all_unmap P g xs (tail h))

  pub map_ext : (f g : A → B) {xs : List A} → All (λ x. f x ≡ g x) xs → map f xs ≡ map g xs
  map_ext f g stop = refl
  map_ext f g (and p h) = ap₂ ◌∷◌ p (map_ext f g h)

  pub all_concat : {P : B → Type 0} (f : A → List B) {xs : List A} → All (λ x. All P (f x)) xs → All P (concat_map f xs)
  all_concat f stop = stop
  all_concat f (and p h) = all_append p (all_concat f h)

  pub all_unconcat : (P : B → Type 0) (f : A → List B) (xs : List A) → All P (concat_map f xs) → All (λ x. All P (f x)) xs
  all_unconcat P f [] h = stop
  all_unconcat P f (x ∷ xs) h = and (all_left P (f x) (concat_map f xs) h) (all_unconcat P f xs (all_right P (f x) (concat_map f xs) h))
