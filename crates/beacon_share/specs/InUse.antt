-- A sharing over the claims that are in use, the first of a queue: what is found of them is what all claims give, since those behind claim
-- nothing. Assumes nothing.
use Rattle.std.specs.Prelude.{◌≡◌, refl, Bool, true, false, cond, ◌||◌, List, [], ◌∷◌, ◌++◌, map, ℕ, zero, suc, ◌*◌, ◌-◌, ◌≤◌, ◌<◌, min, ltb, length, take, get_or, replicate}
use Rattle.std.proofs.Common.{sym, ap, ap₂, ◌∙◌, subst, arith, length-append, length-take}
use Rattle.std.proofs.Math.ListN.{get_or-append}
use Rattle.std.proofs.Math.Seq.{drop-append_seam}
use Rattle.std.proofs.Math.Nat.{mul-zero}
use Rattle.std.proofs.lemmas.List.{length-map, length-replicate, take-map}
use Rattle.std.proofs.lemmas.Simd.{map-map}
use Rattle.spec_lists.specs.Lists.{sum_of}
use Rattle.spec_rules.specs.Share.{extra}
use Rattle.base_lists.specs.Tests.{cond_zero}
use Rattle.base_lists.specs.All.{all_replicate}
use Rattle.base_lists.specs.Sums.{sum_map}
use Rattle.base_lists.specs.Loops.{map_at}
use Rattle.base_lists.specs.Spare.{Spare, spare_sum, begun_all}
use Rattle.spec_model.specs.Frames.{room_in}
use Rattle.spec_model.specs.Tables.{places}
use Rattle.spec_model.specs.declared.Frame.{Frame}
use Rattle.spec_model.specs.declared.Slots.{Slots}
use Rattle.table_queue.specs.Zips.{zip, length_zip, zip_at, zip_map, zip_spare}
use Rattle.table_queue.specs.Claims.{no_claim, ranks_in, owed_in, limits_in, jobs_of}
use Rattle.table_queue.specs.Queues.{no_rank, owed_below, piece_of, pieces_of, Bounded}
use Rattle.table_queue.specs.declared.Claim.{Claim}
use Rattle.table_queue.specs.declared.Queue.{Queue}
use Rattle.beacon_share.specs.Shares.{granted, sharing, piece_limit, limits_among, limits_spare, limits_sized, rooms_by, weight_by, grants_by, grants_spare, shares_by}
use Rattle.beacon_share.specs.declared.Granted.{Granted}
use Rattle.beacon_share.specs.declared.Sharing.{Sharing}

-- slots by their number, and the numbers of a list
abbrev pub slots : ℕ → Slots
slots n = record { 0 = n }

abbrev pub numbers : List Slots → List ℕ
numbers xs = map (λ (s : Slots). s.0) xs

-- one for each place of a table, d behind
abbrev pub filled : {A : Type 0} → A → List A → List A
filled d xs = xs ++ replicate (places - length xs) d

-- ---- by the claims that are in use
-- what one of the claims takes, of a capacity, and what each does
abbrev pub piece_among : (capacity : ℕ) → List Claim → Claim → ℕ
piece_among E cs c = piece_of E (ranks_in cs) (owed_in cs) c.rank c.owed.0

abbrev pub pieces_by : (capacity : ℕ) → List Claim → List Slots
pieces_by E cs = filled (slots 0) (map (λ c. slots (piece_among E cs c)) cs)

-- what one place may get of the sharing, before its piece
abbrev pub limit_among : (fractions : Bool) (jobs limit : ℕ) → ℕ
limit_among fractions m d = cond (fractions || ltb m 2) d 0

abbrev pub limits_of : (fractions : Bool) → List Claim → List ℕ
limits_of fractions cs = limits_among fractions (jobs_of cs) (limits_in cs)

abbrev pub weight_of : (fractions : Bool) → List Claim → List Slots → ℕ
weight_of fractions cs ps = weight_by (jobs_of cs) (rooms_by (limits_of fractions cs) (numbers ps))

abbrev pub grants_to : Sharing → List Claim → List Slots → List Granted
grants_to s cs ps = filled (granted 0 0) (grants_by s.remains.0 s.weight (limits_of s.fractions cs) (numbers ps))

-- ---- the first of each of two lists
module _ {A B C : Type 0} where
  zip_front : (f : A → B → C) (n : ℕ) (xs : List A) (ys : List B) → zip f (take n xs) (take n ys) ≡ take n (zip f xs ys)
  unfolding zip
  zip_front f zero xs ys = refl
  zip_front f (suc n) [] ys = refl
  zip_front f (suc n) (x ∷ xs) [] = refl
  zip_front f (suc n) (x ∷ xs) (y ∷ ys) = ap (λ l. f x y ∷ l) (zip_front f n xs ys)

  zip_short : (f : A → B → C) (n : ℕ) (xs : List A) (ys : List B) → zip f xs (take n ys) ≡ take n (zip f xs ys)
  unfolding zip
  zip_short f zero [] ys = refl
  zip_short f zero (x ∷ xs) ys = refl
  zip_short f (suc n) [] ys = refl
  zip_short f (suc n) (x ∷ xs) [] = refl
  zip_short f (suc n) (x ∷ xs) (y ∷ ys) = ap (λ l. f x y ∷ l) (zip_short f n xs ys)

  zip_ext : (f g : A → B → C) → ((x : A) (y : B) → f x y ≡ g x y) → (xs : List A) (ys : List B) → zip f xs ys ≡ zip g xs ys
  unfolding zip
  zip_ext f g e [] ys = refl
  zip_ext f g e (x ∷ xs) [] = refl
  zip_ext f g e (x ∷ xs) (y ∷ ys) = ap₂ ◌∷◌ (e x y) (zip_ext f g e xs ys)

-- ---- a loop that fills the places
module _ {A : Type 0} (d : A) (xs : List A) (h : length xs ≤ places) where
  pub filled_sized : length (filled d xs) ≡ places
  filled_sized = omega (arith, length-append xs (replicate (places - length xs) d), length-replicate (places - length xs) d)

  pub filled_at : (i : ℕ) → i < length xs → get_or (filled d xs) i d ≡ get_or xs i d
  filled_at i k = get_or-append xs (replicate (places - length xs) d) d i k

  pub filled_spare : Spare d (length xs) (filled d xs)
  filled_spare = rw (drop-append_seam xs (replicate (places - length xs) d)) (all_replicate (λ x. x ≡ d) (places - length xs) d refl)

-- where the rest is d
filled_front : {A : Type 0} (d : A) (n : ℕ) (xs : List A) → n ≤ places → length xs ≡ places → Spare d n xs → filled d (take n xs) ≡ xs
filled_front d n xs h e s =
    let k : length (take n xs) ≡ n = omega (arith, length-take n xs) in
    ap (λ m. take n xs ++ replicate (places - m) d) k ∙ begun_all d places n xs e s

numbers_filled : (xs : List ℕ) → numbers (filled (slots 0) (map slots xs)) ≡ filled 0 xs
numbers_filled xs = ap (λ k. numbers (map slots xs ++ replicate (places - k) (slots 0))) (length-map xs slots) ∙ go xs (places - length xs)
  where
    zeros : (k : ℕ) → numbers (replicate k (slots 0)) ≡ replicate k 0
    zeros zero = refl
    zeros (suc k) = ap (λ l. 0 ∷ l) (zeros k)

    go : (ys : List ℕ) (k : ℕ) → numbers (map slots ys ++ replicate k (slots 0)) ≡ ys ++ replicate k 0
    go [] k = zeros k
    go (y ∷ ys) k = ap (λ l. y ∷ l) (go ys k)

-- ---- by the claims, one after the other
pub below_sum : (r : ℕ) (cs : List Claim) → owed_below r (ranks_in cs) (owed_in cs) ≡ sum_of (λ (c : Claim). cond (ltb c.rank r) c.owed.0 0) cs
below_sum r cs = ap (sum_of (λ v. v)) (zip_map (λ k o. cond (ltb k r) o 0) (λ (c : Claim). c.rank) (λ (c : Claim). c.owed.0) cs) ∙ sum_map (λ v. v) _ cs

limit_at : (fractions : Bool) (jobs limits : List ℕ) (i : ℕ) → i < length jobs → i < length limits
    → get_or (limits_among fractions jobs limits) i 0 ≡ limit_among fractions (get_or jobs i 0) (get_or limits i 0)
limit_at true jobs limits i h k = refl
limit_at false jobs limits i h k = zip_at piece_limit jobs limits i 0 0 0 h k

module _ (fractions : Bool) (cs : List Claim) where
  pub limits_length : length (limits_of fractions cs) ≡ length cs
  limits_length =
      limits_sized fractions (jobs_of cs) (limits_in cs) (length-map cs (λ (c : Claim). c.jobs) ∙ sym (length-map cs (λ (c : Claim). c.limit.0)))
      ∙ length-map cs (λ (c : Claim). c.limit.0)

  pub limit_found : (i : ℕ) → i < length cs
      → get_or (limits_of fractions cs) i 0 ≡ limit_among fractions (get_or cs i no_claim).jobs (get_or cs i no_claim).limit.0
  limit_found i h =
      limit_at fractions (jobs_of cs) (limits_in cs) i (omega (arith, length-map cs (λ (c : Claim). c.jobs)))
      (omega (arith, length-map cs (λ (c : Claim). c.limit.0)))
      ∙ ap₂ (limit_among fractions) (map_at (λ (c : Claim). c.jobs) cs i no_claim 0 h) (map_at (λ (c : Claim). c.limit.0) cs i no_claim 0 h)

-- ---- the claims of a queue
module _ {q : Queue} (b : Bounded q) (size : length q.claims ≡ places) where
  abbrev cs : List Claim
  cs = q.claims

  abbrev us : List Claim
  us = take q.used q.claims

  sized : (f : Claim → ℕ) → length (map f cs) ≡ places
  sized f = length-map cs f ∙ size

  below_same : (r : ℕ) → owed_below r (ranks_in us) (owed_in us) ≡ owed_below r (ranks_in cs) (owed_in cs)
  below_same r =
      let f : ℕ → ℕ → ℕ = λ k o. cond (ltb k r) o 0 in
      ap₂ (owed_below r) (sym (take-map _ q.used cs)) (sym (take-map _ q.used cs))
      ∙ ap (sum_of (λ v. v)) (zip_front f q.used (ranks_in cs) (owed_in cs))
      ∙ spare_sum 0 (λ v. v) refl q.used (zip f (ranks_in cs) (owed_in cs))
      (zip_spare f (λ k. cond_zero (ltb k r)) q.used (ranks_in cs) (owed_in cs) b.owed)

  pub pieces_same : (E : ℕ) → numbers (pieces_by E us) ≡ pieces_of E (ranks_in cs) (owed_in cs)
  pieces_same E =
      let all = pieces_of E (ranks_in cs) (owed_in cs) in
      let some : pieces_of E (ranks_in us) (owed_in us) ≡ take q.used all =
      zip_ext (piece_of E (ranks_in us) (owed_in us)) (piece_of E (ranks_in cs) (owed_in cs)) (λ k o. ap (λ m. min o (E - m)) (below_same k)) (ranks_in us) (owed_in us)
      ∙ ap₂ (zip (piece_of E (ranks_in cs) (owed_in cs))) (sym (take-map _ q.used cs)) (sym (take-map _ q.used cs))
      ∙ zip_front (piece_of E (ranks_in cs) (owed_in cs)) q.used (ranks_in cs) (owed_in cs) in
      ap (λ l. numbers (filled (slots 0) l)) (sym (map-map slots (piece_among E us) us))
      ∙ numbers_filled (map (piece_among E us) us)
      ∙ ap (filled 0) (sym (zip_map (piece_of E (ranks_in us) (owed_in us)) (λ (c : Claim). c.rank) (λ (c : Claim). c.owed.0) us) ∙ some)
      ∙ filled_front 0 q.used all b.used
      (omega (arith, length_zip (piece_of E (ranks_in cs) (owed_in cs)) (ranks_in cs) (owed_in cs), sized (λ c. c.rank), sized (λ c. c.owed.0)))
      (zip_spare (piece_of E (ranks_in cs) (owed_in cs)) (λ k. omega arith) q.used (ranks_in cs) (owed_in cs) b.owed)

  module _ (fractions : Bool) where
    limits_same : limits_of fractions us ≡ take q.used (limits_of fractions cs)
    limits_same =
        ap₂ (limits_among fractions) (sym (take-map _ q.used cs)) (sym (take-map _ q.used cs)) ∙ go fractions
      where
        go : (f : Bool) → limits_among f (take q.used (jobs_of cs)) (take q.used (limits_in cs)) ≡ take q.used (limits_of f cs)
        go true = refl
        go false = zip_front piece_limit q.used (jobs_of cs) (limits_in cs)

    limits_none : Spare 0 q.used (limits_of fractions cs)
    limits_none = limits_spare fractions q.used (jobs_of cs) (limits_in cs) b.limits

    weight_same : (ps : List Slots) → weight_of fractions us ps ≡ weight_of fractions cs ps
    weight_same ps =
        let room : ℕ → ℕ → ℕ = λ p d. d - p in
        let times : ℕ → ℕ → ℕ = λ m d. m * d in
        let rooms = rooms_by (limits_of fractions cs) (numbers ps) in
        ap₂ (λ ms ds. weight_by ms (rooms_by ds (numbers ps))) (sym (take-map _ q.used cs)) limits_same
        ∙ ap (weight_by (take q.used (jobs_of cs))) (zip_short room q.used (numbers ps) (limits_of fractions cs))
        ∙ ap (sum_of (λ v. v)) (zip_front times q.used (jobs_of cs) rooms)
        ∙ spare_sum 0 (λ v. v) refl q.used (zip times (jobs_of cs) rooms)
        (zip_spare times mul-zero q.used (jobs_of cs) rooms
        (zip_spare room (λ p. omega arith) q.used (numbers ps) (limits_of fractions cs) limits_none))

    grants_same : (L W : ℕ) (ps : List Slots) → length ps ≡ places → Spare 0 q.used (numbers ps)
        → filled (granted 0 0) (grants_by L W (limits_of fractions us) (numbers ps)) ≡ grants_by L W (limits_of fractions cs) (numbers ps)
    grants_same L W ps e s =
        let own : ℕ → ℕ → Granted = λ p d. granted p (extra L W (d - p)) in
        let ds = limits_of fractions cs in
        ap (λ l. filled (granted 0 0) (grants_by L W l (numbers ps))) limits_same
        ∙ ap (filled (granted 0 0)) (zip_short own q.used (numbers ps) ds)
        ∙ filled_front (granted 0 0) q.used (grants_by L W ds (numbers ps)) b.used
        (omega (arith, length_zip own (numbers ps) ds, length-map ps (λ (s : Slots). s.0), e, limits_sized fractions (jobs_of cs) (limits_in cs) (sized (λ c. c.jobs) ∙ sym (sized (λ c. c.limit.0))), sized (λ c. c.limit.0)))
        (grants_spare L W q.used ds (numbers ps) limits_none s)

  -- what a program finds of the claims that are in use are the shares by all
  pub shares_found : (F : Frame) (fractions : Bool) {E L W : ℕ} {ps : List Slots} {gs : List Granted} → E ≡ room_in F - q.load
      → ps ≡ pieces_by E us → L ≡ E - owed_below no_rank (ranks_in us) (owed_in us) → W ≡ weight_of fractions us ps
      → gs ≡ grants_to (sharing E L W fractions) us ps → record { grants = gs } ≡ shares_by F fractions q
  shares_found F fractions {E} {L} {W} {ps} e p r v g =
      let E' : ℕ = room_in F - q.load in
      let all = pieces_of E' (ranks_in cs) (owed_in cs) in
      let ds = limits_of fractions cs in
      let np : numbers ps ≡ all = ap numbers p ∙ pieces_same E ∙ ap (λ n. pieces_of n (ranks_in cs) (owed_in cs)) e in
      let l = r ∙ ap₂ ◌-◌ e (below_same no_rank) in
      let w = v ∙ weight_same fractions ps ∙ ap (λ xs. weight_by (jobs_of cs) (rooms_by ds xs)) np in
      let few : length us ≤ places = omega (arith, length-take q.used q.claims, b.used) in
      let f : Claim → Slots = λ c. slots (piece_among E us c) in
      let n = ap length p ∙ filled_sized (slots 0) (map f us) (omega (arith, length-map us f)) in
      let none : Spare 0 q.used (numbers ps) = subst (Spare 0 q.used) (sym np)
      (zip_spare (piece_of E' (ranks_in cs) (owed_in cs)) (λ k. omega arith) q.used (ranks_in cs) (owed_in cs) b.owed) in
      ap (λ (x : List Granted). record { grants = x })
      (g ∙ grants_same fractions L W ps n none ∙ ap₂ (λ x y. grants_by x y ds (numbers ps)) l w
      ∙ ap (grants_by (E' - owed_below no_rank (ranks_in cs) (owed_in cs)) (weight_by (jobs_of cs) (rooms_by ds all)) ds) np)
