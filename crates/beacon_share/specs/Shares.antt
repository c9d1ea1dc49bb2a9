-- The figures by which an interval is shared, and what an entry gets by them. For each entry that a table holds, these are its slots of
-- steps B and C of document 01, "One beacon". Assumes nothing.
use Rattle.std.specs.Prelude.{◌≡◌, refl, ◌⊎◌, Bool, true, false, cond, not, ◌||◌, List, [], ◌∷◌, map, ℕ, zero, suc, ◌*◌, ◌-◌, ◌<◌, ltb, length, get_or, replicate}
use Rattle.std.proofs.Common.{sym, ap, ap₂, ◌∙◌, inl, inr, arith, eq-eqb, le-ltb}
use Rattle.spec_lists.specs.All.{All, stop, and}
use Rattle.base_lists.specs.Tests.{cond_zero}
use Rattle.base_lists.specs.Spare.{Spare}
use Rattle.base_lists.specs.All.{all_map, all_zip, map_ext}
use Rattle.spec_lists.specs.Lists.{sum_of}
use Rattle.base_lists.specs.Sums.{sum_ext, sum_map}
use Rattle.base_lists.specs.Loops.{map_at}
use Rattle.spec_model.specs.Names.{name_in_range}
use Rattle.spec_model.specs.Entries.{free_entry, is_held, is_kind}
use Rattle.spec_model.specs.Frames.{room_in}
use Rattle.spec_model.specs.Tables.{places, held_of}
use Rattle.spec_model.specs.declared.Frame.{Frame}
use Rattle.spec_model.specs.declared.Entry.{Entry}
use Rattle.spec_model.specs.declared.Table.{Table}
use Rattle.spec_rules.specs.Share.{capacity, step_b, remains, headroom, job_count, weight, extra, extras_pass}
use Rattle.spec_rules.specs.WellFormed.{Held, Tidy}
use Rattle.law_model.specs.Names.{in_range_some}
use Rattle.law_steps.specs.Held.{Fraction, Piece}
use Rattle.law_steps.proofs.Held.{held_is, not_fraction}
use Rattle.law_steps.specs.StepB.{step_b_of}
use Rattle.law_steps.specs.Extras.{step_c_of}
use Rattle.law_steps.proofs.Extras.{extra_le}
use Rattle.law_steps.proofs.Places.{remains_places}
use Rattle.law_steps.proofs.Settled.{headroom_fraction, headroom_whole, headroom_transfer}
use Rattle.law_steps.specs.Closed.{takes, share_in}
use Rattle.law_steps.proofs.Closed.{takes_owed, takes_held, by_kind, weight_places, extra_held}
use Rattle.table_entry.specs.Amounts.{limit_of, jobs_in}
use Rattle.beacon_share.specs.declared.Granted.{Granted}
use Rattle.table_queue.specs.declared.Queue.{Queue}
use Rattle.beacon_share.specs.declared.Sharing.{Sharing}
use Rattle.beacon_share.specs.declared.Shares.{Shares}
use Rattle.table_queue.specs.Zips.{zip, zip_map, length_zip, zip_spare}
use Rattle.table_queue.specs.Claims.{ranks_in, owed_in, limits_in, jobs_of}
use Rattle.table_queue.specs.Queues.{Queued, no_rank, owed_below, pieces_of, takes_found, below_all}

abbrev pub granted : (piece extra : ℕ) → Granted
granted b c = record { piece = record { 0 = b }; extra = record { 0 = c } }

-- who takes part: everyone, or all but kind 1
abbrev pub among : (fractions : Bool) → Entry → Bool
among fractions e = fractions || not (is_kind 1 e)

abbrev pub sharing : (E L W : ℕ) (fractions : Bool) → Sharing
sharing E L W fractions = record { capacity = record { 0 = E }; remains = record { 0 = L }; weight = W; fractions = fractions }

abbrev pub sharing_among : (fractions : Bool) → Table → Sharing
sharing_among fractions t =
    let F = t.frame in
    let es = held_of t in
    sharing (capacity F es) (remains F es) (weight (among fractions) (step_b F es) es) fractions

abbrev pub sharing_of : Table → Sharing
sharing_of t = sharing_among (extras_pass t.frame (held_of t)) t

-- what an entry gets beside the entries ps
abbrev pub grant_of : Sharing → List Entry → Entry → Granted
grant_of s ps e =
    let b = takes s.capacity.0 ps e in
    granted b (extra s.remains.0 s.weight (cond (among s.fractions e) (headroom e b) 0))

-- ---- place by place
-- the slots of step B
abbrev pieces_in : Table → List ℕ
pieces_in t = map (takes (capacity t.frame (held_of t)) t.entries) t.entries

pub extra_none : (L W : ℕ) → extra L W 0 ≡ 0
extra_none L W = omega (arith, extra_le L W 0)

abbrev pub no_shares : Shares
no_shares = record { grants = replicate places (granted 0 0) }

abbrev pub shares_among : (fractions : Bool) → Table → Shares
shares_among fractions t = record { grants = map (grant_of (sharing_among fractions t) t.entries) t.entries }

-- those of steps B and C
abbrev pub shares_of : Table → Shares
shares_of t = shares_among (extras_pass t.frame (held_of t)) t

-- what the shares have for a place
abbrev pub grant_at : Shares → ℕ → Granted
grant_at s i = get_or s.grants i (granted 0 0)

-- is what its entry gets
pub grant_among : (fractions : Bool) (t : Table) {s : Shares} → s ≡ shares_among fractions t → (i : ℕ) → i < length t.entries
    → grant_at s i ≡ grant_of (sharing_among fractions t) t.entries (get_or t.entries i free_entry)
grant_among fractions t e i h = ap (λ x. grant_at x i) e ∙ map_at _ t.entries i free_entry (granted 0 0) h

pub grant_found : (t : Table) {s : Shares} → s ≡ shares_of t → (i : ℕ) → i < length t.entries
    → grant_at s i ≡ grant_of (sharing_of t) t.entries (get_or t.entries i free_entry)
grant_found t = grant_among (extras_pass t.frame (held_of t)) t

-- what a program finds of a table's queue
module _ (t : Table) (w : Tidy t) {q : Queue} (k : Queued t q) where
  capacity_found : {c : ℕ} → c ≡ room_in t.frame - q.load → c ≡ capacity t.frame (held_of t)
  capacity_found e = e ∙ ap (λ n. room_in t.frame - n) k.load

  pieces_found : {c : ℕ} {ps : List ℕ} → c ≡ capacity t.frame (held_of t) → ps ≡ pieces_of c (ranks_in q.claims) (owed_in q.claims)
      → ps ≡ pieces_in t
  pieces_found {c} e p = takes_found t w k c p ∙ ap (λ n. map (takes n t.entries) t.entries) e

  pub remains_found : {c o L : ℕ} → c ≡ capacity t.frame (held_of t)
      → o ≡ owed_below no_rank (ranks_in q.claims) (owed_in q.claims) → L ≡ c - o → L ≡ remains t.frame (held_of t)
  remains_found e p r =
      omega (arith, remains_places t w, p ∙ ap₂ (owed_below no_rank) k.ranks k.owed ∙ below_all t w)

-- ---- by the numbers of a queue
-- what each place may get of a sharing: nothing where it takes no part, and kind 1 is who has more than one job
abbrev pub piece_limit : (jobs limit : ℕ) → ℕ
piece_limit m d = cond (ltb m 2) d 0

abbrev pub limits_among : (fractions : Bool) → (jobs limits : List ℕ) → List ℕ
limits_among fractions jobs limits = cond fractions limits (zip piece_limit jobs limits)

pub limits_sized : (fractions : Bool) (jobs limits : List ℕ) → length jobs ≡ length limits → length (limits_among fractions jobs limits) ≡ length limits
limits_sized true jobs limits e = refl
limits_sized false jobs limits e = omega (arith, length_zip piece_limit jobs limits)

pub limits_spare : (fractions : Bool) (n : ℕ) (jobs limits : List ℕ) → Spare 0 n limits → Spare 0 n (limits_among fractions jobs limits)
limits_spare true n jobs limits h = h
limits_spare false n jobs limits h = zip_spare piece_limit (λ m. cond_zero (ltb m 2)) n jobs limits h

abbrev pub rooms_by : (limits pieces : List ℕ) → List ℕ
rooms_by limits pieces = zip (λ p d. d - p) pieces limits

abbrev pub weight_by : (jobs rooms : List ℕ) → ℕ
weight_by jobs rooms = sum_of (λ v. v) (zip (λ m d. m * d) jobs rooms)

-- what each place gets, for L and W
abbrev pub grants_by : (L W : ℕ) (limits pieces : List ℕ) → List Granted
grants_by L W limits pieces = zip (λ p d. granted p (extra L W (d - p))) pieces limits

-- where nothing is taken and nothing may be had, nothing is got
pub grants_spare : (L W n : ℕ) (limits pieces : List ℕ) → Spare 0 n limits → Spare 0 n pieces → Spare (granted 0 0) n (grants_by L W limits pieces)
unfolding zip
grants_spare L W zero ds [] h k = stop
grants_spare L W zero [] (p ∷ ps) h k = stop
grants_spare L W zero (d ∷ ds) (p ∷ ps) (and e h) (and f k) =
    and (ap₂ (λ x y. granted x (extra L W (y - x))) f e ∙ ap (granted 0) (extra_none L W)) (grants_spare L W zero ds ps h k)
grants_spare L W (suc n) ds [] h k = stop
grants_spare L W (suc n) [] (p ∷ ps) h k = stop
grants_spare L W (suc n) (d ∷ ds) (p ∷ ps) h k = grants_spare L W n ds ps h k

abbrev pub shares_by : Frame → (fractions : Bool) → Queue → Shares
shares_by F fractions q =
    let E = room_in F - q.load in
    let ks = ranks_in q.claims in
    let os = owed_in q.claims in
    let ms = jobs_of q.claims in
    let L = E - owed_below no_rank ks os in
    let ps = pieces_of E ks os in
    let ds = limits_among fractions ms (limits_in q.claims) in
    record { grants = grants_by L (weight_by ms (rooms_by ds ps)) ds ps }

named_held : (e : Entry) → name_in_range e.name ≡ true → is_held e ≡ true
named_held e h = ap not (in_range_some e.name h)

-- the limits of those that take part
limits_among_lem : (fractions : Bool) (t : Table) → Tidy t
    → limits_among fractions (map jobs_in t.entries) (map limit_of t.entries) ≡ map (λ e. cond (among fractions e) (limit_of e) 0) t.entries
limits_among_lem true t w = refl
limits_among_lem false t w =
    zip_map piece_limit jobs_in limit_of t.entries
    ∙ map_ext (λ e. piece_limit (jobs_in e) (limit_of e)) (λ e. cond (among false e) (limit_of e) 0)
    (by_kind t w (λ e. piece_limit (jobs_in e) (limit_of e) ≡ cond (among false e) (limit_of e) 0) refl
    (λ e f. ap (λ b. cond b (limit_of e) 0) (many e f))
    (λ e p k. ap (λ b. cond b (limit_of e) 0) (one e p))
    (λ e p k. ap (λ b. cond b (limit_of e) 0) (one e p)))
  where
    many : (e : Entry) → Fraction t.frame e → ltb (jobs_in e) 2 ≡ not (is_kind 1 e)
    many e f =
        let k = eq-eqb e.kind 1 f.kind in
        ap (λ b. ltb (cond b (job_count e) 0) 2) (named_held e f.name)
        ∙ ap (λ b. ltb (cond b e.parts 1) 2) k ∙ le-ltb e.parts 2 f.parts_least ∙ sym (ap not k)

    one : (e : Entry) → Piece t.frame e → ltb (jobs_in e) 2 ≡ not (is_kind 1 e)
    one e p =
        let k = not_fraction e p.kind in
        ap (λ b. ltb (cond b (job_count e) 0) 2) (named_held e p.name) ∙ ap (λ b. ltb (cond b e.parts 1) 2) k ∙ sym (ap not k)

module _ (fractions : Bool) (t : Table) (w : Tidy t) where
  abbrev piece : Entry → ℕ
  piece = takes (capacity t.frame (held_of t)) t.entries

  -- what each may get of the sharing, before its slots of step B and after
  abbrev limit : Entry → ℕ
  limit e = cond (among fractions e) (limit_of e) 0

  abbrev room : Entry → ℕ
  room e = share_in t w (among fractions) e

  -- kind 1 has no slots of step B
  room_right : All (λ e. limit e - piece e ≡ room e) t.entries
  room_right =
      all_map (λ e h. cut e (among fractions e) h)
      (by_kind t w (λ e. limit_of e - piece e ≡ headroom e (piece e)) (omega arith)
      (λ e f. omega (
        arith,
        headroom_fraction e 0 f.kind,
        headroom_fraction e (piece e) f.kind,
        f.owed,
        takes_owed (capacity t.frame (held_of t)) t.entries e,
      ))
      (λ e p k. omega (arith, headroom_whole e 0 k, headroom_whole e (piece e) k))
      (λ e p k. omega (arith, headroom_transfer e 0 k, headroom_transfer e (piece e) k)))
    where
      cut : (e : Entry) (b : Bool) → limit_of e - piece e ≡ headroom e (piece e)
          → cond b (limit_of e) 0 - piece e ≡ cond b (headroom e (piece e)) 0
      cut e true h = h
      cut e false h = omega arith

  rooms_right : rooms_by (map limit t.entries) (pieces_in t) ≡ map room t.entries
  rooms_right = zip_map (λ p d. d - p) piece limit t.entries ∙ map_ext _ _ room_right

  grants_places : (L W : ℕ) → grants_by L W (map limit t.entries) (pieces_in t)
      ≡ map (λ e. granted (piece e) (extra L W (room e))) t.entries
  grants_places L W =
      zip_map (λ p d. granted p (extra L W (d - p))) piece limit t.entries
      ∙ map_ext _ _ (all_map (λ e r. ap (λ d. granted (piece e) (extra L W d)) r) room_right)

  weight_right : weight_by (map jobs_in t.entries) (map room t.entries) ≡ weight (among fractions) (step_b t.frame (held_of t)) (held_of t)
  weight_right =
      ap (sum_of (λ v. v)) (zip_map (λ m d. m * d) jobs_in room t.entries)
      ∙ sum_map (λ v. v) (λ e. jobs_in e * room e) t.entries
      ∙ sum_ext _ (λ e. job_count e * room e) (all_map one w.entries) ∙ sym (weight_places t w (among fractions))
    where
      -- a free place gets nothing
      one : (e : Entry) → (e ≡ free_entry) ⊎ Held t.frame e → jobs_in e * room e ≡ job_count e * room e
      one e (inl z) =
          let none = cond_zero (among fractions free_entry) in
          rw z (ap (λ v. 0 * v) none ∙ sym (ap (λ v. 1 * v) none))
      one e (inr h) = ap (λ b. cond b (job_count e) 0 * room e) (held_is h)

  -- for a table's queue they are the table's shares
  pub shares_right : {q : Queue} → Queued t q → shares_by t.frame fractions q ≡ shares_among fractions t
  shares_right {q} k =
      let es : List Entry = held_of t in
      let E : room_in t.frame - q.load ≡ capacity t.frame es = capacity_found t w k refl in
      let ps : pieces_of (room_in t.frame - q.load) (ranks_in q.claims) (owed_in q.claims) ≡ pieces_in t = pieces_found t w k E refl in
      let ls : limits_among fractions (jobs_of q.claims) (limits_in q.claims) ≡ map limit t.entries =
      ap₂ (limits_among fractions) k.jobs k.limits ∙ limits_among_lem fractions t w in
      let ds = ap₂ rooms_by ls ps ∙ rooms_right in
      let W = ap₂ weight_by k.jobs ds ∙ weight_right in
      let L = remains_found t w k E refl refl in
      ap (λ gs. record { grants = gs })
      (ap₂
      (λ l v. grants_by l v (limits_among fractions (jobs_of q.claims) (limits_in q.claims))
      (pieces_of (room_in t.frame - q.load) (ranks_in q.claims) (owed_in q.claims))) L W
      ∙ ap₂ (grants_by (remains t.frame es) (weight (among fractions) (step_b t.frame es) es)) ls ps
      ∙ grants_places (remains t.frame es) (weight (among fractions) (step_b t.frame es) es))

pub grants_right : (t : Table) → Tidy t → (let F = t.frame in let es = held_of t in
    All (λ e. grant_of (sharing_of t) t.entries e ≡ granted (step_b_of F es e) (step_c_of F es e)) es)
grants_right t w = all_zip (λ e b c. sym (ap₂ granted b c)) (takes_held t w) (extra_held t w)
