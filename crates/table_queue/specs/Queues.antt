-- Step B by numbers: what is owed at lower ranks is served before. For a tidy table these are its slots of step B, place by place.
-- Assumes nothing.
use Rattle.std.specs.Prelude.{◌≡◌, ◌⊎◌, Bool, true, false, cond, List, map, ℕ, ◌-◌, ◌≤◌, ◌<◌, min, ltb, length, get_or}
use Rattle.std.proofs.Common.{sym, ap, ap₂, ◌∙◌, inl, inr, zero-le, le_refl, arith, lt-ltb}
use Rattle.spec_lists.specs.Lists.{sum_of}
use Rattle.spec_lists.specs.All.{All}
use Rattle.base_lists.specs.Tests.{cond_zero, clash}
use Rattle.base_lists.specs.All.{all_at, all_map, all_of_map, map_ext}
use Rattle.base_lists.specs.Sums.{sum_ext, sum_map}
use Rattle.base_lists.specs.Spare.{Spare, spare_map}
use Rattle.spec_model.specs.Entries.{free_entry, is_held, is_piece}
use Rattle.spec_model.specs.declared.Entry.{Entry}
use Rattle.spec_model.specs.declared.Table.{Table}
use Rattle.spec_model.specs.declared.Frame.{Frame}
use Rattle.spec_model.specs.Tables.{places, held_of}
use Rattle.spec_rules.specs.Share.{load, job_count, sooner}
use Rattle.spec_rules.specs.WellFormed.{Held, Tidy}
use Rattle.law_steps.specs.Held.{Fraction, Piece}
use Rattle.law_steps.proofs.Held.{held_kinds, piece_of_lem, fraction_not, held_is}
use Rattle.law_steps.specs.StepB.{owed_before}
use Rattle.law_steps.specs.Closed.{takes}
use Rattle.law_steps.proofs.Closed.{by_kind}
use Rattle.law_steps.specs.Ranks.{rank}
use Rattle.law_steps.proofs.Ranks.{rank_sooner, held_ranked, held_rank}
use Rattle.table_entry.specs.Amounts.{owed_to, limit_of, jobs_in}
use Rattle.table_queue.specs.Zips.{zip, zip_map}
use Rattle.table_queue.specs.Claims.{ranks_in, owed_in, limits_in, jobs_of}
use Rattle.table_queue.specs.declared.Queue.{Queue}

-- the largest number of 32 bits; that of 64, which is nobody's rank
abbrev pub largest32 : ℕ
largest32 = 4294967295

abbrev pub no_rank : ℕ
no_rank = 18446744073709551615

-- from place n on all are free
abbrev pub Used : ℕ → Table → Type 0
Used n t = (n ≤ places) × Spare free_entry n t.entries

-- a place that is not held is free
pub free_place : (t : Table) → Tidy t → (i : ℕ) (d : Entry) → i < length t.entries → is_held (get_or t.entries i d) ≡ false
    → get_or t.entries i d ≡ free_entry
free_place t w i d h z = elim (all_at _ t.entries d w.entries i h) [
  | inl q ↦ q
  | inr k ↦ absurd (clash (is_held (get_or t.entries i d)) (held_is k) z)
]

-- what is owed at lower ranks than r
abbrev pub owed_below : (r : ℕ) (ranks owed : List ℕ) → ℕ
owed_below r ranks owed = sum_of (λ v. v) (zip (λ k o. cond (ltb k r) o 0) ranks owed)

-- of the capacity c, where o is owed at rank k
abbrev pub piece_of : (c : ℕ) (ranks owed : List ℕ) (k o : ℕ) → ℕ
piece_of c ranks owed k o = min o (c - owed_below k ranks owed)

abbrev pub pieces_of : (c : ℕ) (ranks owed : List ℕ) → List ℕ
pieces_of c ranks owed = zip (piece_of c ranks owed) ranks owed

-- the queue of a table
pub record Queued (t : Table) (q : Queue) : Type 0 where
  pub used : Used q.used t
  pub load : q.load ≡ load (held_of t)
  pub ranks : ranks_in q.claims ≡ map rank t.entries
  pub owed : owed_in q.claims ≡ map owed_to t.entries
  pub limits : limits_in q.claims ≡ map limit_of t.entries
  pub jobs : jobs_of q.claims ≡ map jobs_in t.entries

queued_spare : {t : Table} {q : Queue} → Queued t q → (q.used ≤ places) × Spare 0 q.used (owed_in q.claims)
queued_spare {t} {q} w = (w.used.0, rw w.owed (spare_map free_entry owed_to q.used t.entries w.used.1))

-- no entry has more than sixteen jobs
pub jobs_few : (t : Table) → Tidy t → All (λ e. job_count e ≤ 16) t.entries
jobs_few t w =
    by_kind t w (λ e. job_count e ≤ 16) (omega arith) (λ e f. rw f.kind f.parts_most) (λ e p k. rw k (omega arith))
    (λ e p k. rw k (omega arith))

jobs_most : (e : Entry) → jobs_in e ≤ job_count e
jobs_most e = go (is_held e)
  where
    go : (b : Bool) → cond b (job_count e) 0 ≤ job_count e
    go true = le_refl (job_count e)
    go false = zero-le

-- what the sharing of an interval asks of a queue
pub record Bounded (q : Queue) : Type 0 where
  pub used : q.used ≤ places
  pub owed : Spare 0 q.used (owed_in q.claims)
  pub limits : Spare 0 q.used (limits_in q.claims)
  pub jobs : All (λ m. m ≤ 16) (jobs_of q.claims)

pub queued_bounded : {t : Table} {q : Queue} → Tidy t → Queued t q → Bounded q
queued_bounded {t} {q} w k =
    record {
      used = k.used.0;
      owed = (queued_spare k).1;
      limits = rw k.limits (spare_map free_entry limit_of q.used t.entries k.used.1);
      jobs = rw k.jobs (all_of_map jobs_in (all_map (λ e h. omega (arith, h, jobs_most e)) (jobs_few t w)));
    }

-- ---- a table's queue
below_sum : (r : ℕ) (es : List Entry) → owed_below r (map rank es) (map owed_to es) ≡ sum_of (λ e. cond (ltb (rank e) r) (owed_to e) 0) es
below_sum r es = ap (sum_of (λ v. v)) (zip_map _ rank owed_to es) ∙ sum_map (λ v. v) _ es

-- below nobody's rank are all
pub below_all : (t : Table) → Tidy t
    → owed_below no_rank (map rank t.entries) (map owed_to t.entries) ≡ sum_of owed_to t.entries
below_all t w = below_sum no_rank t.entries ∙ sum_ext _ owed_to (all_map one w.entries)
  where
    one : (e : Entry) → (e ≡ free_entry) ⊎ Held t.frame e → cond (ltb (rank e) no_rank) (owed_to e) 0 ≡ owed_to e
    one e (inl z) = rw z (cond_zero (ltb (rank free_entry) no_rank))
    one e (inr h) =
        ap (λ b. cond b (owed_to e) 0) (lt-ltb (rank e) no_rank (omega (arith, held_rank h)))

-- beside a piece e
module _ {F : Frame} (e : Entry) (h : Held F e) where
  one : (f : Entry) → (f ≡ free_entry) ⊎ Held F f
      → cond (ltb (rank f) (rank e)) (owed_to f) 0 ≡ cond (is_piece f) (cond (sooner f e) f.owed.0 0) 0
  one f (inl z) = rw z (cond_zero (ltb (rank free_entry) (rank e)))
  one f (inr k) = by (is_piece f)
    where
      by : (p : Bool) → cond (ltb (rank f) (rank e)) (cond p f.owed.0 0) 0 ≡ cond p (cond (sooner f e) f.owed.0 0) 0
      by true = ap (λ b. cond b f.owed.0 0) (sym (rank_sooner (held_ranked k) (held_ranked h)))
      by false = cond_zero (ltb (rank f) (rank e))

  below_before : {ps : List Entry} → All (λ f. (f ≡ free_entry) ⊎ Held F f) ps
      → owed_below (rank e) (map rank ps) (map owed_to ps) ≡ owed_before e ps
  below_before {ps} w = below_sum (rank e) ps ∙ sum_ext _ _ (all_map one w)

pub pieces_right : (t : Table) → Tidy t → (c : ℕ)
    → pieces_of c (map rank t.entries) (map owed_to t.entries) ≡ map (takes c t.entries) t.entries
unfolding takes
pieces_right t w c =
    zip_map (piece_of c (map rank t.entries) (map owed_to t.entries)) rank owed_to t.entries
    ∙ map_ext _ _ (all_map each w.entries)
  where
    each : (e : Entry) → (e ≡ free_entry) ⊎ Held t.frame e
        → piece_of c (map rank t.entries) (map owed_to t.entries) (rank e) (owed_to e)
        ≡ min e.owed.0 (c - owed_before e t.entries)
    each e (inl z) = omega (arith, ap owed_to z, ap (λ (x : Entry). x.owed.0) z)
    each e (inr h) = go (held_kinds h)
      where
        go : Fraction t.frame e ⊎ Piece t.frame e
            → piece_of c (map rank t.entries) (map owed_to t.entries) (rank e) (owed_to e)
            ≡ min e.owed.0 (c - owed_before e t.entries)
        go (inl f) = omega (arith, ap (λ b. cond b e.owed.0 0) (fraction_not e f.kind), f.owed)
        go (inr p) = ap₂ (λ a b. min a (c - b)) (ap (λ b. cond b e.owed.0 0) (piece_of_lem e p.kind)) (below_before e h w.entries)

-- what a program finds of a table's queue
pub takes_found : (t : Table) → Tidy t → {q : Queue} → Queued t q → (c : ℕ) {ps : List ℕ} → ps ≡ pieces_of c (ranks_in q.claims) (owed_in q.claims)
    → ps ≡ map (takes c t.entries) t.entries
takes_found t w k c p = p ∙ ap₂ (pieces_of c) k.ranks k.owed ∙ pieces_right t w c
