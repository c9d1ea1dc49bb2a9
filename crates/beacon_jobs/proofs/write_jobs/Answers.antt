-- `beacon_jobs::write_jobs` meets its contract: each turn makes a row, and the plan of the rows is the table's. Assumes nothing.
use Rattle.std.proofs.Common.{◌≡◌, sym, ap, subst, ◌∙◌, ◌++◌, map, List, take, set, ◌+◌, ℕ, ◌*◌, ◌≤◌, ◌<◌, length, length-set, length-take, length-take-le, take_all, drop, get_or, arith}
use Rattle.std.proofs.lemmas.List.{take-map, take_more, take_more_set, map-append}
use Rattle.std.proofs.lemmas.Simd.{map-map}
use Rattle.spec_lists.specs.All.{All}
use Rattle.base_lists.specs.All.{all_at, all_take}
use Rattle.spec_model.specs.Entries.{free_entry}
use Rattle.spec_model.specs.Tables.{places}
use Rattle.spec_model.specs.declared.Table.{Table}
use Rattle.spec_rules.specs.Records.{record_words, words_of}
use Rattle.spec_rules.specs.WellFormed.{Tidy}
use Rattle.spec_rules.specs.Calls.{plan_of}
use Rattle.spec_model.specs.Frames.{slots_in, header_in}
use Rattle.beacon_plan.specs.declared.JobRow.{JobRow}
use Rattle.beacon_plan.specs.Rows.{Rows, row_plan}
use Rattle.beacon_plan.specs.Needs.{names_of, lengths_of, needs_of, Few}
use Rattle.law_model.specs.Frames.{header_less}
use Rattle.law_steps.specs.Ranks.{rank, rank_most}
use Rattle.table_queue.specs.Queues.{Queued}
use Rattle.table_queue.specs.declared.Queue.{Queue}
use Rattle.table_queue.specs.declared.Claim.{Claim}
use Rattle.table_queue.specs.Claims.{ranks_in}
use Rattle.beacon_share.specs.Shares.{shares_of, grant_at, sharing_of, grant_of, grant_found}
use Rattle.beacon_share.specs.declared.Shares.{Shares}
use Rattle.beacon_order.specs.Listed.{order_of}
use Rattle.beacon_order.proofs.TiePlaces.{ranks_most}
use Rattle.beacon_order.proofs.InUse.{order_used}
use Rattle.beacon_order.specs.declared.Order.{Order}
use Rattle.beacon_jobs.specs.Needs.{row_by, row_in, Narrow}
use Rattle.beacon_jobs.specs.Limits.{narrow_places}
use Rattle.beacon_jobs.specs.Listing.{Listed, entry_at}
use Rattle.beacon_jobs.specs.JobRows.{order_listed, rows_made}
use Rattle.beacon_jobs.proofs.write_jobs.Goals as goal

module _ (t : Table) {q : Queue} (w : Tidy t × Queued t q) (size : length q.claims ≡ places) {o : Order}
    (e : o ≡ order_of (ranks_in (take q.used q.claims)) (length (take q.used q.claims))) where
  -- the order is that of the table's ranks
  order : o ≡ order_of (map rank t.entries) q.used
  order = e ∙ order_used q.claims q.used (omega (arith, w.1.used.0)) ∙ ap (λ rs. order_of rs q.used) w.1.ranks

  lists : Listed o
  lists = order_listed t w.0 w.1.used order

  -- row k reads a place of the table
  listed_inside : (k : ℕ) → k < length (take o.count o.places) → get_or (take o.count o.places) k 0 < places
  listed_inside k h = all_at (λ p. p < places) (take o.count o.places) 0 lists.each k h

-- what the entry of a place gets, and that its needs have 32 bits
module _ (t : Table) (all : length t.entries ≡ places) (i : ℕ) (h : i < places) where
  got : {s : Shares} → s ≡ shares_of t → grant_at s i ≡ grant_of (sharing_of t) t.entries (entry_at t i)
  got e = grant_found t e i (omega arith)

  narrow : Tidy t → Narrow (sharing_of t) t.entries (entry_at t i)
  narrow w = all_at (Narrow (sharing_of t) t.entries) t.entries free_entry (narrow_places t w) i (omega arith)

-- where the first k rows are made, and another is: they are those of the first places
module _ {A : Type 0} (f : ℕ → A) (ps : List ℕ) (xs : List A) (k : ℕ) where
  one_more : k < length xs → k < length ps → take k xs ≡ map f (take k ps) → {x : A} → x ≡ f (get_or ps k 0)
      → take (k + 1) (set xs k x) ≡ map f (take (k + 1) ps)
  one_more h l e g = rw (take_more_set xs k _ h, e, g, take_more ps k 0 l, map-append)

pub ordered-o-requires : goal.ordered-o-requires
ordered-o-requires c =
    let r = c.requires.tidy in
    let q = c.args.q in
    let low = all_take q.used (subst (All (λ r. r ≤ rank_most)) (sym r.1.ranks) (ranks_most c.args.t r.0)) in
    (omega (arith, length-take q.used q.claims, r.1.used.0), subst (All (λ r. r ≤ rank_most)) (take-map (λ (x : Claim). x.rank) q.used q.claims) low)

pub offset_bounds-t-i : goal.offset_bounds-t-i
offset_bounds-t-i c =
    omega (arith, listed_inside c.args.t c.requires.tidy (omega arith) c.ordered-o.ensures c.loop-k.k c.loop-k-test.true)

pub bounds-t-i : goal.bounds-t-i
bounds-t-i c = listed_inside c.args.t c.requires.tidy (omega arith) c.ordered-o.ensures c.loop-k.k c.loop-k-test.true

pub offset_bounds-s-i : goal.offset_bounds-s-i
offset_bounds-s-i c =
    omega (arith, listed_inside c.args.t c.requires.tidy (omega arith) c.ordered-o.ensures c.loop-k.k c.loop-k-test.true)

pub bounds-s-i : goal.bounds-s-i
bounds-s-i c = listed_inside c.args.t c.requires.tidy (omega arith) c.ordered-o.ensures c.loop-k.k c.loop-k-test.true

pub row_of-requires : goal.row_of-requires
row_of-requires c =
    let t = c.args.t in
    let i = get_or (take c.ordered-o.result.count c.ordered-o.result.places) c.loop-k.k 0 in
    let h = listed_inside t c.requires.tidy (omega arith) c.ordered-o.ensures c.loop-k.k c.loop-k-test.true in
    let all : length t.entries ≡ places = omega arith in
    rw (got t all i h c.requires.s_value) (narrow t all i h c.requires.tidy.0)

pub loop-k-preserved : goal.loop-k-preserved
loop-k-preserved c =
    let t = c.args.t in
    let o = c.ordered-o.result in
    let listed = take o.count o.places in
    let i = get_or listed c.loop-k.k 0 in
    let h = listed_inside t c.requires.tidy (omega arith) c.ordered-o.ensures c.loop-k.k c.loop-k-test.true in
    let all : length t.entries ≡ places = omega arith in
    let w = lists t c.requires.tidy (omega arith) c.ordered-o.ensures in
    record {
      sized = length-set c.loop-k.rows c.loop-k.k c.row_of.result ∙ c.loop-k.invariant.sized;
      made = one_more (λ p. row_in t.frame (sharing_of t) t.entries (entry_at t p)) listed c.loop-k.rows c.loop-k.k (omega (arith, w.few, length-take-le o.count o.places w.room)) c.loop-k-test.true
          c.loop-k.invariant.made
          (c.row_of.ensures ∙ ap (λ g. row_by t.frame g (entry_at t i)) (got t all i h c.requires.s_value));
    }

-- all rows are made
module _ (t : Table) {q : Queue} (w : Tidy t × Queued t q) (size : length q.claims ≡ places) {o : Order}
    (e : o ≡ order_of (ranks_in (take q.used q.claims)) (length (take q.used q.claims))) (k : ℕ) (rs : List JobRow) where
  all_made : length (take o.count o.places) ≡ k
      → take k rs ≡ map (λ p. row_in t.frame (sharing_of t) t.entries (entry_at t p)) (take k (take o.count o.places))
      → let made = take (length (take o.count o.places)) rs in
      Rows (slots_in t.frame) (names_of made) (lengths_of made) (needs_of made)
      × (Few made × (row_plan (slots_in t.frame) (header_in t.frame) (names_of made) (lengths_of made) (needs_of made) ≡ plan_of t))
  all_made z m =
      let l : length (take o.count o.places) ≤ k = omega arith in
      rows_made t w.0 w.1.used (order t w size e)
      (rw (z, m, take_all k (take o.count o.places) l) (sym (map-map (row_in t.frame (sharing_of t) t.entries) (entry_at t) (take o.count o.places))))

pub write_plan-requires-clause-rows : goal.write_plan-requires-clause-rows
write_plan-requires-clause-rows c =
    let r = c.requires.tidy in
    let made = all_made c.args.t r (omega arith) c.ordered-o.ensures c.loop-k.k c.loop-k.rows (omega arith) c.loop-k.invariant.made in
    (made.0, (c.requires.plan_words_in_bounds, omega (arith, header_less r.0.setting)))

pub write_plan-requires-clause-few : goal.write_plan-requires-clause-few
write_plan-requires-clause-few c = (all_made c.args.t c.requires.tidy (omega arith) c.ordered-o.ensures c.loop-k.k c.loop-k.rows (omega arith) c.loop-k.invariant.made).1.0

pub returns : goal.returns
returns c =
    let plan = (all_made c.args.t c.requires.tidy (omega arith) c.ordered-o.ensures c.loop-k.k c.loop-k.rows (omega arith) c.loop-k.invariant.made).1.1 in
    let e = c.write_plan.ensures in
    (e.0 ∙ ap length plan, e.1.1 ∙ ap (λ rs. words_of rs ++ drop (record_words * c.write_plan.result) c.args.plan.now) plan)
