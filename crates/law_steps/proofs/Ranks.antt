-- An entry's place in the order of step B as one number: the lower comes sooner. Kind 1 has no intervals left, so all of kind 1 come
-- before all pieces, by name: the same number serves the tie rules of step D. Assumes nothing.
use Rattle.std.specs.Prelude.{◌≡◌, ◌+◌, ◌*◌, ◌≤◌, ◌<◌, ltb}
use Rattle.std.proofs.Common.{ap, inl, inr, arith, ltb-true, lt-ltb}
use Rattle.std.proofs.Math.Decide.{ℕ_discrete}
use Rattle.base_lists.specs.Tests.{same_test}
use Rattle.spec_model.specs.declared.Entry.{Entry}
use Rattle.spec_model.specs.declared.Frame.{Frame}
use Rattle.spec_model.specs.Names.{name_rank, name_room}
use Rattle.spec_model.specs.Entries.{free_entry}
use Rattle.spec_rules.specs.Share.{sooner}
use Rattle.spec_rules.specs.WellFormed.{Held}
use Rattle.law_model.specs.Names.{rank_room, lower_rank, rank_lower, rank_same, rank_nobody}
use Rattle.law_steps.proofs.Held.{held_kinds}
use Rattle.law_steps.specs.Order.{Before, by_left, by_kind, by_name}
use Rattle.law_steps.proofs.Order.{before_sooner, sooner_before}
use Rattle.law_steps.specs.Ranks.{rank, Ranked, rank_interval, rank_most}

name_room_lem : {e : Entry} → Ranked e → name_rank e.name < name_room
name_room_lem {e} r = rank_room e.name r.name

pub held_ranked : {F : Frame} {e : Entry} → Held F e → Ranked e
held_ranked h =
    elim (held_kinds h) [
      | inl f ↦ record { kind = omega (arith, f.kind); name = h.name }
      | inr p ↦ record { kind = elim p.kind [ inl k ↦ omega arith | inr k ↦ omega arith ]; name = h.name }
    ]

-- with no more intervals left than a life may have
pub rank_most_lem : {e : Entry} → Ranked e → e.left.0 ≤ 65535 → rank e ≤ rank_most
rank_most_lem r h = omega (arith, r.kind, name_room_lem r)

pub held_rank : {F : Frame} {e : Entry} → Held F e → rank e ≤ rank_most
held_rank h = elim (held_kinds h) [
  | inl f ↦ rank_most_lem (held_ranked h) (omega (arith, f.left))
  | inr p ↦ rank_most_lem (held_ranked h) (omega (arith, p.short, p.period_most))
]

module _ {e f : Entry} (p : Ranked e) (q : Ranked f) where
  before_rank : Before e f → rank e < rank f
  before_rank (by_left x) = omega (arith, p.kind, name_room_lem p)
  before_rank (by_kind l x) = omega (arith, name_room_lem p)
  before_rank (by_name l k x) = omega (arith, lower_rank e.name f.name p.name q.name x)

  rank_before : rank e < rank f → Before e f
  rank_before h =
      elim (ℕ_discrete e.left.0 f.left.0) [
        | no a ↦ by_left (omega (arith, q.kind, name_room_lem q))
        | yes a ↦ elim (ℕ_discrete e.kind f.kind) [
          | no b ↦ by_kind a (omega (arith, name_room_lem q))
          | yes b ↦ by_name a b (rank_lower e.name f.name p.name q.name (omega arith))
        ]
      ]

  pub rank_sooner : sooner e f ≡ ltb (rank e) (rank f)
  rank_sooner =
      same_test (sooner e f) (ltb (rank e) (rank f))
      (λ h. lt-ltb (rank e) (rank f) (before_rank (sooner_before e f h)))
      (λ h. before_sooner e f (rank_before (ltb-true (rank e) (rank f) h)))

  -- one rank, one name
  pub rank_name : rank e ≡ rank f → e.name ≡ f.name
  rank_name h = rank_same e.name f.name p.name q.name (omega (arith, name_room_lem p, name_room_lem q))

-- ---- what else is known of ranks, so that no other file opens them
pub rank_free : rank free_entry ≡ 0
rank_free = omega (arith, rank_nobody)

-- of one name and kind, at different times
pub rank_left : (e f : Entry) → e.name ≡ f.name → e.kind ≡ f.kind
    → rank e + f.left.0 * rank_interval ≡ rank f + e.left.0 * rank_interval
rank_left e f n k = omega (arith, ap name_rank n)
