-- What a held entry is, by kind, as plain facts of its own fields; the tests of kind; and that the entry of a request whose
-- fields pass the checks is held. Assumes nothing.
use Rattle.std.specs.Prelude.{◌≡◌, ◌⊎◌, true, ℕ, ◌+◌, ◌*◌, ◌-◌, ◌≤◌}
use Rattle.spec_model.specs.declared.Entry.{Entry}
use Rattle.spec_model.specs.Names.{name_in_range}
use Rattle.spec_model.specs.declared.Frame.{Frame}
use Rattle.spec_model.specs.Frames.{slots_in, part_of}

-- kind 1: it has a life, and no period of intervals
pub record Fraction (F : Frame) (e : Entry) : Type 0 where
  pub kind : e.kind ≡ 1
  pub name : name_in_range e.name ≡ true
  pub alive : 1 ≤ e.life_left.0
  pub life_left : e.life_left.0 ≤ e.life.0
  pub life_most : e.life.0 ≤ 65535
  pub parts_least : 2 ≤ e.parts
  pub parts_most : e.parts ≤ 16
  pub whole : part_of F e.parts * e.parts ≡ slots_in F
  pub min_least : 1 ≤ e.min.0
  pub least : e.min.0 ≤ e.max.0
  pub most : e.max.0 ≤ part_of F e.parts
  pub period : e.period.0 ≡ 0
  pub owed : e.owed.0 ≡ 0
  pub given : e.given.0 ≡ 0
  pub left : e.left.0 ≡ 0

-- kinds 2 and 3: the period that runs, those that follow it, and what is owed and was given in it
pub record Piece (F : Frame) (e : Entry) : Type 0 where
  pub kind : (e.kind ≡ 2) ⊎ (e.kind ≡ 3)
  pub name : name_in_range e.name ≡ true
  pub alive : 1 ≤ e.life_left.0
  pub life_left : e.life_left.0 ≤ e.life.0
  pub life_most : e.life.0 ≤ 65535
  pub parts : e.parts ≡ 0
  pub period_least : 1 ≤ e.period.0
  pub period_most : e.period.0 ≤ 65535
  pub ahead : 1 ≤ e.left.0
  pub short : e.left.0 ≤ e.period.0
  pub following : ℕ
  pub lives : e.life_left.0 ≡ e.left.0 + following * e.period.0
  pub once : e.kind ≡ 3 → following ≡ 0
  pub life_once : e.kind ≡ 3 → e.life.0 ≡ e.period.0
  pub owed : e.owed.0 ≡ e.min.0 - e.given.0
  pub min_least : 1 ≤ e.min.0
  pub period_whole : e.kind ≡ 2 → e.period.0 ≤ 255
  pub least : e.kind ≡ 2 → e.min.0 ≤ e.max.0
  pub most : e.kind ≡ 2 → e.max.0 ≤ e.period.0 * slots_in F
  pub given_whole : e.kind ≡ 2 → e.given.0 ≤ e.max.0
  pub given_transfer : e.kind ≡ 3 → e.given.0 ≤ e.min.0
