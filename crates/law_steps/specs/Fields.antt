-- What the checks of an offer's fields, refusals 12 to 15, say of a request: it passes them exactly where its fields are in the
-- ranges of its kind, which stand here as plain facts. Assumes nothing.
use Rattle.std.specs.Prelude.{◌≡◌, ℕ, suc, ◌*◌, ◌≤◌}
use Rattle.spec_model.specs.declared.Request.{Request}
use Rattle.spec_model.specs.declared.Frame.{Frame}
use Rattle.spec_model.specs.Frames.{slots_in, part_of}

-- kind 1: the period field is m, the number of parts of the interval
pub record FractionFields (F : Frame) (q : Request) : Type 0 where
  pub kind : q.kind ≡ 1
  pub parts_least : 2 ≤ q.period
  pub parts_most : q.period ≤ 16
  pub whole : part_of F q.period * q.period ≡ slots_in F
  pub min_least : 1 ≤ q.min
  pub least : q.min ≤ q.max
  pub most : q.max ≤ part_of F q.period
  pub life_least : 1 ≤ q.life
  pub life_most : q.life ≤ 65535

-- kind 2: the life is a whole number of periods
pub record WholeFields (F : Frame) (q : Request) : Type 0 where
  pub kind : q.kind ≡ 2
  pub period_least : 1 ≤ q.period
  pub period_most : q.period ≤ 255
  pub min_least : 1 ≤ q.min
  pub least : q.min ≤ q.max
  pub most : q.max ≤ q.period * slots_in F
  pub life_least : 1 ≤ q.life
  pub life_most : q.life ≤ 65535
  pub count : ℕ
  pub life_whole : q.life ≡ suc count * q.period

-- kind 3: the period field is the deadline, the minimum the amount
pub record TransferFields (q : Request) : Type 0 where
  pub kind : q.kind ≡ 3
  pub period_least : 1 ≤ q.period
  pub period_most : q.period ≤ 65535
  pub min_least : 1 ≤ q.min
  pub max_none : q.max ≡ 0
  pub life_once : q.life ≡ q.period

pub data Fields (F : Frame) (q : Request) : Type 0 where
  fraction : FractionFields F q → Fields F q
  whole : WholeFields F q → Fields F q
  transfer : TransferFields q → Fields F q
