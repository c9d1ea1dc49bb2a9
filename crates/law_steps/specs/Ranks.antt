-- An entry's place in the order of step B as one number: the lower comes sooner. Kind 1 has no intervals left, so all of kind 1 come
-- before all pieces, by name: the same number serves the tie rules of step D. Assumes nothing.
use Rattle.std.specs.Prelude.{◌≡◌, true, ℕ, ◌+◌, ◌*◌, ◌-◌, ◌≤◌}
use Rattle.spec_model.specs.declared.Entry.{Entry}
use Rattle.spec_model.specs.Names.{name_rank, name_room, name_in_range}

abbrev pub kind_room : ℕ
kind_room = 4

-- intervals left, then kind, then the name, each with room for its largest value
abbrev pub rank : Entry → ℕ
rank e = (e.left.0 * kind_room + e.kind) * name_room + name_rank e.name

-- a kind and a name that keep to their room
pub record Ranked (e : Entry) : Type 0 where
  pub kind : e.kind ≤ 3
  pub name : name_in_range e.name ≡ true

-- one interval more
abbrev pub rank_interval : ℕ
rank_interval = kind_room * name_room

-- the largest: 65,535 intervals left, kind 3, and the largest name
abbrev pub rank_most : ℕ
rank_most = (65535 * kind_room + 3) * name_room + (name_room - 1)
