-- The places passed and the first of the later ones that holds the name come to the first of all. Assumes nothing.
use mathlib.Core.Path.{◌≡◌}
use Prim.Native.Nat.{◌+◌, ◌≤◌}
use lib.ListN.{drop, length}
use Rattle.base_lists.specs.First.{first_of}
use Rattle.table_places.specs.Search.{is_held_as}
use Rattle.table_places.proofs.place_of.Given as goal

abbrev pub invariant-loop-place : goal.invariant-loop-place
invariant-loop-place l =
    (l.place ≤ length l.entries) × (l.place + first_of (is_held_as l.name) (drop l.place l.entries) ≡ first_of (is_held_as l.name) l.entries)
