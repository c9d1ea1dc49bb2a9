-- Tables: their places, one that holds nothing (what stands where there is no table is one of no slots), what a table holds, one with other
-- entries, and one with an entry put at a place. Assumes nothing.
use Rattle.std.specs.Prelude.{ℕ, List, set, replicate}
use Rattle.spec_lists.specs.Lists.{keep}
use Rattle.spec_model.specs.Entries.{free_entry, is_held}
use Rattle.spec_model.specs.ByNumbers.{interval}
use Rattle.spec_model.specs.declared.Frame.{Frame}
use Rattle.spec_model.specs.declared.Entry.{Entry}
use Rattle.spec_model.specs.declared.Table.{Table}

-- the places of a table; the most requests that it may hold; what stands for no place
abbrev pub places : ℕ
places = 32

abbrev pub most_held : ℕ
most_held = places

abbrev pub no_place : ℕ
no_place = places

-- a table that holds nothing
abbrev pub none_held : Frame → Table
none_held F = record { frame = F; entries = replicate places free_entry }

abbrev pub no_table : Table
no_table = none_held (interval 0)

-- what a table holds
abbrev pub held_of : Table → List Entry
held_of t = keep is_held t.entries

-- a table with other entries
abbrev pub with_entries : Table → List Entry → Table
with_entries t ps = record { frame = t.frame; entries = ps }

-- one entry, at a place; past the last place nothing changes
abbrev pub put_in : Table → ℕ → Entry → Table
put_in t p e = with_entries t (set t.entries p e)
