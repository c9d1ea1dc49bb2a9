-- Where a table in memory has its parts, by name: what stands before its entries, and the entries, one behind the other. The numbers of
-- bytes are read off the declared types, so that a word more in an entry, or before the entries, changes no line of a walk. Assumes nothing.
use Prim.Native.Nat.{ℕ, ◌+◌, ◌*◌, ◌<◌, ◌^◌}
use native.Mathlib.Omega.{arith}
use mathlib.Core.Option.{Option, none, some}
use mir.Syntax.{Ty}
use prog.Memory.{size, field_of}
use denote.Index.{place as spot}
use Rattle.spec_model.proofs.Entry.TheLaws as N'
use Rattle.spec_model.proofs.Table.TheLaws as T'
use Rattle.spec_model.specs.Tables.{places}

-- which of a table's fields has its entries
abbrev pub entries_field : ℕ
entries_field = 1

abbrev begins : Option (Ty × ℕ) → ℕ
begins none = 0
begins (some f) = f.1

-- the bytes before the first entry, and those of an entry
abbrev pub head_bytes : ℕ
head_bytes = begins (field_of T'.mir entries_field)

abbrev pub entry_bytes : ℕ
entry_bytes = size N'.mir

-- where the entries of a table at the offset o begin, and where that of place i lies
abbrev pub first_offset : ℕ → ℕ
first_offset o = o + head_bytes

abbrev pub entry_offset : ℕ → ℕ → ℕ
entry_offset o i = spot entry_bytes (first_offset o) i

-- how far it is from the first entry to that of place i
abbrev pub offset_bytes : ℕ → ℕ
offset_bytes i = i * entry_bytes

pub offset_fits : {i : ℕ} → i < places → offset_bytes i < 2 ^ 64
offset_fits h = omega arith
