-- What an even share of every interval takes of one interval: for an entry, by its kind, and for a table's places together, where it is
-- enough if an interval has as much. Assumes nothing.
use Rattle.std.specs.Prelude.{◌≡◌, refl, true, List, [], ◌∷◌, ℕ, ◌+◌, ◌*◌, ◌≤◌, max}
use Rattle.std.proofs.Common.{ap, ap₂, ◌∙◌, le_trans, mul-le-mul, arith}
use Rattle.spec_lists.specs.Lists.{sum_of}
use Rattle.base_lists.specs.Sums.{sum_keep_le}
use Rattle.spec_model.specs.Entries.{free_entry, is_held}
use Rattle.spec_model.specs.declared.Entry.{Entry}
use Rattle.spec_model.specs.declared.Table.{Table}
use Rattle.spec_model.specs.Tables.{held_of}
use Rattle.spec_model.specs.Frames.{room_in}
use Rattle.spec_rules.specs.Share.{load, load_of}
use Rattle.spec_rules.specs.WellFormed.{Tidy}
use Rattle.law_model.specs.Loads.{load_of_free, load_of_most}
use Rattle.law_steps.proofs.Places.{load_places}
use Rattle.law_ahead.proofs.Tables.{tidy_together}
use Rattle.law_ahead.specs.KeepsUp.{keeps_up_ahead}
use Rattle.law_ahead.specs.Even.{evenly}
use Rattle.law_ahead.proofs.Even.{even_ahead}
use Rattle.table_queue.specs.Queues.{largest32}

-- its load, and what serves a piece evenly up to its deadline
unfoldable pub even_need : Entry → ℕ
even_need e = load_of e + evenly e

-- ---- by kind: only a piece is to be served
pub evenly_free : evenly free_entry ≡ 0
unfolding evenly
evenly_free = refl

pub need_free : even_need free_entry ≡ 0
unfolding even_need
need_free = ap₂ (λ a b. a + b) load_of_free evenly_free

pub evenly_fraction : (e : Entry) → e.kind ≡ 1 → evenly e ≡ 0
unfolding evenly
evenly_fraction e k = rw k refl

-- of numbers of 32 bits it has 64, with room for another number of 32
pub load_fits : (e : Entry) → e.parts ≤ largest32 → e.min.0 ≤ largest32 → load_of e ≤ largest32 * largest32
load_fits e h k = le_trans (load_of_most e) (mul-le-mul h k)

-- ---- the larger of two
pub larger_right : (a b : ℕ) → a ≤ b → b ≡ max a b
larger_right a b h = omega arith

pub larger_left : (a b : ℕ) → b ≤ a → a ≡ max a b
larger_left a b h = omega arith

-- ---- a table's places
-- the load, and what serves the pieces
needs_apart : (es : List Entry) → sum_of even_need es ≡ load es + sum_of evenly es
unfolding even_need load
needs_apart [] = refl
needs_apart (e ∷ es) = omega (arith, needs_apart es)

pub needs_places : (t : Table) → Tidy t → sum_of even_need t.entries ≡ load (held_of t) + sum_of evenly t.entries
needs_places t w = needs_apart t.entries ∙ ap (λ n. n + sum_of evenly t.entries) (load_places t w)

-- an interval has as much: looking ahead says yes
pub even_enough : (t : Table) → Tidy t → sum_of even_need t.entries ≤ room_in t.frame → keeps_up_ahead t.frame (held_of t) ≡ true
even_enough t w h =
    even_ahead t.frame (held_of t) (tidy_together w)
    (omega (arith, needs_places t w, sum_keep_le evenly is_held t.entries))
