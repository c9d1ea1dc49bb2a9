-- What an entry takes of every interval. No other file opens the definition. Assumes nothing.
use Rattle.std.specs.Prelude.{◌≡◌, refl, Bool, true, false, cond, ℕ, ◌*◌, ◌≤◌}
use Rattle.std.proofs.Common.{zero-le, le_refl}
use Rattle.spec_model.specs.Entries.{free_entry, is_kind, asks}
use Rattle.spec_model.specs.declared.Entry.{Entry}
use Rattle.spec_rules.specs.Share.{load_of}
use Rattle.spec_rules.specs.Ahead.{standing}

-- ---- by kind
pub load_of_fraction : (e : Entry) → is_kind 1 e ≡ true → load_of e ≡ e.parts * asks e
unfolding load_of
load_of_fraction e k = rw k

-- nothing of any other
pub load_of_none : (e : Entry) → is_kind 1 e ≡ false → load_of e ≡ 0
unfolding load_of
load_of_none e k = rw k

pub load_of_free : load_of free_entry ≡ 0
load_of_free = load_of_none free_entry refl

pub load_of_most : (e : Entry) → load_of e ≤ e.parts * asks e
unfolding load_of
load_of_most e = go (is_kind 1 e)
  where
    go : (b : Bool) → cond b (e.parts * asks e) 0 ≤ e.parts * asks e
    go true = le_refl _
    go false = zero-le

-- ---- the same at every time
pub load_of_standing : (e : Entry) (lives owed given left : ℕ) → load_of (standing e lives owed given left) ≡ load_of e
unfolding load_of
load_of_standing e lives owed given left = refl
