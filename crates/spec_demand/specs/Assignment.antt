-- Assignments of the coming slots: document 01, "What a list of calls gives", with no regard to looking ahead; document 02, No. 1. Assumes
-- nothing.
use Rattle.std.specs.Prelude.{◌≡◌, Bool, false, ℕ, ◌<◌}
use Rattle.std.proofs.Math.Option.{Option, none, some}
use Rattle.spec_lists.specs.Lists.{one_if, span}
use Rattle.spec_model.specs.Frames.{header_in}
use Rattle.spec_model.specs.Names.{same}
use Rattle.spec_model.specs.declared.Frame.{Frame}
use Rattle.spec_model.specs.declared.Name.{Name}

-- each slot of each interval to come, counted from 0, goes to at most one request
abbrev pub Assignment : Type 0
Assignment = ℕ → ℕ → Option Name

abbrev pub is_to : Name → Option Name → Bool
is_to n none = false
is_to n (some x) = same x n

-- the slots from x up to y of coming interval k that go to request n
unfoldable pub assigned : Assignment → Name → (k x y : ℕ) → ℕ
assigned a n k x y = span (λ z. one_if (is_to n (a k z))) x y

-- the header of each coming interval is left free
abbrev pub LeavesHeader : Frame → Assignment → Type 0
LeavesHeader F a = (k x : ℕ) → x < header_in F → a k x ≡ none
