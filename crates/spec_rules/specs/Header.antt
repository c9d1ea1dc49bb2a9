-- The test that a header asks of kind 1: document 02, No. 1. Slots 0 to h-1 are never given, so the jobs due by a period's end t have the
-- slots from h to t-1. What each job of an entry needs is given by a function. Assumes nothing.
use Rattle.std.specs.Prelude.{ℕ, zero, suc, ◌+◌, ◌*◌, ◌/◌, Bool, cond, not, List, [], ◌∷◌, ltb}
use Rattle.spec_lists.specs.Lists.{sum_of, any_of}
use Rattle.spec_model.specs.Frames.{header_in, part_of}
use Rattle.spec_model.specs.Entries.{is_kind}
use Rattle.spec_model.specs.declared.Frame.{Frame}
use Rattle.spec_model.specs.declared.Entry.{Entry}

-- T, 2T, .., nT
unfoldable pub ends_of : (T n : ℕ) → List ℕ
ends_of T zero = []
ends_of T (suc n) = suc n * T ∷ ends_of T n

-- the period ends of an entry: m of them for kind 1
abbrev pub period_ends : Frame → Entry → List ℕ
period_ends F e = ends_of (part_of F e.parts) (cond (is_kind 1 e) e.parts 0)

-- what its kind 1 jobs due by t need
abbrev pub due_of : Frame → (need : Entry → ℕ) → (t : ℕ) → Entry → ℕ
due_of F need t e = cond (is_kind 1 e) (t / part_of F e.parts * need e) 0

-- those of all streams
unfoldable pub due_by : Frame → (need : Entry → ℕ) → List Entry → (t : ℕ) → ℕ
due_by F need es t = sum_of (due_of F need t) es

-- they are more than t - h
abbrev pub too_much : Frame → (need : Entry → ℕ) → List Entry → (t : ℕ) → Bool
too_much F need es t = ltb t (due_by F need es t + header_in F)

-- at no period end of kind 1 are they
unfoldable pub header_test : Frame → (need : Entry → ℕ) → List Entry → Bool
header_test F need es = not (any_of (λ (e : Entry). any_of (too_much F need es) (period_ends F e)) es)
