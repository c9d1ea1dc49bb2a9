-- The fields of a row, and numbers. Document 01, "Reading, lending, printing": a number is 1 to 10 digits, at most 4,294,967,295; a
-- field that is not needed is empty. Assumes nothing.
use Rattle.std.specs.Prelude.{ℕ, ◌+◌, ◌*◌, ◌-◌, Bool, true, false, cond, ◌&&◌, ◌||◌, List, [], ◌∷◌, leb, eqb, length}
use Rattle.spec_lists.specs.Lists.{within}
use Rattle.spec_text.specs.Rows.{on_first}
use Rattle.spec_text.specs.declared.Field.{Field}
use Rattle.spec_text.specs.declared.Field.TheVariants.{Needed, MayBeEmpty, Empty}

abbrev pub comma : ℕ
comma = 44

-- what stands before, between and after the commas
unfoldable pub fields_of : List ℕ → List (List ℕ)
fields_of [] = [] ∷ []
fields_of (b ∷ bs) = let fs = fields_of bs in cond (eqb b comma) ([] ∷ fs) (on_first b fs)

-- ---- numbers
unfoldable pub all_digits : List ℕ → Bool
all_digits [] = true
all_digits (b ∷ bs) = within 48 57 b && all_digits bs

-- the number that digits go on to spell after v
unfoldable pub spelt : ℕ → List ℕ → ℕ
spelt v [] = v
spelt v (b ∷ bs) = spelt (10 * v + (b - 48)) bs

abbrev pub value_of : List ℕ → ℕ
value_of f = spelt 0 f

unfoldable pub is_number : List ℕ → Bool
is_number f = within 1 10 (length f) && (all_digits f && leb (value_of f) 4294967295)

unfoldable pub is_empty : List ℕ → Bool
is_empty [] = true
is_empty (b ∷ bs) = false

-- ---- the fields after the verb
-- how many there are
abbrev pub field_count : ℕ
field_count = 6

-- a field is as it is asked for
unfoldable pub fits : Field → List ℕ → Bool
fits Needed f = is_number f
fits (MayBeEmpty d) f = is_empty f || is_number f
fits Empty f = is_empty f

-- as many fields as a form has, each as the form asks for it
unfoldable pub has_fields : List Field → List (List ℕ) → Bool
has_fields [] [] = true
has_fields [] (f ∷ fs) = false
has_fields (k ∷ ks) [] = false
has_fields (k ∷ ks) (f ∷ fs) = fits k f && has_fields ks fs

-- the number of a field, where an empty one counts as d
unfoldable pub number_or : ℕ → List ℕ → ℕ
number_or d f = cond (is_empty f) d (value_of f)

abbrev pub number_in : Field → List ℕ → ℕ
number_in Needed f = value_of f
number_in (MayBeEmpty d) f = number_or d f
number_in Empty f = 0

-- the numbers of a row, field by field
unfoldable pub numbers_of : List Field → List (List ℕ) → List ℕ
numbers_of [] fs = []
numbers_of (k ∷ ks) [] = []
numbers_of (k ∷ ks) (f ∷ fs) = number_in k f ∷ numbers_of ks fs
