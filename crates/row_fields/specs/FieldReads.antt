-- What is read of one field and of all. Document 01, "Reading, lending, printing". Assumes nothing.
use Rattle.std.specs.Prelude.{ℕ, cond, List, Option, Some, None}
use Rattle.spec_text.specs.declared.Field.{Field}
use Rattle.spec_text.specs.Fields.{fits, has_fields, number_in, numbers_of}

-- the number of a field that is as it is asked for
unfoldable pub field_read : Field → List ℕ → Option ℕ
field_read k f = cond (fits k f) (Some (number_in k f)) None

-- those of all, where each is as the form asks for it
unfoldable pub fields_read : List Field → List (List ℕ) → Option (List ℕ)
fields_read ks fs = cond (has_fields ks fs) (Some (numbers_of ks fs)) None
