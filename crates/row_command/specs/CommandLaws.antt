-- A command is its verb with its numbers. Assumes nothing.
use Rattle.std.specs.Prelude.{◌≡◌, Bool, true, false, cond, List, ℕ, ◌≤◌, ◌<◌, length, take, drop, Option, Some, None}
use Rattle.std.proofs.Common.{sym, le-leb}
use Rattle.std.proofs.Math.Logic.{⊎_elim}
use Rattle.std.proofs.lemmas.Bool.{lt-leb}
use Rattle.spec_lists.specs.Lists.{same_list}
use Rattle.base_lists.specs.Tests.{same_list_lem, either}
use Rattle.spec_text.specs.declared.Field.{Field}
use Rattle.spec_text.specs.Fields.{has_fields, numbers_of}
use Rattle.spec_text.specs.Rows.{row_most}
use Rattle.row_fields.specs.FieldLaws.{to_comma, fields_after, fields_first, part, part_rest}
use Rattle.row_fields.specs.FieldReads.{fields_read}
use Rattle.spec_shelf.specs.Commands.{command_of, from_fields, called, open_verb, offer_verb, withdraw_verb, beacon_verb}
use Rattle.row_command.specs.Reads.{verb_of, form_of, asked}
use Rattle.spec_shelf.specs.declared.Command.{Command}
use Rattle.spec_shelf.specs.declared.Command.TheVariants.{OtherForm}
use Rattle.row_command.specs.declared.Verb.{Verb}

-- the verb with its numbers, where both are there
abbrev pub asked_if : Option Verb → List (List ℕ) → Command
asked_if None fs = OtherForm
asked_if (Some v) fs = cond (has_fields (form_of v) fs) (asked v (numbers_of (form_of v) fs)) OtherForm

none_called : (v : List ℕ) (fs : List (List ℕ)) → same_list v open_verb ≡ false → same_list v offer_verb ≡ false
    → same_list v withdraw_verb ≡ false → same_list v beacon_verb ≡ false → called v fs ≡ asked_if (verb_of v) fs
unfolding called verb_of
none_called v fs a b d e = rw (a, b, d, e)

called_asked : (v : List ℕ) (fs : List (List ℕ)) → called v fs ≡ asked_if (verb_of v) fs
unfolding called verb_of
called_asked v fs =
    ⊎_elim (λ t. rw (same_list_lem v open_verb t)) (λ a.
    ⊎_elim (λ t. rw (same_list_lem v offer_verb t)) (λ b.
    ⊎_elim (λ t. rw (same_list_lem v withdraw_verb t)) (λ d.
    ⊎_elim (λ t. rw (same_list_lem v beacon_verb t)) (λ e. none_called v fs a b d e)
    (either (same_list v beacon_verb)))
    (either (same_list v withdraw_verb)))
    (either (same_list v offer_verb)))
    (either (same_list v open_verb))

-- a verb with what is read of its numbers
abbrev pub with_numbers : Verb → Option (List ℕ) → Command
with_numbers v None = OtherForm
with_numbers v (Some ns) = asked v ns

-- ---- a row by what is read of it
module _ (row : List ℕ) where
  pub row_long : row_most < length row → OtherForm ≡ command_of row
  unfolding command_of
  row_long h = rw (lt-leb (length row) row_most h)

  module _ {end : ℕ} {o : Option Verb} (h : length row ≤ row_most) (e : end ≡ to_comma row) (f : o ≡ verb_of (take end row)) where
    verb_read : asked_if o (fields_after (part end (length row) row)) ≡ command_of row
    unfolding command_of from_fields
    verb_read = rw (le-leb (length row) row_most h, fields_first row, ← e, f, part_rest) (sym (called_asked (take end row) (fields_after (drop end row))))

    -- of an unknown verb, whatever its fields are
    pub row_unknown : o ≡ None → OtherForm ≡ command_of row
    row_unknown u = rw u at verb_read

    -- of the fields that are read by a verb's form
    pub row_read : (v : Verb) {form : List Field} {ns : Option (List ℕ)} → o ≡ Some v → form ≡ form_of v
        → ns ≡ fields_read form (fields_after (part end (length row) row)) → with_numbers v ns ≡ command_of row
    unfolding fields_read
    row_read v q g k = rw (k, g) (go (has_fields (form_of v) (fields_after (part end (length row) row))) (rw q at verb_read))
      where
        go : (t : Bool) {c : Command} → cond t (asked v (numbers_of (form_of v) (fields_after (part end (length row) row)))) OtherForm ≡ c
            → with_numbers v (cond t (Some (numbers_of (form_of v) (fields_after (part end (length row) row)))) None) ≡ c
        go true e = e
        go false e = e
