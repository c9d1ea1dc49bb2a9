-- A window looks at the plan's records alone: the words after them change neither its answer nor its part. Assumes nothing.
use Rattle.std.specs.Prelude.{ℕ, ◌*◌, ◌-◌, ◌≤◌, ◌≡◌, List, [], ◌++◌, map, eqb, take, drop}
use Rattle.std.proofs.Math.Path.{refl}
use Rattle.std.proofs.Common.{sym, ap, ◌∙◌, ⊎_elim, append-nil, arith, length-drop}
use Rattle.std.proofs.Math.ListN.{length, length-append}
use Rattle.std.proofs.lemmas.List.{take-append-le, drop-append-le}
use borrow.Author.Tests.{le-ltb, eqb-true}
use Rattle.base_lists.specs.Tests.{either}
use Rattle.spec_rules.specs.Slots.{Run}
use Rattle.spec_rules.specs.Records.{record_words, words_of, records_of}
use Rattle.spec_rules.specs.Reading.{starts_of, window_answer, window_part}
use Rattle.law_model.specs.Records.{length_words, records_back}
use Rattle.plan_window.specs.Laws.{window_ends}

starts_alone : (rs : List Run) (ws : List ℕ) → starts_of (length rs) (words_of rs ++ ws) ≡ starts_of (length rs) (words_of rs)
unfolding starts_of
starts_alone rs ws =
    ap (map (λ (r : Run). r.start))
    (records_back rs ws ∙ sym (ap (records_of (length rs)) (sym (append-nil (words_of rs))) ∙ records_back rs []))

module _ (rs : List Run) (ws : List ℕ) (from until : ℕ) where
  pub answer_alone : window_answer (words_of rs ++ ws) (length rs) from until ≡ window_answer (words_of rs) (length rs) from until
  unfolding window_answer
  answer_alone =
      let l = length_words rs in
      let m = length-append (words_of rs) ws in
      let n = record_words * length rs in
      rw (starts_alone rs ws, le-ltb (length (words_of rs ++ ws)) n (omega arith), le-ltb (length (words_of rs)) n (omega arith))

  -- the records from a on to before b
  records_alone : {a b : ℕ} → (a ≤ b) × (record_words * b ≤ length (words_of rs))
      → take (record_words * (b - a)) (drop (record_words * a) (words_of rs ++ ws))
      ≡ take (record_words * (b - a)) (drop (record_words * a) (words_of rs))
  records_alone {a} {b} h =
      let i = record_words * a in
      let n = record_words * (b - a) in
      let l = length-drop i (words_of rs) in
      ap (take n) (drop-append-le i (words_of rs) ws (omega arith)) ∙ take-append-le n (drop i (words_of rs)) ws (omega arith)

  pub part_alone : window_part (words_of rs ++ ws) (length rs) from until ≡ window_part (words_of rs) (length rs) from until
  unfolding window_part
  part_alone =
      rw (answer_alone, starts_alone rs ws)
      (⊎_elim
      (λ e. rw e (records_alone (window_ends _ _ from until (eqb-true _ _ e) refl refl)))
      (λ e. rw e)
      (either (eqb (window_answer (words_of rs) (length rs) from until) 0)))
