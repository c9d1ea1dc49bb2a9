-- Records written into words and read from them: one after those that are there, and lists of them one after the other. Beside the laws of
-- records this file alone opens a record's layout, for the code that stores its words. Assumes nothing.
use Rattle.std.specs.Prelude.{◌≡◌, List, [], ◌∷◌, ◌++◌, ℕ, suc, ◌+◌, ◌*◌, ◌≤◌, length, set, take, drop, get_or}
use Rattle.std.proofs.Common.{ap, ◌∙◌, append-nil, add-zero, arith, take-append-drop, take_at, drop-drop, get_or-drop}
use Rattle.std.proofs.lemmas.List.Edits.{sets-eq}
use Rattle.std.proofs.Math.Seq.{drop-append-add}
use Rattle.spec_rules.specs.Slots.{Run}
use Rattle.spec_rules.specs.Records.{record_words, words_of_run, record_at, words_of}
use Rattle.law_model.specs.Records.{length_words, words_append}
use Rattle.plan_record.specs.declared.Record.{Record}

abbrev pub run_of : Record → Run
run_of r = record { name = r.name; job = r.job; start = r.start.0; length = r.length.0 }

-- c records are there, rs come after them
unfoldable pub recorded : ℕ → List Run → List ℕ → List ℕ
recorded c rs old = take (record_words * c) old ++ words_of rs ++ drop (record_words * (c + length rs)) old

-- ---- by the words of a record, stored and read one by one
pub one_recorded : (l : List ℕ) (n : ℕ) (r : Record) → record_words * (n + 1) ≤ length l → (let i = record_words * n in
    set (set (set (set l (i + 0) r.name.stream) (i + 1) r.job) (i + 2) r.start.0) (i + 3) r.length.0
    ≡ recorded n (run_of r ∷ []) l)
unfolding recorded words_of words_of_run
one_recorded l n r h =
    let i : ℕ = record_words * n in
    let e₀ : i + 0 ≡ i = omega arith in
    let e₁ : i + 1 ≡ suc i = omega arith in
    let e₂ : i + 2 ≡ suc (suc i) = omega arith in
    let e₃ : i + 3 ≡ suc (suc (suc i)) = omega arith in
    let end : record_words * (n + 1) ≡ i + record_words = omega arith in
    rw (e₀, e₁, e₂, e₃, end) (sets-eq (r.name.stream ∷ r.job ∷ r.start.0 ∷ r.length.0 ∷ []) l i (omega arith))

pub one_read : (l : List ℕ) (i : ℕ) → record_at (drop i l)
    ≡ record { name = record { stream = get_or l (i + 0) 0 }; job = get_or l (i + 1) 0; start = get_or l (i + 2) 0; length = get_or l (i + 3) 0 }
unfolding record_at
one_read l i = rw (get_or-drop i l 0 0, get_or-drop i l 1 0, get_or-drop i l 2 0, get_or-drop i l 3 0)

-- ---- lists of records
pub recorded_none : (c : ℕ) (old : List ℕ) → recorded c [] old ≡ old
unfolding recorded words_of
recorded_none c old = rw (add-zero c, append-nil (take (record_words * c) old)) (take-append-drop (record_words * c) old)

-- records written after others
pub recorded_after : (old : List ℕ) (done rs : List Run) (c : ℕ) → length done ≡ c
    → recorded c rs (words_of done ++ drop (record_words * c) old) ≡ words_of (done ++ rs) ++ drop (record_words * (c + length rs)) old
unfolding recorded
recorded_after old done rs c h =
    let n : ℕ = record_words * c in
    let m : ℕ = record_words * length rs in
    let e : length (words_of done) ≡ n = omega (arith, length_words done) in
    let f : record_words * (c + length rs) ≡ length (words_of done) + m = omega arith in
    let g : n + m ≡ record_words * (c + length rs) = omega arith in
    let d : drop (record_words * (c + length rs)) (words_of done ++ drop n old) ≡ drop (record_words * (c + length rs)) old =
    ap (λ k. drop k (words_of done ++ drop n old)) f
    ∙ drop-append-add (words_of done) (drop n old) m
    ∙ drop-drop m n old
    ∙ ap (λ k. drop k old) g in
    rw (take_at (words_of done) (drop n old) n e, d, words_append done rs)
