-- The words of a plan as records, each by its own words, and words that are all the same. Assumes nothing.
use Rattle.std.specs.Prelude.{ℕ, zero, suc, ◌+◌, ◌*◌, ◌/◌, ◌<◌, ◌≤◌, ◌≡◌, refl, List, [], ◌∷◌, ◌++◌, map, length, get_or, take, drop}
use Rattle.std.proofs.Common.{sym, ap, ap₂, ◌∙◌, append_assoc, arith, take-append-drop, length-append, length-take, length-drop, take_at, drop_at, drop-drop, get_or-take, get_or-drop}
use Rattle.std.proofs.lemmas.List.{length-map}
use Rattle.spec_rules.specs.Slots.{Run}
use Rattle.spec_rules.specs.Records.{record_words, words_of_run, words_of}
use Rattle.law_model.specs.Records.{run_words, drop_record, length_words}

-- ---- records
-- of these words the first n records, and all of them, each by its words
abbrev rows_of : ℕ → List ℕ → List (List ℕ)
rows_of zero ws = []
rows_of (suc n) ws = take record_words ws ∷ rows_of n (drop record_words ws)

abbrev pub rows : List ℕ → List (List ℕ)
rows ws = rows_of (length ws / record_words) ws

-- the records of a plan
abbrev pub records_in : List Run → List (List ℕ)
records_in rs = map words_of_run rs

abbrev pub Begins : List ℕ → List ℕ → Type 0
Begins ws first = take (length first) ws ≡ first

-- the words begin with these records
pub record Records (ws : List ℕ) (rs : List (List ℕ)) : Type 0 where
  pub room : record_words * length rs ≤ length ws
  pub row : (i : ℕ) → i < length rs → Begins (drop (record_words * i) ws) (get_or rs i [])

rows_first : (rs : List Run) → rows_of (length rs) (words_of rs) ≡ records_in rs
unfolding words_of
rows_first [] = refl
rows_first (r ∷ rs) =
    ap₂ ◌∷◌ (take_at (words_of_run r) (words_of rs) record_words (run_words r)) (ap (rows_of (length rs)) (drop_record r (words_of rs)) ∙ rows_first rs)

pub rows_all : (rs : List Run) {l : List ℕ} → words_of rs ≡ l → records_in rs ≡ rows l
rows_all rs {l} e =
    let n : length l / record_words ≡ length rs = omega (arith, ap length e, length_words rs) in
    sym (rows_first rs) ∙ ap (rows_of (length rs)) e ∙ ap (λ k. rows_of k l) (sym n)

row_at : (rs : List Run) (ws : List ℕ) (i : ℕ) → i < length rs
    → Begins (drop (record_words * i) (words_of rs ++ ws)) (get_or (records_in rs) i [])
unfolding words_of
row_at [] ws i h = absurd (omega arith)
row_at (r ∷ rs) ws zero h = rw (append_assoc (words_of_run r) (words_of rs) ws) (take_at (words_of_run r) (words_of rs ++ ws) _ refl)
row_at (r ∷ rs) ws (suc i) h =
    let e : record_words * suc i ≡ record_words + record_words * i = omega arith in
    let later = drop_record r (words_of rs ++ ws) in
    rw (e, append_assoc (words_of_run r) (words_of rs) ws, ← drop-drop (record_words * i) record_words (words_of_run r ++ (words_of rs ++ ws)), later)
    (row_at rs ws i (omega arith))

-- words that are a plan's and then others
module _ (rs : List Run) {ns : List (List ℕ)} (n : records_in rs ≡ ns) where
  pub row_count : length ns ≡ length rs
  row_count = ap length (sym n) ∙ length-map rs words_of_run

  pub plan_records : (ws : List ℕ) {l : List ℕ} → l ≡ words_of rs ++ ws → Records l ns
  plan_records ws e =
      record {
        room = omega (arith, row_count, ap length e, length-append (words_of rs) ws, length_words rs);
        row = λ i h. rw (e, ← n) (row_at rs ws i (omega (arith, row_count)));
      }

  pub plan_later : (ws : List ℕ) {l : List ℕ} → l ≡ words_of rs ++ drop (record_words * length ns) ws
      → drop (record_words * length ns) l ≡ drop (record_words * length ns) ws
  plan_later ws e =
      ap (drop (record_words * length ns)) e ∙ drop_at (words_of rs) _ (record_words * length ns) (omega (arith, row_count, length_words rs))

-- ---- the first n words are as they were
pub as_before : (n : ℕ) {ws part : List ℕ} → part ≡ take n ws → part ++ drop n ws ≡ ws
as_before n {ws} e = ap (◌++ drop n ws) e ∙ take-append-drop n ws

-- ---- the same word everywhere
abbrev pub Each : ℕ → List ℕ → Type 0
Each w ws = (i : ℕ) → i < length ws → get_or ws i 0 ≡ w

module _ {w : ℕ} (n : ℕ) (ws : List ℕ) (e : Each w ws) where
  pub each_take : Each w (take n ws)
  each_take i h =
      let k = rw length-take at h in
      get_or-take n ws i 0 (omega arith) ∙ e i (omega arith)

  pub each_drop : Each w (drop n ws)
  each_drop i h = let k = rw length-drop at h in get_or-drop n ws i 0 ∙ e (n + i) (omega arith)
