-- The words of a record, and records read back from them. No other file opens these definitions. Assumes nothing.
use Rattle.std.specs.Prelude.{◌≡◌, refl, List, [], ◌∷◌, ◌++◌, ℕ, zero, suc, ◌+◌, ◌*◌, ◌<◌, length, drop, get_or}
use Rattle.std.proofs.Common.{sym, ap, ap₂, ◌∙◌, append_assoc, arith, length-append, drop-drop}
use Rattle.spec_rules.specs.Slots.{Run}
use Rattle.spec_rules.specs.Records.{record_words, words_of_run, record_at, words_of, records_of}

pub run_words : (r : Run) → length (words_of_run r) ≡ record_words
unfolding words_of_run
run_words r = refl

-- after a record's words it is read back, and the words behind it are left
pub record_back : (r : Run) (ws : List ℕ) → record_at (words_of_run r ++ ws) ≡ r
unfolding words_of_run record_at
record_back r ws = refl

pub drop_record : (r : Run) (ws : List ℕ) → drop record_words (words_of_run r ++ ws) ≡ ws
unfolding words_of_run
drop_record r ws = refl

-- ---- the words of a plan
pub length_words : (rs : List Run) → length (words_of rs) ≡ record_words * length rs
unfolding words_of
length_words [] = refl
length_words (r ∷ rs) = length-append (words_of_run r) (words_of rs) ∙ omega (arith, run_words r, length_words rs)

pub words_append : (xs ys : List Run) → words_of (xs ++ ys) ≡ words_of xs ++ words_of ys
unfolding words_of
words_append [] ys = refl
words_append (x ∷ xs) ys = ap (λ ws. words_of_run x ++ ws) (words_append xs ys) ∙ sym (append_assoc (words_of_run x) (words_of xs) (words_of ys))

-- the records of a plan's words, whatever stands behind them
pub records_back : (rs : List Run) (ws : List ℕ) → records_of (length rs) (words_of rs ++ ws) ≡ rs
unfolding records_of words_of
records_back [] ws = refl
records_back (r ∷ rs) ws =
    ap (λ l. record_at l ∷ records_of (length rs) (drop record_words l)) (append_assoc (words_of_run r) (words_of rs) ws)
    ∙ ap₂ ◌∷◌ (record_back r (words_of rs ++ ws))
    (ap (records_of (length rs)) (drop_record r (words_of rs ++ ws)) ∙ records_back rs ws)

-- ---- records read from any words
pub records_length : (n : ℕ) (ws : List ℕ) → length (records_of n ws) ≡ n
unfolding records_of
records_length zero ws = refl
records_length (suc n) ws = ap suc (records_length n (drop record_words ws))

pub records_at : (n i : ℕ) (ws : List ℕ) (d : Run) → i < n → get_or (records_of n ws) i d ≡ record_at (drop (record_words * i) ws)
unfolding records_of
records_at zero i ws d h = absurd (omega arith)
records_at (suc n) zero ws d h = refl
records_at (suc n) (suc i) ws d h =
    records_at n i (drop record_words ws) d (omega arith) ∙ ap record_at (drop-drop (record_words * i) record_words ws ∙ ap (λ k. drop k ws) more)
  where
    more : record_words + record_words * i ≡ record_words * suc i
    more = omega arith
