-- Laws of bytes in lent memory: some written after others, byte by byte, and a number digit by digit. Assumes nothing.
use Rattle.std.specs.Prelude.{◌≡◌, refl, Bool, false, List, [], ◌∷◌, ◌++◌, map, ℕ, suc, ◌+◌, ◌≤◌, ◌<◌, leb, take, set, get_or}
use Rattle.std.proofs.Common.{sym, subst, ◌∙◌, ⊎_elim, append_assoc, append-nil, take-append-drop, drop_of_length-le, length-take-le, take_all, take_at, le-leb, leb-true, leb-false}
use Rattle.std.proofs.Math.Path.{ap, ap₂}
use native.Mathlib.Omega.{arith}
use Rattle.std.proofs.Math.ListN.{length, drop, length-append}
use Rattle.std.proofs.Math.Seq.{drop-append-add, drop-drop}
use Rattle.std.proofs.lemmas.List.{set_split}
use Rattle.std.proofs.lemmas.Bool.{lt-leb}
use Rattle.spec_lists.specs.Lists.{cons_if, keep}
use Rattle.base_lists.specs.Tests.{either}
use Rattle.base_lists.specs.Loops.{left_next}
use Rattle.spec_shelf.specs.Bytes.{tens, digit_at, decimal, written, number_most}
use Rattle.row_write.specs.Powers.{decimal_most}

-- ---- bytes in lent memory
module _ (out : List ℕ) (at : ℕ) (a : List ℕ) where
  -- what stands before the bytes, and they
  abbrev front : List ℕ
  front = take at out ++ a

  front_length : at ≤ length out → length front ≡ at + length a
  front_length h = length-append (take at out) a ∙ ap (λ n. n + length a) (length-take-le at out h)

  then_inside : (b : List ℕ) → at ≤ length out → written (written out at a) (at + length a) b ≡ written out at (a ++ b)
  unfolding written
  then_inside b h =
      let n = at + length a in
      let rest = drop n out in
      let e : length front ≡ n = front_length h in
      let k : n + length b ≡ length front + length b = omega arith in
      let s : n + length b ≡ at + length (a ++ b) = omega (arith, length-append a b) in
      ap₂ (λ p q. p ++ b ++ q) (take_at front rest n e)
      (ap (λ m. drop m (front ++ rest)) k ∙ drop-append-add front rest (length b) ∙ drop-drop (length b) n out ∙ ap (λ m. drop m out) s)
      ∙ ap (λ p. p ++ drop (at + length (a ++ b)) out) (append_assoc (take at out) a b)

-- past the end, what is written is joined on
written_past : (out : List ℕ) (at : ℕ) (a : List ℕ) → length out ≤ at → written out at a ≡ out ++ a
unfolding written
written_past out at a h =
    ap₂ (λ p q. p ++ a ++ q) (take_all at out h) (drop_of_length-le out {i = at + length a} (omega arith)) ∙ append-nil (out ++ a)

-- bytes, and others after them, are both
pub written_then : (out : List ℕ) (at : ℕ) (a b : List ℕ) → written (written out at a) (at + length a) b ≡ written out at (a ++ b)
written_then out at a b = ⊎_elim (λ e. then_inside out at a b (leb-true at (length out) e)) past (either (leb at (length out)))
  where
    past : leb at (length out) ≡ false → written (written out at a) (at + length a) b ≡ written out at (a ++ b)
    past e =
        let l : length out ≤ at = omega (arith, leb-false at (length out) e) in
        ap (λ o. written o (at + length a) b) (written_past out at a l)
        ∙ written_past (out ++ a) (at + length a) b (omega (arith, length-append out a))
        ∙ append_assoc out a b
        ∙ sym (written_past out at (a ++ b) l)

-- nothing is written
pub written_none : (out : List ℕ) (at : ℕ) → written out at [] ≡ out
unfolding written
written_none out at =
    let z : at + 0 ≡ at = omega arith in
    ap₂ ◌++◌ (append-nil (take at out)) (ap (λ n. drop n out) z) ∙ take-append-drop at out

-- ---- the memory after some bytes at a place are written, and the place after them
pub record Wrote (out : List ℕ) (at : ℕ) (bytes after : List ℕ) (next : ℕ) : Type 0 where
  pub place : next ≡ at + length bytes
  pub memory : after ≡ written out at bytes

pub wrote : {out bytes after : List ℕ} {at next : ℕ} → (next ≡ at + length bytes) × (after ≡ written out at bytes)
    → Wrote out at bytes after next
wrote (p, q) = record { place = p; memory = q }

pub contract : {out bytes after : List ℕ} {at next : ℕ} → Wrote out at bytes after next
    → (next ≡ at + length bytes) × (after ≡ written out at bytes)
contract w = (w.place, w.memory)

-- a store of one byte
pub wrote_byte : (out : List ℕ) (at b : ℕ) → at < length out → Wrote out at (b ∷ []) (set out at b) (at + 1)
unfolding written
wrote_byte out at b h =
    let z : suc at ≡ at + 1 = omega arith in
    record {
      place = refl;
      memory = set_split out at b h ∙ ap (λ n. take at out ++ b ∷ drop n out) z ∙ sym (append_assoc (take at out) (b ∷ []) _);
    }

-- some bytes, then others
pub wrote_then : {out a mid b last : List ℕ} {at next end : ℕ} → Wrote out at a mid next → Wrote mid next b last end
    → Wrote out at (a ++ b) last end
wrote_then {out} {a} {b = b} {at = at} v w =
    record {
      place = omega (arith, length-append a b, v.place, w.place);
      memory = w.memory ∙ ap₂ (λ o n. written o n b) v.memory v.place ∙ written_then out at a b;
    }

-- of some bytes and others the first are written, and the others are left
pub wrote_rest : {out a mid b last : List ℕ} {at next end : ℕ} → Wrote out at (a ++ b) last end → Wrote out at a mid next
    → Wrote mid next b last end
wrote_rest {out} {a} {b = b} {at = at} w v =
    record {
      place = omega (arith, length-append a b, v.place, w.place);
      memory = w.memory ∙ sym (written_then out at a b) ∙ sym (ap₂ (λ o n. written o n b) v.memory v.place);
    }

-- nothing is left
pub wrote_all : {out last : List ℕ} {at end : ℕ} → Wrote out at [] last end → (at ≡ end) × (out ≡ last)
wrote_all {out} {at = at} w = (omega (arith, w.place), sym (w.memory ∙ written_none out at))

-- a rule for `omega`: where a field has been printed, its number has at most ten digits
pub field_most : (out after : List ℕ) (at n : ℕ) → after ≡ written out at (44 ∷ decimal n) → length (decimal n) ≤ number_most
field_most out after at n e = decimal_most n

-- ---- the loop that copies bytes: those from i on are left
abbrev pub BytesLeft : (out : List ℕ) (at : ℕ) (bytes : List ℕ) (i : ℕ) (last : List ℕ) (end : ℕ) → Type 0
BytesLeft out at bytes i last end = Wrote out (at + i) (drop i bytes) last end

module _ (out : List ℕ) (at : ℕ) (bytes : List ℕ) where
  pub bytes_begin : BytesLeft out at bytes 0 (written out at bytes) (at + length bytes)
  bytes_begin =
      let z : at ≡ at + 0 = omega arith in
      record { place = omega arith; memory = ap (λ n. written out n bytes) z }

  pub bytes_next : (i : ℕ) {last : List ℕ} {end : ℕ} → at + i < length out → i < length bytes → BytesLeft out at bytes i last end
      → BytesLeft (set out (at + i) (get_or bytes i 0)) at bytes (i + 1) last end
  bytes_next i {last} {end} h l w =
      let e : at + i + 1 ≡ at + (i + 1) = omega arith in
      subst (λ n. Wrote (set out (at + i) (get_or bytes i 0)) n (drop (i + 1) bytes) last end) e
      (wrote_rest {a = get_or bytes i 0 ∷ []} (rw (left_next bytes i 0 l) at w) (wrote_byte out (at + i) (get_or bytes i 0) h))

-- ---- the loop over the table: the digits are left at the powers from i on that are at most bound
abbrev pub digits_left : (n bound i : ℕ) → List ℕ
digits_left n bound i = map (digit_at n) (keep (λ p. leb p bound) (drop i tens))

module _ (n bound i : ℕ) (h : i < length tens) where
  digits_left_lem : {b : Bool} → leb (get_or tens i 0) bound ≡ b
      → digits_left n bound i ≡ map (digit_at n) (cons_if b (get_or tens i 0) (keep (λ p. leb p bound) (drop (i + 1) tens)))
  digits_left_lem e =
      ap (λ ps. map (digit_at n) (keep (λ p. leb p bound) ps)) (left_next tens i 0 h)
      ∙ ap (λ b. map (digit_at n) (cons_if b (get_or tens i 0) (keep (λ p. leb p bound) (drop (i + 1) tens)))) e

  pub digit_next : {out last : List ℕ} {at end : ℕ} → at < length out → get_or tens i 0 ≤ bound → Wrote out at (digits_left n bound i) last end
      → Wrote (set out at (digit_at n (get_or tens i 0))) (at + 1) (digits_left n bound (i + 1)) last end
  digit_next {out} {at = at} k l w =
      let p = get_or tens i 0 in
      wrote_rest {a = digit_at n p ∷ []} (rw (digits_left_lem (le-leb p bound l)) at w) (wrote_byte out at (digit_at n p) k)

  pub digit_none : {out last : List ℕ} {at end : ℕ} → bound < get_or tens i 0 → Wrote out at (digits_left n bound i) last end
      → Wrote out at (digits_left n bound (i + 1)) last end
  digit_none l w = rw (digits_left_lem (lt-leb (get_or tens i 0) bound l)) at w
