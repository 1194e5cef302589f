-- Octets in hexadecimal: one octet more written or read, and that what is written is read back.
use mathlib.Core.Path.{◌≡◌, refl, sym, ap, ◌∙◌}
use mathlib.Core.Bool.{Bool, true, false}
use mathlib.Core.List.{List, [], ◌∷◌, ◌++◌, append_assoc, append-nil}
use Prim.Native.Nat.{ℕ, zero, suc, ◌+◌, ◌*◌, ◌/◌, ◌%◌, ◌≤◌, ◌<◌}
use native.Mathlib.Omega.{arith}
use native.Mathlib.Numerals.{add-one}
use lib.Dec.{ltb}
use lib.ListN.{length, get_or, set, take, drop, length-append, drop_of_length-le}
use lib.Seq.{drop-cons, take_all, take-length, take-suc-set, length-take-le, set_at}
use borrow.Author.Tests.{ltb-true, ltb-false, lt-ltb, le-leb, lt-leb, eq-eqb, ne_eqb}
use Rattle.primitives.specs.Octets.{Octets}
use Rattle.tokens.specs.Limits.{placed}
use Rattle.text.specs.Hex.{digit, digits, value, octet, are_digits, spells, octets_of, fitting, count, ReadBack}
use Rattle.std.specs.Prelude.{cond, ◌&&◌, Some, None}
use Rattle.std.specs.Char.{is_ascii_hexdigit, encode_utf8}
use Rattle.std.specs.List.{list_all}
use Rattle.std.proofs.lemmas.Str.{encode_ascii}
use Rattle.text.proofs.DigitValues.{library_digit}
use Rattle.text.proofs.Ranges.{inside, beyond}

-- ---- Stores, one after the other

-- behind the octets that were stored so far, one more
stored : (p out : List ℕ) (i a : ℕ) → length p ≡ i → i < length out → set (p ++ drop i out) i a ≡ (p ++ a ∷ []) ++ drop (i + 1) out
stored p out i a e h = rw (drop-cons out i 0 h, set_at p (get_or out i 0) (drop (suc i) out) a i e, append_assoc p (a ∷ []) (drop (i + 1) out), add-one i)

-- ---- Writing

digits_length : (octets : List ℕ) → length (digits octets) ≡ 2 * length octets
unfolding digits
digits_length [] = refl
digits_length (x ∷ octets) = omega (arith, digits_length octets)

digits_more : (octets : List ℕ) (i : ℕ) → i < length octets
    → digits (take (suc i) octets) ≡ digits (take i octets) ++ (digit (get_or octets i 0 / 16) ∷ digit (get_or octets i 0 % 16) ∷ [])
unfolding digits
digits_more [] i h = absurd (omega arith)
digits_more (x ∷ octets) zero h = refl
digits_more (x ∷ octets) (suc i) h = ap (λ (l : List ℕ). digit (x / 16) ∷ digit (x % 16) ∷ l) (digits_more octets i (omega arith))

module _ (octets out : List ℕ) where
  -- the digits of i octets are written over the front of `out`, and those of one more
  pub written : (now : List ℕ) (i : ℕ) {high low : ℕ} → i < length octets → 2 * length octets ≤ length out → now ≡ digits (take i octets) ++ drop (2 * i) out
      → high ≡ digit (get_or octets i 0 / 16) → low ≡ digit (get_or octets i 0 % 16)
      → set (set now (2 * i) high) (2 * i + 1) low ≡ digits (take (i + 1) octets) ++ drop (2 * (i + 1)) out
  written now i {high} {low} h fits e eh el =
      let p = digits (take i octets) in
      let size : length p ≡ 2 * i = digits_length (take i octets) ∙ ap (λ (k : ℕ). 2 * k) (length-take-le i octets (omega arith)) in
      let more : length (p ++ high ∷ []) ≡ 2 * i + 1 = length-append p (high ∷ []) ∙ ap (λ (k : ℕ). k + 1) size in
      let next : 2 * i + 1 + 1 ≡ 2 * (i + 1) = omega arith in
      rw (
        e,
        stored p out (2 * i) high size (omega arith),
        stored (p ++ high ∷ []) out (2 * i + 1) low more (omega arith),
        next,
        append_assoc p (high ∷ []) (low ∷ []),
        add-one i,
        digits_more octets i h,
        eh,
        el,
      )

  pub none_written : length out / 2 < length octets → (None ≡ count octets out) × (out ≡ placed 0 (fitting octets out) out)
  unfolding count fitting placed
  none_written h =
      let none = lt-leb (2 * length octets) (length out) (omega arith) in
      (rw none, rw none)

  pub all_written : (now : List ℕ) (i : ℕ) → length octets ≤ i → i ≤ length octets → 2 * length octets ≤ length out → now ≡ digits (take i octets) ++ drop (2 * i) out
      → (Some (2 * length octets) ≡ count octets out) × (now ≡ placed 0 (fitting octets out) out)
  unfolding count fitting placed
  all_written now i high low fits e =
      let all : i ≡ length octets = omega arith in
      let fit = le-leb (2 * length octets) (length out) fits in
      let size : 0 + length (digits octets) ≡ 2 * length octets = omega (arith, digits_length octets) in
      (rw (fit, digits_length octets), rw (fit, e, all, take-length octets, size))

-- ---- Printing

digit_ascii : (n : ℕ) → n < 16 → digit n < 128
digit_ascii n h = decided (ltb n 10) refl
  where
    decided : (t : Bool) → ltb n 10 ≡ t → digit n < 128
    decided true e = let small = ltb-true n 10 e in rw e (omega arith)
    decided false e = rw e (omega arith)

-- the digits of i octets, and then those of one more
pub printed : (octets : List ℕ) (i : ℕ) {high low : ℕ} → i < length octets → get_or octets i 0 < 256
    → high ≡ digit (get_or octets i 0 / 16) → low ≡ digit (get_or octets i 0 % 16)
    → digits (take i octets) ++ (encode_utf8 high ++ encode_utf8 low) ≡ digits (take (i + 1) octets)
printed octets i {high} {low} h small eh el =
    let x = get_or octets i 0 in
    rw (
      eh,
      el,
      encode_ascii (digit (x / 16)) (digit_ascii (x / 16) (omega arith)),
      encode_ascii (digit (x % 16)) (digit_ascii (x % 16) (omega arith)),
      add-one i,
      digits_more octets i h,
    )

-- ---- Reading

-- two digits, and those after them
pair : (text : List ℕ) (i : ℕ) → 2 * i + 1 < length text → drop (2 * i) text ≡ get_or text (2 * i) 0 ∷ get_or text (2 * i + 1) 0 ∷ drop (2 * (i + 1)) text
pair text i h =
    let high : suc (2 * i) ≡ 2 * i + 1 = omega arith in
    let next : suc (2 * i + 1) ≡ 2 * (i + 1) = omega arith in
    rw (drop-cons text (2 * i) 0 (omega arith), high, drop-cons text (2 * i + 1) 0 h, next)

both_held : (a b : Bool) (y x : ℕ) → Some x ≡ cond (a && b) (Some y) None → (a ≡ true) × (b ≡ true) × (x ≡ y)
both_held true true y x e = (refl, refl, cc)
both_held true false y x e = cc
both_held false b y x e = cc

one_failed : (a b c : Bool) (y : ℕ) → None ≡ cond (a && b) (Some y) None → (a && (b && c)) ≡ false
one_failed true true c y e = cc
one_failed true false c y e = refl
one_failed false b c y e = refl

module _ (text : List ℕ) (i : ℕ) (h : 2 * i + 1 < length text) where
  pub not_digits : None ≡ octet (get_or text (2 * i) 0) (get_or text (2 * i + 1) 0) → are_digits (drop (2 * i) text) ≡ false
  unfolding octet are_digits
  not_digits e = rw (pair text i h) (one_failed _ _ (are_digits (drop (2 * (i + 1)) text)) _ e)

  module _ {x : ℕ} (e : Some x ≡ octet (get_or text (2 * i) 0) (get_or text (2 * i + 1) 0)) where
    said_of : (ltb (value (get_or text (2 * i) 0)) 16 ≡ true) × (ltb (value (get_or text (2 * i + 1) 0)) 16 ≡ true)
        × (x ≡ 16 * value (get_or text (2 * i) 0) + value (get_or text (2 * i + 1) 0))
    unfolding octet
    said_of = both_held _ _ _ x e

    pub more_digits : are_digits (drop (2 * i) text) ≡ are_digits (drop (2 * (i + 1)) text)
    unfolding are_digits
    more_digits = rw (pair text i h, said_of.0, said_of.1)

    octets_next : octets_of (drop (2 * i) text) ≡ x ∷ octets_of (drop (2 * (i + 1)) text)
    unfolding octets_of
    octets_next = rw (pair text i h, said_of.2)

    -- the text ahead says the octets after the i that were read, and those after one more
    pub read_more : (octets : List ℕ) → i < length octets → take i octets ++ octets_of (drop (2 * i) text) ≡ octets_of text
        → take (i + 1) (set octets i x) ++ octets_of (drop (2 * (i + 1)) text) ≡ octets_of text
    read_more octets k said =
        rw (
          add-one i,
          take-suc-set octets i x k,
          append_assoc (take i octets) (x ∷ []) (octets_of (drop (2 * suc i) text)),
          ← (add-one i),
          ← octets_next,
        )
        said

-- the octets that the library takes for digits
pub library_digits : (text : List ℕ) → list_all is_ascii_hexdigit text ≡ are_digits text
unfolding are_digits
library_digits [] = refl
library_digits (c ∷ text) = rw (library_digits text, library_digit c)

module _ (text : List ℕ) (n : ℕ) where
  pub other_length : (length text ≡ 2 * n → ⊥) → spells n text ≡ false
  unfolding spells
  other_length h = rw (ne_eqb (length text) (2 * n) h)

  module _ (h : length text ≡ 2 * n) where
    pub same_length : spells n text ≡ are_digits text
    unfolding spells
    same_length = rw (eq-eqb (length text) (2 * n) h)

    pub all_read : (octets : List ℕ) → length octets ≡ n → take n octets ++ octets_of (drop (2 * n) text) ≡ octets_of text → octets ≡ octets_of text
    unfolding octets_of
    all_read octets size said =
        let rest = drop_of_length-le text {i = 2 * n} (omega arith) in
        sym (append-nil octets) ∙ (rw (rest, take_all n octets (omega arith)) at said)

-- ---- What is written is read back

digit_back : (n : ℕ) → n < 16 → value (digit n) ≡ n
digit_back n h = decided (ltb n 10) refl
  where
    decided : (t : Bool) → ltb n 10 ≡ t → value (digit n) ≡ n
    decided true e =
        let small = ltb-true n 10 e in
        rw (e, inside 48 58 (48 + n) (omega arith) (omega arith)) (omega arith)
    decided false e =
        let large = ltb-false n 10 e in
        rw (e, beyond 48 58 (87 + n) (omega arith) (omega arith), inside 97 103 (87 + n) (omega arith) (omega arith)) (omega arith)

digits_are : (octets : List ℕ) → Octets octets → are_digits (digits octets) ≡ true
unfolding digits are_digits
digits_are [] bytes = refl
digits_are (x ∷ octets) bytes =
    let octet : x < 256 = bytes 0 in
    rw (
      digit_back (x / 16) (omega arith),
      digit_back (x % 16) (omega arith),
      lt-ltb (x / 16) 16 (omega arith),
      lt-ltb (x % 16) 16 (omega arith),
    )
    (digits_are octets (λ i. bytes (suc i)))

octets_back : (octets : List ℕ) → Octets octets → octets_of (digits octets) ≡ octets
unfolding digits octets_of
octets_back [] bytes = refl
octets_back (x ∷ octets) bytes =
    let octet : x < 256 = bytes 0 in
    let whole : 16 * (x / 16) + x % 16 ≡ x = omega arith in
    rw (digit_back (x / 16) (omega arith), digit_back (x % 16) (omega arith), whole, octets_back octets (λ i. bytes (suc i)))

pub read_back : (octets : List ℕ) → Octets octets → ReadBack octets
unfolding spells
read_back octets bytes = record {
  accepted = rw (eq-eqb (length (digits octets)) (2 * length octets) (digits_length octets)) (digits_are octets bytes);
  octets_back = octets_back octets bytes;
}
