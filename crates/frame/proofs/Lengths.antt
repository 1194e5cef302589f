-- The length of DER: its two forms, what they say, and that the shortest form is read back and is the only one so short.
use Rattle.std.specs.Prelude.{Some, None}
use mathlib.Core.Path.{◌≡◌, refl, sym, ap, ap₂, ◌∙◌}
use mathlib.Core.Bool.{Bool, true, false, cond}
use mathlib.Core.List.{List, [], ◌∷◌, ◌++◌, append_assoc, append-nil}
use Prim.Native.Nat.{ℕ, zero, suc, ◌+◌, ◌*◌, ◌-◌, ◌/◌, ◌%◌, ◌≤◌, ◌<◌}
use native.Mathlib.Omega.{arith}
use native.Mathlib.Nat.{add-zero}
use native.Mathlib.Numerals.{add-one}
use lib.Dec.{leb, ltb}
use lib.ListN.{length, get_or, take, drop, length-append, length-take, length-drop, drop_of_length-le}
use lib.Seq.{take_at, take_all, drop-cons}
use borrow.Author.Tests.{ltb-true, ltb-false, lt-ltb, le-ltb, leb-true, leb-false, le-leb, lt-leb}
use Rattle.primitives.specs.Octets.{Octets}
use Rattle.tokens.proofs.Laws.{region_octets}
use Rattle.frame.specs.Length.{count_within, octet_count, high_first, der_length, value_after, up_to, width_in, value_in, Says, ShortestForm}

-- ---- How many octets a number takes

-- any two bounds that are not below the number
count_within_lem : (f g n : ℕ) → n ≤ f → n ≤ g → count_within f n ≡ count_within g n
unfolding count_within
count_within_lem zero zero n h k = refl
count_within_lem zero (suc g) zero h k = refl
count_within_lem zero (suc g) (suc n) h k = absurd (omega arith)
count_within_lem (suc f) zero zero h k = refl
count_within_lem (suc f) zero (suc n) h k = absurd (omega arith)
count_within_lem (suc f) (suc g) zero h k = refl
count_within_lem (suc f) (suc g) (suc n) h k = ap suc (count_within_lem f g (suc n / 256) (omega arith) (omega arith))

pub count_zero : octet_count 0 ≡ 0
unfolding octet_count count_within
count_zero = refl

pub count_more : (n : ℕ) → 0 < n → octet_count n ≡ suc (octet_count (n / 256))
unfolding octet_count count_within
count_more zero h = absurd (omega arith)
count_more (suc n) h = ap suc (count_within_lem n (suc n / 256) (suc n / 256) (omega arith) (omega arith))

pub count_one : (n : ℕ) → 0 < n → n < 256 → octet_count n ≡ 1
count_one n h k =
    let none : n / 256 ≡ 0 = omega arith in
    count_more n h ∙ ap (λ (m : ℕ). suc (octet_count m)) none ∙ ap suc count_zero

-- an octet after a number takes one octet more; after zero, at most one
count_next : (n x : ℕ) → x < 256 → 0 < n * 256 + x → octet_count (n * 256 + x) ≡ suc (octet_count n)
count_next n x octet some =
    let high : (n * 256 + x) / 256 ≡ n = omega arith in
    count_more (n * 256 + x) some ∙ ap (λ (m : ℕ). suc (octet_count m)) high

-- octets after a number that is not zero take as many octets as they are
pub count_after : (n : ℕ) (octets : List ℕ) → 0 < n → Octets octets → octet_count (value_after n octets) ≡ octet_count n + length octets
unfolding value_after
count_after n [] some bytes = omega arith
count_after n (x ∷ octets) some bytes =
    omega (arith, count_after (n * 256 + x) octets (omega arith) (λ i. bytes (suc i)), count_next n x (bytes 0) (omega arith))

-- and by themselves at most as many
pub count_most : (octets : List ℕ) → Octets octets → octet_count (value_after 0 octets) ≤ length octets
unfolding value_after
count_most [] bytes = omega (arith, count_zero)
count_most (zero ∷ octets) bytes = omega (arith, count_most octets (λ i. bytes (suc i)))
count_most (suc x ∷ octets) bytes =
    let sum : 0 * 256 + suc x ≡ suc x = omega arith in
    omega (arith, ap (λ (n : ℕ). octet_count (value_after n octets)) sum, count_after (suc x) octets (omega arith) (λ i. bytes (suc i)), count_one (suc x) (omega arith) (bytes 0))

-- ---- Its octets, and the number that they say

pub high_length : (k n : ℕ) → length (high_first k n) ≡ k
unfolding high_first
high_length zero n = refl
high_length (suc k) n = rw (length-append, high_length k (n / 256)) (omega arith)

value_last : (n : ℕ) (octets : List ℕ) (x : ℕ) → value_after n (octets ++ x ∷ []) ≡ value_after n octets * 256 + x
unfolding value_after
value_last n [] x = refl
value_last n (y ∷ octets) x = value_last (n * 256 + y) octets x

pub value_least : (n : ℕ) (octets : List ℕ) → n ≤ value_after n octets
unfolding value_after
value_least n [] = omega arith
value_least n (x ∷ octets) = omega (arith, value_least (n * 256 + x) octets)

-- one octet more, and all of them
pub value_next : (n : ℕ) (octets : List ℕ) (i : ℕ) → i < length octets → value_after n (drop i octets) ≡ value_after (n * 256 + get_or octets i 0) (drop (i + 1) octets)
unfolding value_after
value_next n octets i h = ap (value_after n) (drop-cons octets i 0 h) ∙ ap (λ (k : ℕ). value_after (n * 256 + get_or octets i 0) (drop k octets)) (sym (add-one i))

pub value_all : (n : ℕ) (octets : List ℕ) (i : ℕ) → length octets ≤ i → value_after n (drop i octets) ≡ n
unfolding value_after
value_all n octets i h = ap (value_after n) (drop_of_length-le octets {i = i} h)

pub at_most : (most n : ℕ) → n ≤ most → up_to most n ≡ Some n
at_most most n h = rw (le-leb n most h) refl

pub above : (most n : ℕ) → most < n → up_to most n ≡ None
above most n h = rw (lt-leb n most h) refl

above_number : (n : ℕ) → None ≡ Some n → ⊥
above_number n e = let z : ◌≡◌ {A = ℕ} 0 1 = cc in omega arith

pub was_within : (most n m : ℕ) → up_to most n ≡ Some m → (n ≤ most) × (n ≡ m)
was_within most n m e = decided (leb n most) refl e
  where
    decided : (t : Bool) → leb n most ≡ t → cond t (Some n) None ≡ Some m → (n ≤ most) × (n ≡ m)
    decided true et e = (leb-true n most et, cc)
    decided false et e = absurd (above_number m e)

pub was_above : (most n : ℕ) → up_to most n ≡ None → most < n
was_above most n e = decided (leb n most) refl e
  where
    decided : (t : Bool) → leb n most ≡ t → cond t (Some n) None ≡ None → most < n
    decided true et e = absurd (above_number n (sym e))
    decided false et e = leb-false n most et

within_back : (most n : ℕ) → n ≤ most → value_after 0 (high_first (count_within most n) n) ≡ n
unfolding count_within high_first value_after
within_back zero n h = omega arith
within_back (suc most) zero h = refl
within_back (suc most) (suc n) h = rw (value_last, within_back most (suc n / 256) (omega arith)) (omega arith)

high_back : (n : ℕ) → value_after 0 (high_first (octet_count n) n) ≡ n
unfolding octet_count
high_back n = within_back n n (omega arith)

-- octets are those of the number that they say
high_after : (j n : ℕ) (octets : List ℕ) → Octets octets → high_first (j + length octets) (value_after n octets) ≡ high_first j n ++ octets
unfolding high_first value_after
high_after j n [] bytes = rw (append-nil, add-zero) refl
high_after j n (x ∷ octets) bytes =
    let octet : x < 256 = bytes 0 in
    let low : (n * 256 + x) % 256 ≡ x = omega arith in
    let high : (n * 256 + x) / 256 ≡ n = omega arith in
    let sum : j + suc (length octets) ≡ suc j + length octets = omega arith in
    ap (λ (k : ℕ). high_first k (value_after (n * 256 + x) octets)) sum
    ∙ high_after (suc j) (n * 256 + x) octets (λ i. bytes (suc i))
    ∙ rw (low, high, append_assoc) refl

pub high_value : (octets : List ℕ) → Octets octets → high_first (length octets) (value_after 0 octets) ≡ octets
unfolding high_first
high_value octets bytes =
    let sum : length octets ≡ 0 + length octets = omega arith in
    ap (λ (k : ℕ). high_first k (value_after 0 octets)) sum ∙ high_after 0 0 octets bytes

-- ---- The two forms

pub der_short : (n : ℕ) → n < 128 → der_length n ≡ n ∷ []
unfolding der_length
der_short n h = rw (lt-ltb n 128) refl

pub der_long : (n : ℕ) → 128 ≤ n → der_length n ≡ (128 + octet_count n) ∷ high_first (octet_count n) n
unfolding der_length
der_long n h = rw (le-ltb n 128) refl

-- the long form of one octet, and of two
pub der_two : (n : ℕ) → 128 ≤ n → n < 256 → der_length n ≡ 0x81 ∷ n ∷ []
unfolding high_first
der_two n h k =
    let low : n % 256 ≡ n = omega arith in
    der_long n h ∙ rw (count_one n (omega arith) k, low) refl

pub der_three : (n : ℕ) → 256 ≤ n → n < 65536 → der_length n ≡ 0x82 ∷ n / 256 ∷ n % 256 ∷ []
unfolding high_first
der_three n h k =
    let high : n / 256 % 256 ≡ n / 256 = omega arith in
    der_long n (omega arith) ∙ rw (count_more n (omega arith), count_one (n / 256) (omega arith) (omega arith), high) refl

-- ---- What a length says

-- the octets that the first one of a long form counts
abbrev pub digits_in : List ℕ → List ℕ
digits_in octets = take (get_or octets 0 0 - 128) (drop 1 octets)

module _ (octets : List ℕ) (short : get_or octets 0 0 < 128) where
  pub width_short : width_in octets ≡ 1
  unfolding width_in
  width_short = rw (lt-ltb (get_or octets 0 0) 128) refl

  pub value_short : value_in octets ≡ get_or octets 0 0
  unfolding value_in
  value_short = rw (lt-ltb (get_or octets 0 0) 128) refl

module _ (octets : List ℕ) (long : 128 ≤ get_or octets 0 0) where
  pub width_long : width_in octets ≡ get_or octets 0 0 - 127
  unfolding width_in
  width_long = rw (le-ltb (get_or octets 0 0) 128) refl

  pub value_long : value_in octets ≡ value_after 0 (digits_in octets)
  unfolding value_in
  value_long = rw (le-ltb (get_or octets 0 0) 128) refl

-- ---- The shortest form

-- it is read back, whatever follows it
record ReadBack (octets : List ℕ) (w n : ℕ) : Type 0 where
  pub width_is : width_in octets ≡ w
  pub value_is : value_in octets ≡ n

read_back : (n : ℕ) (rest : List ℕ) → ReadBack (der_length n ++ rest) (length (der_length n)) n
read_back n rest = decided (ltb n 128) refl
  where
    decided : (t : Bool) → ltb n 128 ≡ t → ReadBack (der_length n ++ rest) (length (der_length n)) n
    decided true e =
        let short : n < 128 = ltb-true n 128 e in
        rw (der_short n short) (record { width_is = width_short (n ∷ rest) short; value_is = value_short (n ∷ rest) short })
    decided false e =
        let long : 128 ≤ n = ltb-false n 128 e in
        let k : ℕ = octet_count n in
        let counted : 128 + k - 128 ≡ k = omega arith in
        let octets : List ℕ = (128 + k) ∷ (high_first k n ++ rest) in
        rw (der_long n long)
        (record {
          width_is = width_long octets (omega arith) ∙ omega (arith, high_length k n);
          value_is =
              value_long octets (omega arith)
              ∙ ap (λ (j : ℕ). value_after 0 (take j (high_first k n ++ rest))) counted
              ∙ rw (take_at (high_first k n) rest k (high_length k n)) (high_back n);
        })

der_most : (n : ℕ) → length (der_length n) ≤ 1 + octet_count n
unfolding der_length
der_most n = decided (ltb n 128)
  where
    decided : (t : Bool) → length (cond t (n ∷ []) ((128 + octet_count n) ∷ high_first (octet_count n) n)) ≤ 1 + octet_count n
    decided true = omega arith
    decided false = omega (arith, high_length (octet_count n) n)

pub first_and_rest : (octets : List ℕ) → 0 < length octets → octets ≡ get_or octets 0 0 ∷ drop 1 octets
first_and_rest [] h = absurd (omega arith)
first_and_rest (x ∷ octets) h = refl

-- the same, where the rest is as it is lent
pub split_first : (octets : List ℕ) (first : ℕ) → 0 < length octets → first ≡ get_or octets 0 0 → first ∷ take (length octets - 1) (drop 1 octets) ≡ octets
split_first octets first some e =
    ap₂ (λ (x : ℕ) (l : List ℕ). x ∷ l) e (take_all (length octets - 1) (drop 1 octets) (rw length-drop (omega arith))) ∙ sym (first_and_rest octets some)

none_left : (octets : List ℕ) → length octets ≡ 0 → octets ≡ []
none_left [] e = refl
none_left (x ∷ octets) e = absurd (omega arith)

module _ (n : ℕ) (octets : List ℕ) (says : Says octets n) where
  abbrev first : ℕ
  first = get_or octets 0 0

  rest_octets : Octets (digits_in octets)
  rest_octets = region_octets 1 (first - 128) octets says.octets_are

  no_shorter : length (der_length n) ≤ length octets
  no_shorter = decided (ltb first 128) refl
    where
      decided : (t : Bool) → ltb first 128 ≡ t → length (der_length n) ≤ length octets
      decided true e =
          let short : first < 128 = ltb-true _ _ e in
          let value : first ≡ n = sym (value_short octets short) ∙ says.value in
          omega (arith, ap length (der_short n (omega arith)), width_short octets short, says.whole)
      decided false e =
          let long : 128 ≤ first = ltb-false _ _ e in
          let value : value_after 0 (digits_in octets) ≡ n = sym (value_long octets long) ∙ says.value in
          let size : length (digits_in octets) ≤ first - 128 = simp length-take (omega arith) in
          omega (arith, der_most n, ap octet_count value, count_most (digits_in octets) rest_octets, size, width_long octets long, says.whole)

  same_octets : length octets ≡ length (der_length n) → octets ≡ der_length n
  same_octets e = decided (ltb first 128) (ltb n 128) refl refl
    where
      decided : (t u : Bool) → ltb first 128 ≡ t → ltb n 128 ≡ u → octets ≡ der_length n
      decided true u et eu =
          let short : first < 128 = ltb-true _ _ et in
          let value : first ≡ n = sym (value_short octets short) ∙ says.value in
          let size : length octets ≡ 1 = sym says.whole ∙ width_short octets short in
          let alone : drop 1 octets ≡ [] = none_left (drop 1 octets) (length-drop 1 octets ∙ omega arith) in
          first_and_rest octets (omega arith) ∙ ap₂ (λ (x : ℕ) (l : List ℕ). x ∷ l) value alone ∙ sym (der_short n (omega arith))
      decided false true et eu =
          let long : 128 ≤ first = ltb-false _ _ et in
          let size : length octets ≡ 1 = e ∙ ap length (der_short n (ltb-true _ _ eu)) in
          absurd (says.closed (omega (arith, width_long octets long, says.whole)))
      decided false false et eu =
          let long : 128 ≤ first = ltb-false _ _ et in
          let k : ℕ = octet_count n in
          let form = der_long n (ltb-false _ _ eu) in
          let width : first - 127 ≡ length octets = sym (width_long octets long) ∙ says.whole in
          let size : length octets ≡ 1 + k = e ∙ ap length form ∙ omega (arith, high_length k n) in
          let counted : first ≡ 128 + k = omega arith in
          let whole : digits_in octets ≡ drop 1 octets = take_all (first - 128) (drop 1 octets) (rw length-drop (omega arith)) in
          let value : value_after 0 (drop 1 octets) ≡ n = ap (value_after 0) (sym whole) ∙ sym (value_long octets long) ∙ says.value in
          let digits : high_first k n ≡ drop 1 octets =
          ap₂ high_first (sym (length-drop 1 octets ∙ omega arith)) (sym value) ∙ high_value (drop 1 octets) (rw whole at rest_octets) in
          first_and_rest octets (omega arith) ∙ ap₂ (λ (x : ℕ) (l : List ℕ). x ∷ l) counted (sym digits) ∙ sym form

pub shortest_form : (n : ℕ) → ShortestForm n
shortest_form n =
    record {
      width_back = λ rest. (read_back n rest).width_is;
      value_back = λ rest. (read_back n rest).value_is;
      shortest = no_shorter n;
      only_one = same_octets n;
    }
