-- The length at the front of some octets: each answer, from the tests that lead there.
use Rattle.std.specs.Prelude.{Some, None}
use mathlib.Core.Path.{◌≡◌, refl, sym, ap, ap₂, ◌∙◌}
use mathlib.Core.Bool.{Bool, true, false, cond}
use mathlib.Core.List.{List, [], ◌∷◌, ◌++◌}
use mathlib.Core.Logic.{◌⊎◌, inl, inr}
use Prim.Native.Nat.{ℕ, zero, suc, ◌+◌, ◌*◌, ◌-◌, ◌/◌, ◌%◌, ◌≤◌, ◌<◌}
use native.Mathlib.Omega.{arith}
use native.Mathlib.Numerals.{one-add}
use lib.Dec.{eqb, ltb}
use lib.ListN.{length, get_or, take, drop, replicate, length-append, length-drop, length-replicate, take-append-drop, get_or-append}
use lib.Seq.{length-take-le, get_or-take}
use borrow.Author.Tests.{eqb-true, eq-eqb, ltb-true, ltb-false}
use Rattle.primitives.specs.Octets.{Octets}
use Rattle.tokens.proofs.Laws.{region_octets}
use Rattle.frame.specs.Length.{octet_count, high_first, der_length, value_after, up_to, Used, LengthIs, short_form, least_digit}
use Rattle.frame.specs.declared.length.Contents.TheVariants.{Counted, Cut, Incomplete, Wrong}
use Rattle.frame.proofs.Lengths.{count_zero, count_more, count_one, count_after, high_length, high_value, value_least, was_within, was_above, der_short, der_two, der_long}

-- ---- The first octets of a length

count_none : (n : ℕ) → octet_count n ≡ 0 → n ≡ 0
count_none zero e = refl
count_none (suc n) e = absurd (omega (arith, count_more (suc n) (omega arith)))

-- the first digit of a number is not zero, and is the number if it is the only one
high_first_lem : (k n : ℕ) → 0 < n → octet_count n ≡ k → (0 < get_or (high_first k n) 0 0) × (k ≡ 1 → get_or (high_first k n) 0 0 ≡ n)
unfolding high_first
high_first_lem zero n some e = absurd (omega (arith, count_more n some))
high_first_lem (suc zero) n some e =
    let high : n / 256 ≡ 0 = count_none (n / 256) (omega (arith, count_more n some)) in
    (omega arith, λ one. omega arith)
high_first_lem (suc (suc k)) n some e =
    let more : octet_count (n / 256) ≡ suc k = omega (arith, count_more n some) in
    let high : 0 < n / 256 = above_zero (n / 256) (omega arith) in
    let digits : List ℕ = high_first (suc k) (n / 256) in
    (rw (get_or-append digits (n % 256 ∷ []) 0 0 (omega (arith, high_length (suc k) (n / 256)))) (high_first_lem (suc k) (n / 256) high more).0, λ one. absurd (omega arith))
  where
    above_zero : (m : ℕ) → 0 < octet_count m → 0 < m
    above_zero zero h = absurd (omega (arith, count_zero))
    above_zero (suc m) h = omega arith

-- a long form begins with 129 or more, and then a digit that is not zero, which is 128 or more if it is the only one
long_first : (n : ℕ) (rest : List ℕ) → 128 ≤ n
    → (128 < get_or (der_length n ++ rest) 0 0) × (0 < get_or (der_length n ++ rest) 1 0) × (get_or (der_length n ++ rest) 0 0 ≡ 129 → 128 ≤ get_or (der_length n ++ rest) 1 0)
long_first n rest h =
    let k : ℕ = octet_count n in
    let some : 0 < k = omega (arith, count_more n (omega arith)) in
    let first = high_first_lem k n (omega arith) refl in
    let digit : get_or (high_first k n ++ rest) 0 0 ≡ get_or (high_first k n) 0 0 = get_or-append (high_first k n) rest 0 0 (omega (arith, high_length k n)) in
    rw (der_long n h) (omega arith, omega (arith, first.0), λ one. omega (arith, first.1 (omega arith)))

-- octets that begin with neither form
pub wrong : (least : ℕ) (octets : List ℕ) → 0 < length octets → (least ≤ get_or octets 0 0 → get_or octets 0 0 < 128 → ⊥)
    → ((y : ℕ) → (1 < length octets → y ≡ get_or octets 1 0) → 128 < get_or octets 0 0 → 0 < y → (get_or octets 0 0 ≡ 129 → 128 ≤ y) → get_or octets 0 0 < 255 → ⊥) → LengthIs least octets Wrong
wrong least octets some short long n h used rest more e = decided (ltb n 128) refl
  where
    same : (i : ℕ) → i < length octets → get_or (der_length n ++ rest) i 0 ≡ get_or octets i 0
    same i there = sym (ap (λ (l : List ℕ). get_or l i 0) e) ∙ get_or-append octets more 0 i there

    decided : (t : Bool) → ltb n 128 ≡ t → ⊥
    decided true et =
        let small : n < 128 = ltb-true n 128 et in
        let first : n ≡ get_or octets 0 0 = sym (ap (λ (l : List ℕ). get_or (l ++ rest) 0 0) (der_short n small)) ∙ same 0 some in
        short (omega arith) (omega arith)
    decided false et =
        let first = long_first n rest (ltb-false n 128 et) in
        let head : get_or (der_length n ++ rest) 0 0 ≡ get_or (der_length n) 0 0 = rw (der_long n (ltb-false n 128 et)) refl in
        long (get_or (der_length n ++ rest) 1 0) (same 1) (omega (arith, first.0, same 0 some)) first.1 (λ one. first.2 (same 0 some ∙ one)) (omega (arith, same 0 some))

-- ---- A length that is there

-- octets with no zero before them, and 128 or more if there is one, are the digits of a long form
digits_form : (digits : List ℕ) → Octets digits → 0 < get_or digits 0 0 → (length digits ≡ 1 → 128 ≤ get_or digits 0 0)
    → (128 ≤ value_after 0 digits) × (der_length (value_after 0 digits) ≡ (128 + length digits) ∷ digits)
unfolding value_after
digits_form [] bytes some one = absurd (omega arith)
digits_form (x ∷ digits) bytes some one =
    let n : ℕ = value_after (0 * 256 + x) digits in
    let big : 128 ≤ n = least digits one in
    let count : octet_count n ≡ suc (length digits) =
    omega (arith, count_after (0 * 256 + x) digits (omega arith) (λ i. bytes (suc i)), count_one (0 * 256 + x) (omega arith) (omega (arith, bytes 0))) in
    (big, der_long n big ∙ ap₂ (λ (k : ℕ) (l : List ℕ). (128 + k) ∷ l) count (ap (λ (k : ℕ). high_first k n) count ∙ high_value (x ∷ digits) bytes))
  where
    least : (digits : List ℕ) → (suc (length digits) ≡ 1 → 128 ≤ x) → 128 ≤ value_after (0 * 256 + x) digits
    least [] one = omega (arith, one refl)
    least (y ∷ digits) one = omega (arith, value_least ((0 * 256 + x) * 256 + y) digits)

-- a length of w octets that says n, with what follows it
module _ (least : ℕ) (octets : List ℕ) (w n : ℕ) (there : w ≤ length octets) (form : (take w octets ≡ der_length n) × (least ≤ n)) where
  octets_are : octets ≡ der_length n ++ drop w octets
  octets_are = sym (take-append-drop w octets) ∙ ap (λ (l : List ℕ). l ++ drop w octets) form.0

  width_is : w ≡ length (der_length n)
  width_is = sym (length-take-le w octets there) ∙ ap length form.0

  pub counted : w + n ≤ length octets → LengthIs least octets (Counted w n)
  counted h = (drop w octets, octets_are, width_is, form.1, omega (arith, length-drop w octets))

  pub cut : length octets < w + n → Used n → LengthIs least octets (Cut w)
  cut h used = (n, drop w octets, octets_are, width_is, form.1, omega (arith, length-drop w octets), used)

module _ (least first : ℕ) (rest : List ℕ) (short : first < 128) where
  short_stands : ltb first least ≡ false → (take 1 (first ∷ rest) ≡ der_length first) × (least ≤ first)
  short_stands e = (sym (der_short first short), ltb-false first least e)

  pub short_form_lem : LengthIs least (first ∷ rest) (short_form least first (length rest))
  short_form_lem = decided (ltb first least) (ltb (length rest) first) refl refl
    where
      decided : (t u : Bool) → ltb first least ≡ t → ltb (length rest) first ≡ u → LengthIs least (first ∷ rest) (cond t Wrong (cond u (Cut 1) (Counted 1 first)))
      decided true u et eu =
          let low : first < least = ltb-true first least et in
          wrong least (first ∷ rest) (omega arith) (λ h k. omega arith) (λ y same h k m u. omega arith)
      decided false true et eu = cut least (first ∷ rest) 1 first (omega arith) (short_stands et) (omega (arith, ltb-true (length rest) first eu)) (rw (der_short first short) (omega arith))
      decided false false et eu = counted least (first ∷ rest) 1 first (omega arith) (short_stands et) (omega (arith, ltb-false (length rest) first eu))

-- 80 leaves the end open, and ff is set aside
pub no_count : (least : ℕ) (octets : List ℕ) → 0 < length octets → (get_or octets 0 0 ≡ 128) ⊎ (get_or octets 0 0 ≡ 255) → LengthIs least octets Wrong
no_count least octets some (inl e) = wrong least octets some (λ h k. omega arith) (λ y same h k m u. omega arith)
no_count least octets some (inr e) = wrong least octets some (λ h k. omega arith) (λ y same h k m u. omega arith)

-- a first digit below the least one is not that of the shortest form
least_one : (count : ℕ) → count ≡ 1 → least_digit count ≡ 128
least_one count e = rw (eq-eqb count 1 e) refl

least_some : (count : ℕ) → 0 < least_digit count
least_some count = decided (eqb count 1)
  where
    decided : (t : Bool) → 0 < cond t 128 1
    decided true = omega arith
    decided false = omega arith

pub low_digit : (least count : ℕ) (rest : List ℕ) → 0 < length rest → get_or rest 0 0 < least_digit count → LengthIs least ((128 + count) ∷ rest) Wrong
low_digit least count rest some low = decided (eqb count 1) refl
  where
    decided : (t : Bool) → eqb count 1 ≡ t → LengthIs least ((128 + count) ∷ rest) Wrong
    decided true e =
        let below : get_or rest 0 0 < cond true 128 1 = rw e at low in
        wrong least ((128 + count) ∷ rest) (omega arith) (λ h k. omega arith) (λ y same h k m u. omega (arith, below, same (omega arith), m (omega (arith, eqb-true count 1 e))))
    decided false e =
        let below : get_or rest 0 0 < cond false 128 1 = rw e at low in
        wrong least ((128 + count) ∷ rest) (omega arith) (λ h k. omega arith) (λ y same h k m u. omega (arith, below, same (omega arith)))

-- the tests that a long form passes, with all its digits
pub record Long (least count : ℕ) (rest : List ℕ) : Type 0 where
  pub low : least ≤ 128
  pub bytes : Octets rest
  pub some : 0 < count
  pub used : count < 127
  pub there : count ≤ length rest
  pub digit : least_digit count ≤ get_or rest 0 0

pub long_form : (least count : ℕ) (rest : List ℕ) → (least ≤ 128) × (0 < count) × (count < 127) → Octets rest → count ≤ length rest → (0 < length rest → least_digit count ≤ get_or rest 0 0) → Long least count rest
long_form least count rest limits bytes there digit =
    record { low = limits.0; bytes = bytes; some = limits.1; used = limits.2; there = there; digit = digit (omega arith) }

module _ (least count : ℕ) (rest : List ℕ) (form : Long least count rest) where
  abbrev octets : List ℕ
  octets = (128 + count) ∷ rest

  abbrev digits : List ℕ
  digits = take count rest

  begins : take (1 + count) octets ≡ (128 + count) ∷ digits
  begins = rw (one-add count) refl

  long_stands : (take (1 + count) octets ≡ der_length (value_after 0 digits)) × (least ≤ value_after 0 digits)
  long_stands =
      let size : length digits ≡ count = length-take-le count rest form.there in
      let first : get_or digits 0 0 ≡ get_or rest 0 0 = get_or-take count rest 0 0 form.some in
      let said = digits_form digits (region_octets 0 count rest form.bytes) (omega (arith, least_some count, form.digit)) (λ e. omega (arith, form.digit, least_one count (sym size ∙ e))) in
      (begins ∙ ap (λ (k : ℕ). (128 + k) ∷ digits) (sym size) ∙ sym said.1, omega (arith, said.0, form.low))

  pub long_cut : up_to (length rest - count) (value_after 0 digits) ≡ None → LengthIs least octets (Cut (1 + count))
  long_cut e =
      let past : length rest - count < value_after 0 digits = was_above _ _ e in
      let head : get_or (der_length (value_after 0 digits)) 0 0 ≡ 128 + count = ap (λ (l : List ℕ). get_or l 0 0) (sym long_stands.0 ∙ begins) in
      cut least octets _ _ (omega (arith, form.there)) long_stands (omega (arith, form.there)) (omega (arith, form.used))

  pub long_counted : (n : ℕ) → up_to (length rest - count) (value_after 0 digits) ≡ Some n → LengthIs least octets (Counted (1 + count) n)
  long_counted n e =
      let said : (value_after 0 digits ≤ length rest - count) × (value_after 0 digits ≡ n) = was_within _ _ n e in
      counted least octets _ n (omega (arith, form.there)) (rw said.1 at long_stands) (omega (arith, form.there))

-- ---- A length that is cut off

fill_octets : (xs : List ℕ) (m : ℕ) → Octets xs → Octets (xs ++ replicate m 255)
fill_octets [] zero bytes i = omega arith
fill_octets [] (suc m) bytes zero = omega arith
fill_octets [] (suc m) bytes (suc i) = fill_octets [] m bytes i
fill_octets (x ∷ xs) m bytes zero = bytes 0
fill_octets (x ∷ xs) m bytes (suc i) = fill_octets xs m (λ j. bytes (suc j)) i

fill_first : (xs : List ℕ) (m : ℕ) → 0 < m → (0 < length xs → 0 < get_or xs 0 0) → (0 < get_or (xs ++ replicate m 255) 0 0) × (length (xs ++ replicate m 255) ≡ 1 → 128 ≤ get_or (xs ++ replicate m 255) 0 0)
fill_first [] zero h some = absurd (omega arith)
fill_first [] (suc m) h some = omega arith
fill_first (x ∷ xs) m h some = (some (omega arith), λ e. absurd (omega (arith, length-append xs (replicate m 255), length-replicate {A = ℕ} m 255)))

-- before its first octet
pub none_begun : (least : ℕ) (octets : List ℕ) → least ≤ 128 → length octets ≡ 0 → LengthIs least octets Incomplete
none_begun least [] low e =
    let form = der_two 128 (omega arith) (omega arith) in
    (128, der_length 128, refl, low, omega (arith, ap length form), omega (arith, ap (λ (l : List ℕ). get_or l 0 0) form))
none_begun least (x ∷ rest) low e = absurd (omega arith)

-- in its digits: more of them make it whole
pub begun : (least count : ℕ) (rest : List ℕ) → least ≤ 128 → Octets rest → length rest < count → count < 127 → (0 < length rest → least_digit count ≤ get_or rest 0 0) → LengthIs least ((128 + count) ∷ rest) Incomplete
begun least count rest low bytes cut_off used digit =
    let m : ℕ = count - length rest in
    let all : List ℕ = rest ++ replicate m 255 in
    let size : length all ≡ count = rw (length-append, length-replicate) (omega arith) in
    let start = fill_first rest m (omega arith) (λ h. omega (arith, digit h, least_some count)) in
    let form = digits_form all (fill_octets rest m bytes) start.0 start.1 in
    (value_after 0 all, replicate m 255, ap (λ (k : ℕ). (128 + k) ∷ all) (sym size) ∙ sym form.1, omega (arith, form.0), rw length-replicate (omega arith), rw form.1 (omega arith))
