-- One character: the forms of its octets and units, and that it is read from them and from no other octets.
use mathlib.Core.Path.{◌≡◌, refl, ap, ◌∙◌}
use mathlib.Core.Bool.{Bool, true, false, cond, ◌&&◌, ◌||◌}
use mathlib.Core.List.{List, [], ◌∷◌, ◌++◌}
use Prim.Native.Nat.{ℕ, zero, suc, ◌+◌, ◌*◌, ◌-◌, ◌/◌, ◌%◌, ◌≤◌, ◌<◌}
use native.Mathlib.Omega.{arith}
use lib.Dec.{leb, ltb}
use native.Mathlib.Numerals.{add-one}
use lib.ListN.{length, get_or, take, drop, length-append, drop_of_length-le}
use lib.Seq.{take_at, drop-cons}
use borrow.Author.Tests.{ltb-true, ltb-false, lt-ltb, le-ltb, leb-true, le-leb, lt-leb}
use Rattle.tokens.proofs.SameOctets.{same_true, same_self}
use Rattle.tokens.specs.Octets.{same}
use Rattle.text.specs.Utf8.{is_character, utf8, utf16, width, leading_bits, value_after, value, front, character_in}
use Rattle.std.specs.Prelude.{Option, Some, None}
use Rattle.text.specs.declared.utf8.Character.{Character}

-- a character of so many octets and of a number
abbrev pub numbered : ℕ → ℕ → Option Character
numbered w v = Some (record { width = w; value = v })

-- ---- Which numbers are characters

pub character_most : (n : ℕ) → is_character n ≡ true → n < 1114112
unfolding is_character
character_most n e = decided (ltb n 55296) (leb 57344 n) refl e
  where
    decided : (t u : Bool) → ltb n 55296 ≡ t → (t || (u && ltb n 1114112)) ≡ true → n < 1114112
    decided true u et e = let low : n < 55296 = ltb-true _ _ et in omega arith
    decided false true et e = ltb-true _ _ e
    decided false false et e = let z : ◌≡◌ {A = ℕ} 0 1 = cc in omega arith

-- ---- The forms of a character

pub utf8_one : (n : ℕ) → n < 128 → utf8 n ≡ n ∷ []
unfolding utf8
utf8_one n h = rw (lt-ltb n 128) refl

pub utf8_two : (n : ℕ) → 128 ≤ n → n < 2048 → utf8 n ≡ (192 + n / 64) ∷ (128 + n % 64) ∷ []
unfolding utf8
utf8_two n h k = rw (le-ltb n 128, lt-ltb n 2048) refl

pub utf8_three : (n : ℕ) → 2048 ≤ n → n < 65536 → utf8 n ≡ (224 + n / 4096) ∷ (128 + n / 64 % 64) ∷ (128 + n % 64) ∷ []
unfolding utf8
utf8_three n h k = rw (le-ltb n 128 (omega arith), le-ltb n 2048, lt-ltb n 65536) refl

pub utf8_four : (n : ℕ) → 65536 ≤ n → utf8 n ≡ (240 + n / 262144) ∷ (128 + n / 4096 % 64) ∷ (128 + n / 64 % 64) ∷ (128 + n % 64) ∷ []
unfolding utf8
utf8_four n h = rw (le-ltb n 128 (omega arith), le-ltb n 2048 (omega arith), le-ltb n 65536) refl

pub utf16_one : (n : ℕ) → n < 65536 → utf16 n ≡ n ∷ []
unfolding utf16
utf16_one n h = rw (lt-ltb n 65536) refl

pub utf16_two : (n : ℕ) → 65536 ≤ n → utf16 n ≡ (55296 + (n - 65536) / 1024) ∷ (56320 + (n - 65536) % 1024) ∷ []
unfolding utf16
utf16_two n h = rw (le-ltb n 65536) refl

-- ---- What the first octet says: how many there are, and the bits in it

module _ (x : ℕ) where
  pub one_octet : x < 128 → (width x ≡ 1) × (leading_bits x ≡ x)
  unfolding width leading_bits
  one_octet h = rw (lt-ltb x 128) (refl, refl)

  pub two_octets : 128 ≤ x → x < 224 → (width x ≡ 2) × (leading_bits x ≡ x % 32)
  unfolding width leading_bits
  two_octets h k = rw (le-ltb x 128, lt-ltb x 224) (refl, refl)

  pub three_octets : 224 ≤ x → x < 240 → (width x ≡ 3) × (leading_bits x ≡ x % 16)
  unfolding width leading_bits
  three_octets h k = rw (le-ltb x 128 (omega arith), le-ltb x 224, lt-ltb x 240) (refl, refl)

  pub four_octets : 240 ≤ x → (width x ≡ 4) × (leading_bits x ≡ x % 8)
  unfolding width leading_bits
  four_octets h = rw (le-ltb x 128 (omega arith), le-ltb x 224 (omega arith), le-ltb x 240) (refl, refl)

-- ---- The number that some octets say

-- one octet more, and all of them
pub value_next : (n : ℕ) (octets : List ℕ) (i : ℕ) → i < length octets → value_after n (drop i octets) ≡ value_after (n * 64 + get_or octets i 0 % 64) (drop (i + 1) octets)
unfolding value_after
value_next n octets i h = rw (add-one, drop-cons octets i 0) refl

pub value_all : (n : ℕ) (octets : List ℕ) (i : ℕ) → length octets ≤ i → value_after n (drop i octets) ≡ n
unfolding value_after
value_all n octets i h = ap (value_after n) (drop_of_length-le octets {i = i} h)

-- the first of them, and those after it
pub value_of_front : (octets : List ℕ) (w : ℕ) → 1 ≤ length octets → 1 ≤ w → value_after (leading_bits (get_or octets 0 0)) (take (w - 1) (drop 1 octets)) ≡ value (take w octets)
unfolding value
value_of_front [] w h k = absurd (omega arith)
value_of_front (c ∷ octets) zero h k = absurd (omega arith)
value_of_front (c ∷ octets) (suc w) h k =
    let less : suc w - 1 ≡ w = omega arith in
    rw less

-- ---- A character is read from its octets

-- six bits more
six_more : (x y : ℕ) → x ≡ y / 64 → x * 64 + (128 + y % 64) % 64 ≡ y
six_more x y e = omega arith

-- what its octets say, whatever follows them, and that its units are no more than they
pub record Written (c : ℕ) (octets units : List ℕ) : Type 0 where
  pub first : (rest : List ℕ) → width (get_or (octets ++ rest) 0 0) ≡ length octets
  pub number : value octets ≡ c
  pub some : 1 ≤ length octets
  pub no_more : length units ≤ length octets

pub written : (c : ℕ) → c < 1114112 → Written c (utf8 c) (utf16 c)
unfolding value value_after
written c most = decided (ltb c 128) (ltb c 2048) (ltb c 65536) refl refl refl
  where
    decided : (t u v : Bool) → ltb c 128 ≡ t → ltb c 2048 ≡ u → ltb c 65536 ≡ v → Written c (utf8 c) (utf16 c)
    decided true u v et eu ev =
        let small : c < 128 = ltb-true _ _ et in
        let said = one_octet c small in
        rw (utf8_one c small, utf16_one c (omega arith)) (record { first = λ rest. said.0; number = said.1; some = omega arith; no_more = omega arith })
    decided false true v et eu ev =
        let least : 128 ≤ c = ltb-false _ _ et in
        let small : c < 2048 = ltb-true _ _ eu in
        let said = two_octets (192 + c / 64) (omega arith) (omega arith) in
        let number = six_more _ c (said.1 ∙ omega arith) in
        rw (utf8_two c least small, utf16_one c (omega arith)) (record { first = λ rest. said.0; number = number; some = omega arith; no_more = omega arith })
    decided false false true et eu ev =
        let least : 2048 ≤ c = ltb-false _ _ eu in
        let small : c < 65536 = ltb-true _ _ ev in
        let said = three_octets (224 + c / 4096) (omega arith) (omega arith) in
        let number = six_more _ c (six_more _ (c / 64) (said.1 ∙ omega arith)) in
        rw (utf8_three c least small, utf16_one c small) (record { first = λ rest. said.0; number = number; some = omega arith; no_more = omega arith })
    decided false false false et eu ev =
        let least : 65536 ≤ c = ltb-false _ _ ev in
        let said = four_octets (240 + c / 262144) (omega arith) in
        let parted : c / 4096 ≡ c / 64 / 64 = omega arith in
        let number = six_more _ c (six_more _ (c / 64) (six_more _ (c / 4096) (said.1 ∙ omega arith) ∙ parted)) in
        rw (utf8_four c least, utf16_two c least) (record { first = λ rest. said.0; number = number; some = omega arith; no_more = omega arith })

pub front_back : (c : ℕ) (rest : List ℕ) → is_character c ≡ true → character_in (utf8 c ++ rest) ≡ numbered (length (utf8 c)) c
unfolding character_in front
front_back c rest e =
    let w = written c (character_most c e) in
    let size : length (utf8 c) ≤ length (utf8 c ++ rest) = rw length-append (omega arith) in
    rw (w.first rest, take_at (utf8 c) rest (length (utf8 c)) refl, w.number, e, same_self (utf8 c), le-leb _ _ size) refl

-- ---- Each way in which the front of some octets is read

pub cut_short : (octets : List ℕ) → length octets < width (get_or octets 0 0) → character_in octets ≡ None
unfolding character_in
cut_short octets h = rw (lt-leb _ _ h) refl

-- all octets that the first one announces are there
pub found : (octets : List ℕ) (w v : ℕ) → w ≡ width (get_or octets 0 0) → v ≡ value (take w octets) → w ≤ length octets
    → character_in octets ≡ cond (is_character v && same (take w octets) (utf8 v)) (numbered w v) None
unfolding character_in front
found octets w v ew ev h = rw (ev, ew, le-leb _ _ (rw ew at h)) refl

-- ---- What was read

pub wrong_number : (w v : ℕ) → None ≡ numbered w v → ⊥
wrong_number w v e = cc

same_numbered : (w v x y : ℕ) → numbered w v ≡ numbered x y → (w ≡ x) × (v ≡ y)
same_numbered w v x y e =
    let same_one : ◌≡◌ {A = Character} (record { width = w; value = v }) (record { width = x; value = y }) = cc in
    (ap (λ (c : Character). c.width) same_one, ap (λ (c : Character). c.value) same_one)

pub same_number : {w v x y : ℕ} → numbered w v ≡ numbered x y → v ≡ y
same_number {w} {v} {x} {y} e = (same_numbered w v x y e).1

-- the octets are those of a character, and all of them are there
pub record Found (octets : List ℕ) (w v : ℕ) : Type 0 where
  pub one : is_character v ≡ true
  pub there : w ≤ length octets
  pub form : take w octets ≡ utf8 v

-- all three tests held
all_held : (a b c : Bool) (w v x y : ℕ) → cond (a && (b && c)) (numbered w v) None ≡ numbered x y → (a ≡ true) × (b ≡ true) × (c ≡ true) × (w ≡ x) × (v ≡ y)
all_held true true true w v x y e =
    let one = same_numbered w v x y e in
    (refl, refl, refl, one.0, one.1)
all_held true true false w v x y e = absurd (wrong_number x y e)
all_held true false c w v x y e = absurd (wrong_number x y e)
all_held false b c w v x y e = absurd (wrong_number x y e)

pub was_found : (octets : List ℕ) (w v : ℕ) → character_in octets ≡ numbered w v → Found octets w v
unfolding character_in front
was_found octets w v e =
    let said = width (get_or octets 0 0) in
    let number = value (front octets) in
    let h = all_held (leb said (length octets)) (is_character number) (same (front octets) (utf8 number)) said number w v e in
    record { one = rw h.4 at h.1; there = rw h.3 at (leb-true said (length octets) h.0); form = rw (h.4, h.3) at (same_true (front octets) (utf8 number) h.2) }
