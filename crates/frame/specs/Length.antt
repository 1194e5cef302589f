-- The length of DER: X.690, sections 8.1.3 and 10.1. The one form that says a number in the fewest octets, what a length says, and that
-- the form is read back and is the only one so short.
use Rattle.std.specs.Prelude.{ℕ, zero, suc, ◌+◌, ◌*◌, ◌-◌, ◌/◌, ◌%◌, ◌≤◌, ◌<◌, ◌≡◌, cond, List, [], ◌∷◌, ◌++◌, eqb, leb, ltb, length, get_or, take, drop, Option, Some, None}
use Rattle.primitives.specs.Octets.{Octets}
use Rattle.frame.specs.declared.length.Contents.{Contents}
use Rattle.frame.specs.declared.length.Contents.TheVariants.{Counted, Cut, Incomplete, Wrong}

-- ---- The shortest form

-- how many octets a number takes with no zero before it, 0 none (8.1.3.5, in the fewest octets). The recursion ends with its first
-- argument, and any that is not below the number will do
unfoldable pub count_within : ℕ → ℕ → ℕ
count_within zero n = zero
count_within (suc most) zero = zero
count_within (suc most) (suc n) = suc (count_within most (suc n / 256))

unfoldable pub octet_count : ℕ → ℕ
octet_count n = count_within n n

-- the low k octets of a number, the highest first (8.1.3.5)
unfoldable pub high_first : ℕ → ℕ → List ℕ
high_first zero n = []
high_first (suc k) n = high_first k (n / 256) ++ n % 256 ∷ []

-- section 10.1, the definite form in the fewest octets: a number below 128 is one octet (8.1.3.4); any other is 128 and the count of its
-- octets, and then those (8.1.3.5)
unfoldable pub der_length : ℕ → List ℕ
der_length n = cond (ltb n 128) (n ∷ []) ((128 + octet_count n) ∷ high_first (octet_count n) n)

-- ---- What a length says

-- the number that octets say, the highest first, after a number that stands before them
unfoldable pub value_after : ℕ → List ℕ → ℕ
value_after n [] = n
value_after n (octet ∷ octets) = value_after (n * 256 + octet) octets

-- a number, if it is at most so much
abbrev pub up_to : ℕ → ℕ → Option ℕ
up_to most n = cond (leb n most) (Some n) None

-- how many octets the length at the front of some octets takes, by its first (8.1.3.4, 8.1.3.5)
unfoldable pub width_in : List ℕ → ℕ
width_in octets = cond (ltb (get_or octets 0 0) 128) 1 (get_or octets 0 0 - 127)

-- the number that it says
unfoldable pub value_in : List ℕ → ℕ
value_in octets = cond (ltb (get_or octets 0 0) 128) (get_or octets 0 0) (value_after 0 (take (get_or octets 0 0 - 128) (drop 1 octets)))

-- the first octet of a length is not ff, which is set aside (8.1.3.5, c)
abbrev pub Used : ℕ → Type 0
Used n = get_or (der_length n) 0 0 < 0xff

-- What stands at the front of some octets, of the lengths that count at least `least`: one that is there with all that it counts; one that
-- is there, with less; the beginning of one; or none, whatever follows.
abbrev pub LengthIs : ℕ → List ℕ → Contents → Type 0
LengthIs least octets (Counted w n) = (rest : List ℕ) × (octets ≡ der_length n ++ rest) × (w ≡ length (der_length n)) × (least ≤ n) × (n ≤ length rest)
LengthIs least octets (Cut w) = (n : ℕ) × (rest : List ℕ) × (octets ≡ der_length n ++ rest) × (w ≡ length (der_length n)) × (least ≤ n) × (length rest < n) × Used n
LengthIs least octets Incomplete = (n : ℕ) × (more : List ℕ) × (octets ++ more ≡ der_length n) × (least ≤ n) × (0 < length more) × Used n
LengthIs least octets Wrong = (n : ℕ) → least ≤ n → Used n → (rest more : List ℕ) → octets ++ more ≡ der_length n ++ rest → ⊥

-- a length below 128, which is one octet, with so many octets after it
abbrev pub short_form : ℕ → ℕ → ℕ → Contents
short_form least n rest = cond (ltb n least) Wrong (cond (ltb rest n) (Cut 1) (Counted 1 n))

-- the least that the first of so many digits is in the shortest form
abbrev pub least_digit : ℕ → ℕ
least_digit count = cond (eqb count 1) 128 1

-- ---- The shortest form is read back, and is the only one so short

-- Octets that are one length, and no more, and say n. 80 says no number: it leaves the end open (8.1.3.6).
pub record Says (octets : List ℕ) (n : ℕ) : Type 0 where
  pub octets_are : Octets octets
  pub closed : get_or octets 0 0 ≡ 0x80 → ⊥
  pub whole : width_in octets ≡ length octets
  pub value : value_in octets ≡ n

-- For every number (`shortest_form` of `proofs/Laws.antt`).
pub record ShortestForm (n : ℕ) : Type 0 where
  pub width_back : (rest : List ℕ) → width_in (der_length n ++ rest) ≡ length (der_length n)
  pub value_back : (rest : List ℕ) → value_in (der_length n ++ rest) ≡ n
  pub shortest : (octets : List ℕ) → Says octets n → length (der_length n) ≤ length octets
  pub only_one : (octets : List ℕ) → Says octets n → length octets ≡ length (der_length n) → octets ≡ der_length n
