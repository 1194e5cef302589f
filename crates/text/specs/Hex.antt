-- Octets in hexadecimal: the digits of an octet, what digits say, what the calls answer, and that what is written is read back.
use Rattle.std.specs.Prelude.{ℕ, ◌+◌, ◌*◌, ◌-◌, ◌/◌, ◌%◌, ◌≡◌, Bool, true, cond, ◌&&◌, List, [], ◌∷◌, eqb, leb, ltb, length, ⊤, Option, Some, None}

-- the digit of a number below 16: 0 to 9, and then a to f
abbrev pub digit : ℕ → ℕ
digit n = cond (ltb n 10) (48 + n) (87 + n)

-- two digits for each octet
unfoldable pub digits : List ℕ → List ℕ
digits [] = []
digits (octet ∷ octets) = digit (octet / 16) ∷ digit (octet % 16) ∷ digits octets

-- what a digit stands for: 0 to 9, a to f and A to F, and 16 for any other octet
abbrev pub value : ℕ → ℕ
value c =
    cond (leb 48 c && ltb c 58) (c - 48)
    (cond (leb 97 c && ltb c 103) (c - 87)
    (cond (leb 65 c && ltb c 71) (c - 55) 16))

-- the octet that two digits say, if both are digits
unfoldable pub octet : ℕ → ℕ → Option ℕ
octet high low = cond (ltb (value high) 16 && ltb (value low) 16) (Some (16 * value high + value low)) None

-- all are digits
unfoldable pub are_digits : List ℕ → Bool
are_digits [] = true
are_digits (c ∷ text) = ltb (value c) 16 && are_digits text

-- a text is the digits of n octets
unfoldable pub spells : ℕ → List ℕ → Bool
spells n text = eqb (length text) (2 * n) && are_digits text

-- the octets that digits say, two for each
unfoldable pub octets_of : List ℕ → List ℕ
octets_of [] = []
octets_of (high ∷ []) = []
octets_of (high ∷ low ∷ text) = (16 * value high + value low) ∷ octets_of text

-- the digits that `encode` writes: all, or none if they do not all fit
unfoldable pub fitting : List ℕ → List ℕ → List ℕ
fitting octets out = cond (leb (2 * length octets) (length out)) (digits octets) []

-- how many digits `encode` writes, if they all fit
unfoldable pub count : List ℕ → List ℕ → Option ℕ
count octets out = cond (leb (2 * length octets) (length out)) (Some (length (digits octets))) None

-- what `decode_into` answers: whether the text is the digits of as many octets as `out` has
unfoldable pub decode_into : List ℕ → List ℕ → Option ⊤
decode_into text out = cond (spells (length out) text) (Some tt) None

-- what `decode_into` leaves: the octets that the text says, if it is the digits of as many
unfoldable pub decoded : List ℕ → List ℕ → List ℕ
decoded text out = cond (spells (length out) text) (octets_of text) out

-- what `decode` answers: the octets that the text says, if it is the digits of n octets
unfoldable pub decode : ℕ → List ℕ → Option (List ℕ)
decode n text = cond (spells n text) (Some (octets_of text)) None

-- For all octets (`read_back` of `proofs/Laws.antt`).
pub record ReadBack (octets : List ℕ) : Type 0 where
  pub accepted : spells (length octets) (digits octets) ≡ true
  pub octets_back : octets_of (digits octets) ≡ octets
