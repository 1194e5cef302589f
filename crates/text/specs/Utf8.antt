-- UTF-8 and UTF-16: how characters are written (RFC 3629, section 3; RFC 2781, section 2.1), and that a text is read exactly when it is
-- written so.
use Rattle.std.specs.Prelude.{ℕ, ◌+◌, ◌*◌, ◌-◌, ◌/◌, ◌%◌, ◌≤◌, ◌<◌, ◌≡◌, Bool, true, cond, ◌&&◌, ◌||◌, List, [], ◌∷◌, ◌++◌, leb, ltb, length, get_or, take, drop, Option, Some, None, Result, Ok, Err, codes}
use Rattle.tokens.specs.Octets.{same}
use Rattle.text.specs.declared.utf8.Character.{Character}
use Rattle.text.specs.declared.utf8.TextError.{TextError}
use Rattle.text.specs.declared.utf8.TextError.TheVariants.{NotUtf8, TooLong}

-- the words of an error
abbrev pub words : TextError → List ℕ
words NotUtf8 = codes "not UTF-8"
words TooLong = codes "longer than 1024 octets"

-- ---- Writing

-- a character is a number up to 10FFFF that is not one of D800 to DFFF (RFC 3629, section 3)
unfoldable pub is_character : ℕ → Bool
is_character n = ltb n 0xd800 || (leb 0xe000 n && ltb n 0x110000)

-- RFC 3629, section 3: the bits of a character in one to four octets, the highest first, six in each octet but the first
unfoldable pub utf8 : ℕ → List ℕ
utf8 n =
    cond (ltb n 0x80) (n ∷ [])
    (cond (ltb n 0x800) ((0xc0 + n / 64) ∷ (0x80 + n % 64) ∷ [])
    (cond (ltb n 0x10000) ((0xe0 + n / 4096) ∷ (0x80 + n / 64 % 64) ∷ (0x80 + n % 64) ∷ [])
    ((0xf0 + n / 262144) ∷ (0x80 + n / 4096 % 64) ∷ (0x80 + n / 64 % 64) ∷ (0x80 + n % 64) ∷ [])))

-- RFC 2781, section 2.1: one unit, or two, each with ten bits of what lies above FFFF
unfoldable pub utf16 : ℕ → List ℕ
utf16 n = cond (ltb n 0x10000) (n ∷ []) ((0xd800 + (n - 0x10000) / 1024) ∷ (0xdc00 + (n - 0x10000) % 1024) ∷ [])

-- the octets of characters, one after the other
unfoldable pub octets_of : List ℕ → List ℕ
octets_of [] = []
octets_of (c ∷ cs) = utf8 c ++ octets_of cs

-- the units of characters, one after the other
unfoldable pub units_of : List ℕ → List ℕ
units_of [] = []
units_of (c ∷ cs) = utf16 c ++ units_of cs

-- all are characters
abbrev pub Characters : List ℕ → Type 0
Characters cs = (i : ℕ) → i < length cs → is_character (get_or cs i 0) ≡ true

-- ---- What `units` answers

-- A text of at most 1,024 octets is read exactly when it is the octets of some characters, and then as their units. It is so of at most
-- one list of characters.
pub record ReadsExactly (text : List ℕ) (answer : Result (List ℕ) TextError) : Type 0 where
  pub too_long : 1024 < length text → answer ≡ Err TooLong
  pub always_then : (cs : List ℕ) → Characters cs → octets_of cs ≡ text → length text ≤ 1024 → answer ≡ Ok (units_of cs)
  pub only_then : length text ≤ 1024 → ((cs : List ℕ) → Characters cs → octets_of cs ≡ text → ⊥) → answer ≡ Err NotUtf8
  pub one_text : (cs ds : List ℕ) → Characters cs → Characters ds → octets_of cs ≡ text → octets_of ds ≡ text → cs ≡ ds

-- ---- Reading one character

-- how many octets a character takes, by its first
unfoldable pub width : ℕ → ℕ
width first = cond (ltb first 0x80) 1 (cond (ltb first 0xe0) 2 (cond (ltb first 0xf0) 3 4))

-- the bits of a character that stand in its first octet
unfoldable pub leading_bits : ℕ → ℕ
leading_bits first = cond (ltb first 0x80) first (cond (ltb first 0xe0) (first % 32) (cond (ltb first 0xf0) (first % 16) (first % 8)))

-- the number of some bits and six of each octet after them
unfoldable pub value_after : ℕ → List ℕ → ℕ
value_after n [] = n
value_after n (octet ∷ octets) = value_after (n * 64 + octet % 64) octets

-- the number that the octets of one character say
unfoldable pub value : List ℕ → ℕ
value octets = value_after (leading_bits (get_or octets 0 0)) (drop 1 octets)

-- the octets of the first character, by the first octet
unfoldable pub front : List ℕ → List ℕ
front octets = take (width (get_or octets 0 0)) octets

-- the character at the front of some octets: they begin as it is written
unfoldable pub character_in : List ℕ → Option Character
character_in octets =
    cond (leb (width (get_or octets 0 0)) (length octets) && (is_character (value (front octets)) && same (front octets) (utf8 (value (front octets)))))
    (Some (record { width = width (get_or octets 0 0); value = value (front octets) }))
    None
