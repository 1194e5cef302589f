-- Numbers in decimal: what digits say, and which texts are numbers.
use Rattle.std.specs.Prelude.{ℕ, ◌+◌, ◌*◌, ◌-◌, Bool, true, cond, ◌&&◌, List, [], ◌∷◌, leb, ltb, length, Option, Some, None}

-- what a digit stands for, 0 to 9, and 10 for any other octet
abbrev pub value : ℕ → ℕ
value c = cond (leb 48 c && ltb c 58) (c - 48) 10

-- all are digits
unfoldable pub are_digits : List ℕ → Bool
are_digits [] = true
are_digits (c ∷ text) = ltb (value c) 10 && are_digits text

-- the number that digits say, after a number that stands before them
unfoldable pub value_after : ℕ → List ℕ → ℕ
value_after n [] = n
value_after n (c ∷ text) = value_after (10 * n + value c) text

-- a text is a number if it is one digit or more, and says at most 2^32 - 1
unfoldable pub read : List ℕ → Option ℕ
read text = cond (leb 1 (length text) && (are_digits text && leb (value_after 0 text) 4294967295)) (Some (value_after 0 text)) None
