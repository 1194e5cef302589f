-- What MD4 and MD5 share of words: RFC 1320 and RFC 1321, sections 2 and 3.4.
use Rattle.std.specs.Prelude.{◌≡◌, ℕ, zero, suc, ◌+◌, ◌-◌, ◌*◌, ◌/◌, ◌%◌, ◌^◌, ◌<◌, List, [], bit_and, bit_or, bit_xor, slice_index, slice_index_or}
use Rattle.primitives.specs.declared.hash.Words.{Words}

-- X + Y, modulo 2^32
abbrev pub add : ℕ → ℕ → ℕ
add x y = (x + y) % 2 ^ 32

-- not(X)
abbrev pub complement : ℕ → ℕ
complement x = (2 ^ 32 - 1) - x

-- X <<< s: X shifted left by s places, 0 < s < 32, the bits that leave coming back on the right
abbrev pub rotate_left : ℕ → ℕ → ℕ
rotate_left x s = bit_or ((x * 2 ^ s) % 2 ^ 32) (x / 2 ^ (32 - s))

-- Section 3.4: F(X,Y,Z) = XY v not(X) Z
abbrev pub aux_f : ℕ → ℕ → ℕ → ℕ
aux_f x y z = bit_or (bit_and x y) (bit_and (complement x) z)

-- Section 3.4: H(X,Y,Z) = X xor Y xor Z
abbrev pub aux_h : ℕ → ℕ → ℕ → ℕ
aux_h x y z = bit_xor (bit_xor x y) z

-- the word X[j] of a block: four octets, the low-order one first
abbrev pub word_at : List ℕ → ℕ → ℕ
word_at block j =
    slice_index block (4 * j) + slice_index block (4 * j + 1) * 2 ^ 8 + slice_index block (4 * j + 2) * 2 ^ 16 + slice_index block (4 * j + 3) * 2 ^ 24

-- a compression's operations: what each, by its number, makes of the words and a block
abbrev pub Operation : Type 0
Operation = ℕ → Words → List ℕ → Words

-- the first n operations on a block, one after the other
unfoldable pub operations : Operation → ℕ → Words → List ℕ → Words
operations operation zero w block = w
operations operation (suc n) w block = operation n (operations operation n w block) block

-- the sums of the four words, each modulo 2^32
abbrev pub add_words : Words → Words → Words
add_words v w = record { a = add v.a w.a; b = add v.b w.b; c = add v.c w.c; d = add v.d w.d }

-- what a table of shift amounts, four for each round, has for operation n: sixteen operations to a round, its four used in turn
abbrev pub pick : List (List ℕ) → ℕ → ℕ
pick table n = slice_index (slice_index_or table (n / 16) []) (n % 4)

-- the shift rule: at each of the first `count` operations the pick is the amount that is printed
unfoldable pub ShiftRule : ℕ → List (List ℕ) → List ℕ → Type 0
ShiftRule count table printed = (n : ℕ) → n < count → pick table n ≡ slice_index printed n
