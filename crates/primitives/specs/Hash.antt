-- MD4 and MD5 of a message: RFC 1320 and RFC 1321, sections 3.1 to 3.5; and the state of a digest whose message comes in parts.
use Rattle.std.specs.Prelude.{ℕ, zero, suc, ◌+◌, ◌-◌, ◌*◌, ◌/◌, ◌%◌, ◌^◌, cond, List, [], ◌∷◌, ◌++◌, length, take, drop, replicate, ◌==◌, slice_set}
use Rattle.primitives.specs.Octets.{little_endian}
use Rattle.primitives.specs.Md4 as Md4
use Rattle.primitives.specs.Md5 as Md5
use Rattle.primitives.specs.declared.hash.Words.{Words}
use Rattle.primitives.specs.declared.hash.Algorithm.{Algorithm}
use Rattle.primitives.specs.declared.hash.Algorithm.TheVariants.{Md4 as is_md4, Md5 as is_md5}
use Rattle.primitives.specs.declared.hash.Hash.{Hash}

-- Section 3.1: after n octets and the octet 80, the fewest zeros that lead to a length of 56 modulo 64
abbrev pub zeros : ℕ → ℕ
zeros n = (119 - n % 64) % 64

-- Sections 3.1 and 3.2: after a message of n octets the octet 80, zeros, and the number of bits as eight octets, the lowest
-- first; of a number that needs more than eight, the low-order eight
unfoldable pub padding : ℕ → List ℕ
padding n = 0x80 ∷ replicate (zeros n) 0 ++ little_endian 8 (8 * n)

abbrev pub padded : List ℕ → List ℕ
padded message = message ++ padding (length message)

-- how many blocks of 64 octets that is
abbrev pub blocks : List ℕ → ℕ
blocks message = length (padded message) / 64

-- Section 3.3: the words A, B, C and D before the first block
abbrev pub initial : Words
initial = record { a = 0x67452301; b = 0xefcdab89; c = 0x98badcfe; d = 0x10325476 }

-- Section 3.4: one block
abbrev pub compress : Algorithm → Words → List ℕ → Words
compress is_md4 w block = Md4.compress w block
compress is_md5 w block = Md5.compress w block

-- the words after the first n blocks of 64 octets
unfoldable pub after_blocks : Algorithm → ℕ → List ℕ → Words
after_blocks g zero octets = initial
after_blocks g (suc n) octets = compress g (after_blocks g n octets) (take 64 (drop (64 * n) octets))

-- Section 3.5: A, B, C and D, each with its low-order octet first
unfoldable pub output : Words → List ℕ
output w = little_endian 4 w.a ++ (little_endian 4 w.b ++ (little_endian 4 w.c ++ little_endian 4 w.d))

-- the digest of a message
unfoldable pub digest : Algorithm → List ℕ → List ℕ
digest g message = output (after_blocks g (blocks message) (padded message))

abbrev pub md4 : List ℕ → List ℕ
md4 message = digest is_md4 message

abbrev pub md5 : List ℕ → List ℕ
md5 message = digest is_md5 message

-- ---- A message in parts. Every value of the state is legal. The documents say nothing of a state that no message leads to:
-- its words, block and count are then taken as they stand.

-- before the first octet
abbrev pub begun : Algorithm → Hash
begun g = record { algorithm = g; words = initial; block = replicate 64 0; count = 0 }

-- one octet more: it stands in the block at the count modulo 64, and the block is compressed when it is full
unfoldable pub put : Hash → ℕ → Hash
put h x =
    let b : List ℕ = slice_set h.block (h.count % 64) x in
    record {
      algorithm = h.algorithm;
      words = cond (h.count % 64 == 63) (compress h.algorithm h.words b) h.words;
      block = b;
      count = (h.count + 1) % 2 ^ 64;
    }

-- a part more
unfoldable pub absorb : Hash → List ℕ → Hash
absorb h [] = h
absorb h (x ∷ xs) = absorb (put h x) xs

-- several parts more, in turn
unfoldable pub absorb_each : Hash → List (List ℕ) → Hash
absorb_each h [] = h
absorb_each h (part ∷ parts) = absorb_each (absorb h part) parts

-- the digest of what has been absorbed
unfoldable pub finished : Hash → List ℕ
finished h = output (absorb h (padding h.count)).words
