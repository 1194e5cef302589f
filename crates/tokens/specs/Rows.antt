-- The rows to be proved: a table of left and right sides, and that each left side works out to its right side.
use Rattle.std.specs.Prelude.{◌≡◌, refl, List, [], ◌∷◌, map, ℕ, replicate}
use Rattle.primitives.specs.Octets.{little_endian}
use Rattle.primitives.specs.Word.{operations}
use Rattle.primitives.specs.Md4 as Md4
use Rattle.primitives.specs.Hash.{padding, blocks, after_blocks, output, digest}
use Rattle.tokens.specs.Checksum.{signaturekey}
use Rattle.tokens.specs.Key.{unicode, string_to_key}
use Rattle.tokens.specs.Limits.{placed}
use Rattle.tokens.specs.Strength.{salt, export_fill}
use Rattle.tokens.specs.Token.{sequence_octets, direction, sequence_field}
use Rattle.tokens.specs.Usage.{message_type, type_octets}
use Rattle.tokens.specs.Wrap.{wrap_length}
use Rattle.tokens.specs.declared.context.Sender.TheVariants.{Initiator, Acceptor}
use Rattle.tokens.specs.declared.strength.Strength.TheVariants.{Full, Export}

pub record Row : Type 0 where
  pub left : List ℕ
  pub right : List ℕ

abbrev pub row : List ℕ → List ℕ → Row
row l r = record { left = l; right = r }

-- the octets 00 to 0f
abbrev pub counted : List ℕ
counted = 0x00 ∷ 0x01 ∷ 0x02 ∷ 0x03 ∷ 0x04 ∷ 0x05 ∷ 0x06 ∷ 0x07 ∷ 0x08 ∷ 0x09 ∷ 0x0a ∷ 0x0b ∷ 0x0c ∷ 0x0d ∷ 0x0e ∷ 0x0f ∷ []

-- the units of "foo"
abbrev pub foo : List ℕ
foo = 0x66 ∷ 0x6f ∷ 0x6f ∷ []

-- the blocks of a message of n octets, padded
abbrev pub blocks_of : ℕ → ℕ
blocks_of n = blocks (replicate n 0)

unfoldable pub rows : List Row
rows =
    -- A: plain SND_SEQ, 16,909,060, initiator
    row (sequence_field Initiator 16909060) (0x01 ∷ 0x02 ∷ 0x03 ∷ 0x04 ∷ 0x00 ∷ 0x00 ∷ 0x00 ∷ 0x00 ∷ [])
    -- B: plain SND_SEQ, 4,294,967,295, acceptor
    ∷ row (sequence_field Acceptor 4294967295) (0xff ∷ 0xff ∷ 0xff ∷ 0xff ∷ 0xff ∷ 0xff ∷ 0xff ∷ 0xff ∷ [])
    -- C: full salt of usage 3
    ∷ row (salt Full (type_octets 3)) (0x08 ∷ 0x00 ∷ 0x00 ∷ 0x00 ∷ [])
    -- D: full salt of usage 15
    ∷ row (salt Full (type_octets 15)) (0x0f ∷ 0x00 ∷ 0x00 ∷ 0x00 ∷ [])
    -- E: export salt of usage 9
    ∷ row (salt Export (type_octets 9)) (0x66 ∷ 0x6f ∷ 0x72 ∷ 0x74 ∷ 0x79 ∷ 0x62 ∷ 0x69 ∷ 0x74 ∷ 0x73 ∷ 0x00 ∷ 0x08 ∷ 0x00 ∷ 0x00 ∷ 0x00 ∷ [])
    -- F: "signaturekey"
    ∷ row signaturekey (0x73 ∷ 0x69 ∷ 0x67 ∷ 0x6e ∷ 0x61 ∷ 0x74 ∷ 0x75 ∷ 0x72 ∷ 0x65 ∷ 0x6b ∷ 0x65 ∷ 0x79 ∷ 0x00 ∷ [])
    -- G: octets 00..0f after the AB fill of an encrypted message
    ∷ row (export_fill Export counted) (0x00 ∷ 0x01 ∷ 0x02 ∷ 0x03 ∷ 0x04 ∷ 0x05 ∷ 0x06 ∷ 0xab ∷ 0xab ∷ 0xab ∷ 0xab ∷ 0xab ∷ 0xab ∷ 0xab ∷ 0xab ∷ 0xab ∷ [])
    -- H: the same after the fill of a token, which is the same fill
    ∷ row (export_fill Export counted) (0x00 ∷ 0x01 ∷ 0x02 ∷ 0x03 ∷ 0x04 ∷ 0x05 ∷ 0x06 ∷ 0xab ∷ 0xab ∷ 0xab ∷ 0xab ∷ 0xab ∷ 0xab ∷ 0xab ∷ 0xab ∷ 0xab ∷ [])
    -- I: blocks padded for lengths 0, 55, 56, 64
    ∷ row (blocks_of 0 ∷ blocks_of 55 ∷ blocks_of 56 ∷ blocks_of 64 ∷ []) (1 ∷ 1 ∷ 2 ∷ 2 ∷ [])
    -- J: Wrap lengths for messages 0 and 32,768
    ∷ row (wrap_length 0 ∷ wrap_length 32768 ∷ []) (33 ∷ 32801 ∷ [])
    -- K: units of "foo"
    ∷ row (unicode foo) (0x66 ∷ 0x00 ∷ 0x6f ∷ 0x00 ∷ 0x6f ∷ 0x00 ∷ [])
    -- L: key of "foo"
    ∷ row (string_to_key foo) (0xac ∷ 0x8e ∷ 0x65 ∷ 0x7f ∷ 0x83 ∷ 0xdf ∷ 0x82 ∷ 0xbe ∷ 0xea ∷ 0x5d ∷ 0x43 ∷ 0xbd ∷ 0xaf ∷ 0x78 ∷ 0x00 ∷ 0xcc ∷ [])
    ∷ []

-- each left side works out to its right side
pub rows_hold : map (λ (r : Row). r.left) rows ≡ map (λ (r : Row). r.right) rows
unfolding rows sequence_field sequence_octets direction salt type_octets message_type little_endian export_fill placed padding unicode string_to_key digest after_blocks output operations Md4.compress Md4.operation Md4.words Md4.shifts
rows_hold = refl
