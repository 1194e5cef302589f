-- HMAC-MD5: RFC 2104, section 2; and its state for a text that comes in parts.
use Rattle.std.specs.Prelude.{ℕ, ◌-◌, cond, List, ◌++◌, map, length, replicate, bit_xor, nat_le}
use Rattle.primitives.specs.Hash as Hash
use Rattle.primitives.specs.Hash.{md5}
use Rattle.primitives.specs.declared.hash.Algorithm.TheVariants.{Md5 as is_md5}
use Rattle.primitives.specs.declared.hash.Hash.{Hash as HashState}
use Rattle.primitives.specs.declared.hmac.Hmac.{Hmac}

-- B: the octets of a block
abbrev pub block_length : ℕ
block_length = 64

-- zeros appended, to the length of a block
unfoldable pub filled : List ℕ → List ℕ
filled key = key ++ replicate (block_length - length key) 0

-- K as a block: a key longer than a block is first hashed
unfoldable pub key_block : List ℕ → List ℕ
key_block key = cond (nat_le (length key) block_length) (filled key) (filled (md5 key))

-- each octet of a block xor the octet of a pad
unfoldable pub xor_pad : ℕ → List ℕ → List ℕ
xor_pad pad block = map (λ (x : ℕ). bit_xor x pad) block

-- H(K xor opad, H(K xor ipad, text)), with ipad the octet 36 and opad the octet 5C, each repeated
unfoldable pub hmac : List ℕ → List ℕ → List ℕ
hmac key text = md5 (xor_pad 0x5c (key_block key) ++ md5 (xor_pad 0x36 (key_block key) ++ text))

-- ---- A text in parts. Every value of the state is legal; one that no key leads to is taken as it stands.

-- the state of a hash after the key as a block, xor a pad
unfoldable pub after_key : ℕ → List ℕ → HashState
after_key pad key = Hash.absorb (Hash.begun is_md5) (xor_pad pad (key_block key))

-- before the first octet of the text
unfoldable pub begun : List ℕ → Hmac
begun key = record { inner = after_key 0x36 key; outer = after_key 0x5c key }

-- a part of the text more
unfoldable pub absorb : Hmac → List ℕ → Hmac
absorb h part = record { inner = Hash.absorb h.inner part; outer = h.outer }

-- the code of what has been absorbed
unfoldable pub finished : Hmac → List ℕ
finished h = Hash.finished (Hash.absorb h.outer (Hash.finished h.inner))
