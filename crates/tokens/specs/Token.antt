-- What MIC and Wrap tokens have in common, RFC 4757, sections 7.2 and 7.3: the sequence number field SND_SEQ, the checksum
-- SGN_CKSUM, the keys Kseq and Kcrypt, and the first 24 octets.
use Rattle.std.specs.Prelude.{ℕ, ◌+◌, ◌*◌, ◌/◌, ◌%◌, List, [], ◌∷◌, ◌++◌, map, get_or, take, drop, replicate, Ok}
use Rattle.std.specs.Int.Bits.{bit_xor}
use Rattle.primitives.specs.Octets.{little_endian}
use Rattle.primitives.specs.Hmac.{hmac}
use Rattle.primitives.specs.Rc4.{rc4}
use Rattle.tokens.specs.Answer.{Outcome, require}
use Rattle.tokens.specs.Checksum.{checksum}
use Rattle.tokens.specs.Limits.{region}
use Rattle.tokens.specs.Octets.{same}
use Rattle.tokens.specs.Strength.{salt, export_fill}
use Rattle.tokens.specs.declared.answer.Refusal.TheVariants as Refusal
use Rattle.tokens.specs.declared.context.Context.{Context}
use Rattle.tokens.specs.declared.context.Sender.{Sender}
use Rattle.tokens.specs.declared.context.Sender.TheVariants.{Initiator, Acceptor}
use Rattle.tokens.specs.declared.strength.Strength.{Strength}

-- ---- SND_SEQ

-- how many sequence numbers there are: they are 0 to 2^32 - 1
abbrev pub sequence_numbers : ℕ
sequence_numbers = 4294967296

-- seq_num in four octets, the highest first
unfoldable pub sequence_octets : ℕ → List ℕ
sequence_octets n = n / 16777216 % 256 ∷ n / 65536 % 256 ∷ n / 256 % 256 ∷ n % 256 ∷ []

-- the direction octets of RFC 1964, section 1.2.1.2: 00 if the sender is the initiator, ff if the acceptor. The steps print them the
-- other way round; docs/RULES.md has both.
unfoldable pub direction : Sender → List ℕ
direction Initiator = replicate 4 0x00
direction Acceptor = replicate 4 0xff

-- SND_SEQ before it is encrypted
unfoldable pub sequence_field : Sender → ℕ → List ℕ
sequence_field sender n = sequence_octets n ++ direction sender

-- ---- SGN_CKSUM

-- the first eight octets of HMAC(Ksign, MD5(T, header, text)), for a message type T
unfoldable pub token_checksum : List ℕ → ℕ → List ℕ → List ℕ → List ℕ
token_checksum key type header text = take 8 (checksum key (little_endian 4 type) (header ++ text))

-- ---- Kseq and Kcrypt

-- what both begin with: HMAC(key, salt for T = 0), with the octets that export strength sets in K1 too. The steps print seven octets
-- here, where section 5 has nine; docs/RULES.md has both.
unfoldable pub salted_key : Strength → List ℕ → List ℕ
salted_key strength key = export_fill strength (hmac key (salt strength (little_endian 4 0)))

-- Kseq = HMAC(Kseq, SGN_CKSUM)
unfoldable pub sequence_key : Context → List ℕ → List ℕ
sequence_key context sum = hmac (salted_key context.strength context.key) sum

-- Klocal[i] = Kss[i] ^ 0xF0
unfoldable pub local_key : List ℕ → List ℕ
local_key key = map (λ (octet : ℕ). bit_xor octet 0xf0) key

-- Kcrypt = HMAC(Kcrypt, seq), the sequence number as in SND_SEQ
unfoldable pub sealing_key : Context → ℕ → List ℕ
sealing_key context n = hmac (salted_key context.strength (local_key context.key)) (sequence_octets n)

-- ---- The first 24 octets: the header, SND_SEQ under Kseq, and SGN_CKSUM

unfoldable pub front : Context → List ℕ → List ℕ → ℕ → List ℕ
front context header sum n = header ++ (rc4 (sequence_key context sum) (sequence_field context.sender n) ++ sum)

-- ---- Reading them

abbrev pub header_in : List ℕ → List ℕ
header_in octets = region 0 8 octets

abbrev pub checksum_in : List ℕ → List ℕ
checksum_in octets = region 16 8 octets

-- SND_SEQ, decrypted under the Kseq of the SGN_CKSUM that came
unfoldable pub field_in : Context → List ℕ → List ℕ
field_in context octets = rc4 (sequence_key context (checksum_in octets)) (region 8 8 octets)

-- the number whose four octets a sequence field begins with
unfoldable pub number_of : List ℕ → ℕ
number_of field = ((get_or field 0 0 * 256 + get_or field 1 0) * 256 + get_or field 2 0) * 256 + get_or field 3 0

-- the sequence number, if the direction octets are those of the expected sender
unfoldable pub number_in : Context → List ℕ → Outcome ℕ
number_in context octets =
    let field : List ℕ = field_in context octets in
    require (same (drop 4 field) (direction context.sender)) Refusal.Direction (Ok (number_of field))
