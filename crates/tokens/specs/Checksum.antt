-- The keyed checksum: RFC 4757, section 4.
use Rattle.std.specs.Prelude.{ℕ, List, [], ◌∷◌, ◌++◌, length, Ok}
use Rattle.primitives.specs.Hash.{md5}
use Rattle.primitives.specs.Hmac.{hmac}
use Rattle.tokens.specs.Answer.{Outcome, require}
use Rattle.tokens.specs.Limits.{most_message, within}
use Rattle.tokens.specs.Octets.{same}
use Rattle.tokens.specs.Usage.{is_usage, type_octets}
use Rattle.tokens.specs.declared.answer.Refusal.TheVariants.{Length, Usage, Checksum}

-- "signaturekey", with its closing zero
abbrev pub signaturekey : List ℕ
signaturekey = 0x73 ∷ 0x69 ∷ 0x67 ∷ 0x6e ∷ 0x61 ∷ 0x74 ∷ 0x75 ∷ 0x72 ∷ 0x65 ∷ 0x6b ∷ 0x65 ∷ 0x79 ∷ 0x00 ∷ []

-- Ksign = HMAC(K, "signaturekey")
unfoldable pub signature_key : List ℕ → List ℕ
signature_key key = hmac key signaturekey

-- CHKSUM(K, T, data) = HMAC(Ksign, MD5(concat(T, data)))
unfoldable pub checksum : List ℕ → List ℕ → List ℕ → List ℕ
checksum key t text = hmac (signature_key key) (md5 (t ++ text))

-- what `checksum` answers
unfoldable pub keyed_checksum : List ℕ → ℕ → List ℕ → Outcome (List ℕ)
keyed_checksum key usage text =
    require (within 0 most_message (length text)) Length
    (require (is_usage usage) Usage
    (Ok (checksum key (type_octets usage) text)))

-- what `checksum_test` answers of a checksum that is handed in, which has sixteen octets
unfoldable pub checksum_test : List ℕ → ℕ → List ℕ → List ℕ → Outcome (List ℕ)
checksum_test key usage text given =
    require (within 0 most_message (length text)) Length
    (require (within 16 16 (length given)) Length
    (require (is_usage usage) Usage
    (require (same given (checksum key (type_octets usage) text)) Checksum
    (Ok given))))
