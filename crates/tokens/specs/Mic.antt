-- The MIC token: RFC 4757, section 7.2. The rule that writes one, what reading one gives, and that reading succeeds exactly on
-- what the rule writes.
use Rattle.std.specs.Prelude.{ℕ, ◌+◌, ◌<◌, ◌≤◌, ◌≡◌, List, [], ◌∷◌, length, Ok}
use Rattle.tokens.specs.Answer.{Outcome, require, and_then}
use Rattle.tokens.specs.Limits.{most_message, within, inside, region}
use Rattle.tokens.specs.Octets.{same}
use Rattle.tokens.specs.Token.{sequence_numbers, token_checksum, front, header_in, checksum_in, number_in}
use Rattle.tokens.specs.declared.answer.Refusal.TheVariants.{Length, Region, Header, Checksum}
use Rattle.tokens.specs.declared.context.Context.{Context}

-- ---- GetMIC

-- TOK_ID 01 01, SGN_ALG 11 00, Filler ff ff ff ff
unfoldable pub header : List ℕ
header = 0x01 ∷ 0x01 ∷ 0x11 ∷ 0x00 ∷ 0xff ∷ 0xff ∷ 0xff ∷ 0xff ∷ []

-- the message type in the checksum: section 3, "data signed in GSS MIC (T=15)", and the steps, "Key derivation salt = 15"
abbrev pub message_type : ℕ
message_type = 15

-- SGN_CKSUM, over the header and the text that is signed
unfoldable pub mic_checksum : Context → List ℕ → List ℕ
mic_checksum context text = token_checksum context.key message_type header text

-- the octets of a MIC token
unfoldable pub mic_token : Context → ℕ → List ℕ → List ℕ
mic_token context n text = front context header (mic_checksum context text) n

-- ---- The calls

abbrev pub mic_length : ℕ
mic_length = 24

-- what `mic_write` makes: the octets of the region
unfoldable pub mic_writing : Context → ℕ → List ℕ → List ℕ → ℕ → Outcome (List ℕ)
mic_writing context n text buf start =
    require (within 0 most_message (length text)) Length
    (require (inside start mic_length buf) Region
    (Ok (mic_token context n text)))

-- the sequence number of a MIC token over a text
unfoldable pub mic_number : Context → List ℕ → List ℕ → Outcome ℕ
mic_number context text octets =
    require (same (header_in octets) header) Header
    (and_then (number_in context octets) (λ (n : ℕ).
    require (same (checksum_in octets) (mic_checksum context text)) Checksum
    (Ok n)))

-- what `mic_read` finds in a region
unfoldable pub mic_reading : Context → List ℕ → List ℕ → ℕ → ℕ → Outcome ℕ
mic_reading context text buf start n =
    require (within 0 most_message (length text)) Length
    (require (within mic_length mic_length n) Length
    (require (inside start n buf) Region
    (mic_number context text (region start n buf))))

-- ---- Reading exactly what the rule writes

-- The published rule writes the MIC token of this sequence number over this text as exactly these octets. The number is below
-- 2^32 and the text is at most 32,768 octets.
pub record Written (context : Context) (text : List ℕ) (n : ℕ) (octets : List ℕ) : Type 0 where
  pub number_fits : n < sequence_numbers
  pub text_most : length text ≤ most_message
  pub as_written : mic_token context n text ≡ octets

-- Reading the region of n octets from start answers a refusal number and a sequence number. It answers the sequence number k
-- exactly when the region lies inside the buffer and the rule writes the token of k over the text as exactly the region's octets:
-- only then, and always then. There is one such number.
pub record ReadsExactly (context : Context) (text : List ℕ) (buf : List ℕ) (start n : ℕ) (refusal answered : ℕ) : Type 0 where
  pub only_then : refusal ≡ 0 → (start + n ≤ length buf) × Written context text answered (region start n buf)
  pub always_then : start + n ≤ length buf → (k : ℕ) → Written context text k (region start n buf) → (refusal ≡ 0) × (answered ≡ k)
  pub one_number : (j k : ℕ) → Written context text j (region start n buf) → Written context text k (region start n buf) → j ≡ k
