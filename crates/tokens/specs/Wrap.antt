-- The Wrap token: RFC 4757, section 7.3. The rule that writes one, what opening one gives, and that opening succeeds exactly on
-- what the rule writes.
use Rattle.std.specs.Prelude.{ℕ, ◌+◌, ◌-◌, ◌<◌, ◌≤◌, ◌≡◌, Bool, true, false, cond, List, [], ◌∷◌, ◌++◌, eqb, length, get_or, take, drop, Ok}
use Rattle.primitives.specs.Octets.{Octets}
use Rattle.primitives.specs.Rc4.{rc4}
use Rattle.tokens.specs.Answer.{Outcome, map_ok, require, and_then}
use Rattle.tokens.specs.Limits.{most_message, within, inside, region}
use Rattle.tokens.specs.Octets.{same}
use Rattle.tokens.specs.Token.{sequence_numbers, token_checksum, sealing_key, front, header_in, checksum_in, number_in}
use Rattle.tokens.specs.declared.answer.Refusal.TheVariants as refusal
use Rattle.tokens.specs.declared.answer.Unwrapped.{Unwrapped}
use Rattle.tokens.specs.declared.context.Context.{Context}

-- ---- WRAP

-- what a Wrap token holds
pub record Parts : Type 0 where
  pub sequence : ℕ
  pub sealed : Bool
  pub confounder : List ℕ
  pub message : List ℕ

abbrev pub parts : ℕ → Bool → List ℕ → List ℕ → Parts
parts n sealed confounder message = record { sequence = n; sealed = sealed; confounder = confounder; message = message }

-- TOK_ID 02 01, SGN_ALG 11 00, SEAL_ALG 10 00 if sealed and else ff ff, Filler ff ff
unfoldable pub header : Bool → List ℕ
header true = 0x02 ∷ 0x01 ∷ 0x11 ∷ 0x00 ∷ 0x10 ∷ 0x00 ∷ 0xff ∷ 0xff ∷ []
header false = 0x02 ∷ 0x01 ∷ 0x11 ∷ 0x00 ∷ 0xff ∷ 0xff ∷ 0xff ∷ 0xff ∷ []

-- the pad: one octet, which says that there is one octet of padding
abbrev pub pad : ℕ
pad = 0x01

-- confounder, message and pad, plain
unfoldable pub plain : Parts → List ℕ
plain p = p.confounder ++ (p.message ++ pad ∷ [])

-- the message type in the checksum: section 3, "data encrypted with GSS Wrap (T=13)". The steps print 15; docs/RULES.md has both.
abbrev pub message_type : ℕ
message_type = 13

-- SGN_CKSUM, over the header and the plain text
unfoldable pub wrap_checksum : Context → Bool → List ℕ → List ℕ
wrap_checksum context sealed text = token_checksum context.key message_type (header sealed) text

-- a text under Kcrypt as one stream, if the token is sealed
unfoldable pub under_seal : Context → Bool → ℕ → List ℕ → List ℕ
under_seal context true n text = rc4 (sealing_key context n) text
under_seal context false n text = text

-- the octets of a Wrap token
unfoldable pub wrap_token : Context → Parts → List ℕ
wrap_token context p =
    front context (header p.sealed) (wrap_checksum context p.sealed (plain p)) p.sequence
    ++ under_seal context p.sealed p.sequence (plain p)

-- ---- The calls

-- the octets before the message
abbrev pub message_at : ℕ
message_at = 32

-- the length of a token with a message of n octets: the pad follows the message
abbrev pub wrap_length : ℕ → ℕ
wrap_length n = 33 + n

-- what `wrap_write` makes of the n octets that stand 32 after the start: the octets of the region
unfoldable pub wrap_writing : Context → ℕ → List ℕ → Bool → List ℕ → ℕ → ℕ → Outcome (List ℕ)
wrap_writing context sequence confounder sealed buf start n =
    require (within 0 most_message n) refusal.Length
    (require (inside start (wrap_length n) buf) refusal.Region
    (Ok (wrap_token context (parts sequence sealed confounder (region (start + message_at) n buf)))))

-- whether a token is sealed, if its header is one of the two
unfoldable pub sealed_in : List ℕ → Outcome Bool
sealed_in octets =
    cond (same (header_in octets) (header true)) (Ok true)
    (require (same (header_in octets) (header false)) refusal.Header (Ok false))

-- a plain text as the parts of a token: confounder, message and the last octet
abbrev pub apart : ℕ → Bool → List ℕ → Parts
apart n sealed text = parts n sealed (take 8 text) (take (length text - 9) (drop 8 text))

-- a plain text, if its checksum is the one that came and its last octet is the pad
unfoldable pub verified : Context → Bool → List ℕ → List ℕ → Outcome (List ℕ)
verified context sealed sum text =
    require (same sum (wrap_checksum context sealed text)) refusal.Checksum
    (require (eqb (get_or text (length text - 1) 0) pad) refusal.Pad
    (Ok text))

-- what the octets of a Wrap token hold
unfoldable pub opened : Context → List ℕ → Outcome Parts
opened context octets =
    and_then (sealed_in octets) (λ (sealed : Bool).
    and_then (number_in context octets) (λ (n : ℕ).
    and_then (verified context sealed (checksum_in octets) (under_seal context sealed n (drop 24 octets))) (λ (text : List ℕ).
    Ok (apart n sealed text))))

-- what `wrap_open` finds in a region
unfoldable pub wrap_opening : Context → List ℕ → ℕ → ℕ → Outcome Parts
wrap_opening context buf start n =
    require (within (wrap_length 0) (wrap_length most_message) n) refusal.Length
    (require (inside start n buf) refusal.Region
    (opened context (region start n buf)))

-- what `wrap_open` answers
abbrev pub unwrapped : Parts → Unwrapped
unwrapped p = record { sequence = p.sequence; sealed = p.sealed; length = length p.message }

abbrev pub unwrapped_answer : Outcome Parts → Outcome Unwrapped
unwrapped_answer o = map_ok unwrapped o

-- ---- Opening exactly what the rule writes

-- The published rule writes these parts as exactly these octets. The sequence number is below 2^32, the confounder is eight octets
-- and the message is at most 32,768.
pub record Written (context : Context) (p : Parts) (octets : List ℕ) : Type 0 where
  pub number_fits : p.sequence < sequence_numbers
  pub confounder_eight : length p.confounder ≡ 8
  pub confounder_octets : Octets p.confounder
  pub message_most : length p.message ≤ most_message
  pub message_octets : Octets p.message
  pub as_written : wrap_token context p ≡ octets

-- The refusal number is that of done; sequence number, sealed and length are those of the parts; and in the buffer the confounder
-- stands at octets 24 to 31 of the region, and from octet 32 the message and then the pad.
pub record HandedBack (p : Parts) (start : ℕ) (refusal sequence : ℕ) (sealed : Bool) (answered : ℕ) (after : List ℕ) : Type 0 where
  pub done_is : refusal ≡ 0
  pub sequence_is : sequence ≡ p.sequence
  pub sealed_is : sealed ≡ p.sealed
  pub length_is : answered ≡ length p.message
  pub confounder_stands : region (start + 24) 8 after ≡ p.confounder
  pub message_stands : region (start + 32) (length p.message + 1) after ≡ p.message ++ pad ∷ []

-- Opening the region of n octets from start answers a refusal number, a sequence number, sealed or not, and a length, and leaves the
-- buffer as `after`. It succeeds exactly when the region lies inside the buffer and the rule writes some parts as exactly the
-- region's octets: only then, and always then. There is one such set of parts, and it is handed back.
pub record OpensExactly (context : Context) (buf : List ℕ) (start n : ℕ) (refusal sequence : ℕ) (sealed : Bool) (answered : ℕ) (after : List ℕ) : Type 0 where
  pub only_then : refusal ≡ 0 → (start + n ≤ length buf) × ((p : Parts) × Written context p (region start n buf))
  pub always_then : start + n ≤ length buf → (p : Parts) → Written context p (region start n buf) → HandedBack p start refusal sequence sealed answered after
  pub one_set : (p q : Parts) → Written context p (region start n buf) → Written context q (region start n buf) → p ≡ q
