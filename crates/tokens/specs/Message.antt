-- The encrypted message: RFC 4757, section 5. The rule that writes one, what reading one gives, and that reading succeeds exactly
-- on what the rule writes.
use Rattle.std.specs.Prelude.{ℕ, ◌+◌, ◌≤◌, ◌≡◌, List, ◌++◌, length, take, drop, Ok}
use Rattle.primitives.specs.Octets.{Octets}
use Rattle.primitives.specs.Hmac.{hmac}
use Rattle.primitives.specs.Rc4.{rc4}
use Rattle.tokens.specs.Answer.{Outcome, require}
use Rattle.tokens.specs.Limits.{most_message, within, inside, region}
use Rattle.tokens.specs.Octets.{same}
use Rattle.tokens.specs.Strength.{salt, export_fill}
use Rattle.tokens.specs.Usage.{least_usage, most_usage, is_usage, type_octets}
use Rattle.tokens.specs.declared.answer.Refusal.TheVariants.{Length, Region, Usage, Checksum}
use Rattle.tokens.specs.declared.strength.Strength.{Strength}

-- ---- ENCRYPT

-- what an encrypted message holds: Confounder and Data
pub record Parts : Type 0 where
  pub confounder : List ℕ
  pub message : List ℕ

abbrev pub parts : List ℕ → List ℕ → Parts
parts confounder message = record { confounder = confounder; message = message }

-- the length of the message
abbrev pub message_length : Parts → ℕ
message_length p = length p.message

-- confounder and message, plain
unfoldable pub plain : Parts → List ℕ
plain p = p.confounder ++ p.message

-- K2 = HMAC(K, salt for T): K1 before export strength sets any of its octets
unfoldable pub k2 : List ℕ → Strength → List ℕ → List ℕ
k2 key strength t = hmac key (salt strength t)

-- K1, with the octets that export strength sets
unfoldable pub k1 : List ℕ → Strength → List ℕ → List ℕ
k1 key strength t = export_fill strength (k2 key strength t)

-- K3 = HMAC(K1, Checksum)
unfoldable pub k3 : List ℕ → Strength → List ℕ → List ℕ → List ℕ
k3 key strength t sum = hmac (k1 key strength t) sum

-- Checksum = HMAC(K2, confounder and message)
unfoldable pub message_checksum : List ℕ → Strength → List ℕ → List ℕ → List ℕ
message_checksum key strength t text = hmac (k2 key strength t) text

-- the octets of an encrypted message: the checksum, and then confounder and message under K3 as one stream
unfoldable pub encrypt : List ℕ → Strength → List ℕ → Parts → List ℕ
encrypt key strength t p =
    let sum : List ℕ = message_checksum key strength t (plain p) in
    sum ++ rc4 (k3 key strength t sum) (plain p)

-- ---- The calls

-- what encrypting places in the buffer: all the octets of its result
abbrev pub all_octets : List ℕ → List ℕ
all_octets octets = octets

-- octets before the message: the checksum's sixteen and the confounder's eight
abbrev pub overhead : ℕ
overhead = 24

-- what `encrypt` makes of the n octets that stand 24 after the start: the octets of the region
unfoldable pub encryption : List ℕ → Strength → ℕ → List ℕ → List ℕ → ℕ → ℕ → Outcome (List ℕ)
encryption key strength usage confounder buf start n =
    require (within 0 most_message n) Length
    (require (inside start (overhead + n) buf) Region
    (require (is_usage usage) Usage
    (Ok (encrypt key strength (type_octets usage) (parts confounder (region (start + overhead) n buf))))))

-- DECRYPT: confounder and message of an encrypted message, by the K3 of the checksum that it has
unfoldable pub decrypted : List ℕ → Strength → List ℕ → List ℕ → List ℕ
decrypted key strength t octets = rc4 (k3 key strength t (take 16 octets)) (drop 16 octets)

-- a plain text as confounder and message
abbrev pub apart : List ℕ → Parts
apart text = parts (take 8 text) (drop 8 text)

-- what the octets of an encrypted message hold, if its checksum is theirs
unfoldable pub opened : List ℕ → Strength → List ℕ → List ℕ → Outcome Parts
opened key strength t octets =
    let text : List ℕ = decrypted key strength t octets in
    require (same (take 16 octets) (message_checksum key strength t text)) Checksum (Ok (apart text))

-- what `decrypt` finds in a region
unfoldable pub decryption : List ℕ → Strength → ℕ → List ℕ → ℕ → ℕ → Outcome Parts
decryption key strength usage buf start n =
    require (within overhead (overhead + most_message) n) Length
    (require (inside start n buf) Region
    (require (is_usage usage) Usage
    (opened key strength (type_octets usage) (region start n buf))))

-- ---- Reading exactly what the rule writes

-- The published rule writes these parts, for this usage, as exactly these octets. The usage is one of the fifteen, the confounder
-- is eight octets and the message is at most 32,768.
pub record Written (key : List ℕ) (strength : Strength) (usage : ℕ) (p : Parts) (octets : List ℕ) : Type 0 where
  pub usage_least : least_usage ≤ usage
  pub usage_most : usage ≤ most_usage
  pub confounder_eight : length p.confounder ≡ 8
  pub confounder_octets : Octets p.confounder
  pub message_most : length p.message ≤ most_message
  pub message_octets : Octets p.message
  pub as_written : encrypt key strength (type_octets usage) p ≡ octets

-- The number is that of done, the answered length is the message's, and in the buffer the confounder stands at octets 16 to 23 of
-- the region and the message from octet 24.
pub record HandedBack (p : Parts) (start : ℕ) (number answered : ℕ) (after : List ℕ) : Type 0 where
  pub done_is : number ≡ 0
  pub length_is : answered ≡ length p.message
  pub confounder_stands : region (start + 16) 8 after ≡ p.confounder
  pub message_stands : region (start + 24) (length p.message) after ≡ p.message

-- Reading the region of n octets from start answers a number and a length, and leaves the buffer as `after`. It succeeds exactly
-- when the region lies inside the buffer and the rule writes some parts as exactly the region's octets: only then, and always
-- then. There is one such set of parts, and it is handed back.
pub record ReadsExactly (key : List ℕ) (strength : Strength) (usage : ℕ) (buf : List ℕ) (start n : ℕ) (number answered : ℕ) (after : List ℕ) : Type 0 where
  pub only_then : number ≡ 0 → (start + n ≤ length buf) × ((p : Parts) × Written key strength usage p (region start n buf))
  pub always_then : start + n ≤ length buf → (p : Parts) → Written key strength usage p (region start n buf) → HandedBack p start number answered after
  pub one_set : (p q : Parts) → Written key strength usage p (region start n buf) → Written key strength usage q (region start n buf) → p ≡ q
