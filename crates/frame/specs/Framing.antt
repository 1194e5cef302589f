-- The outer frame of a token: RFC 2743, section 3.1. The rule that writes one, what stands at the front of some octets, and reading a
-- region that is a frame. All of it is said over the rule that writes.
use Rattle.std.specs.Prelude.{ℕ, ◌+◌, ◌-◌, ◌<◌, ◌≡◌, Bool, true, List, [], ◌∷◌, ◌++◌, length, take, drop, Ok}
use Rattle.tokens.specs.Answer.{Outcome, require, and_then}
use Rattle.tokens.specs.Limits.{inside, region}
use Rattle.tokens.specs.Octets.{same}
use Rattle.tokens.specs.declared.answer.Refusal.TheVariants as refusal
use Rattle.frame.specs.Length.{der_length, width_in, Used}
use Rattle.frame.specs.declared.framing.Framing.{Framing}
use Rattle.frame.specs.declared.framing.Framing.TheVariants.{Token, Incomplete, Fault}

-- ---- Writing

-- the token tag: [APPLICATION 0], constructed, with a definite length after it
abbrev pub tag : ℕ
tag = 0x60

-- thisMech: the object identifier of Kerberos, 1.2.840.113554.1.2.2 (RFC 1964, section 1), with its own tag and length
unfoldable pub mechanism : List ℕ
mechanism = 0x06 ∷ 0x09 ∷ 0x2a ∷ 0x86 ∷ 0x48 ∷ 0x86 ∷ 0xf7 ∷ 0x12 ∷ 0x01 ∷ 0x02 ∷ 0x02 ∷ []

-- what the token length counts: the octets of the mechanism, eleven, and those of the token inside
abbrev pub contents : ℕ → ℕ
contents n = 11 + n

-- what stands before a token of n octets
unfoldable pub lead : ℕ → List ℕ
lead n = tag ∷ der_length (contents n) ++ mechanism

abbrev pub lead_length : ℕ → ℕ
lead_length n = length (lead n)

-- the octets of a framed token
unfoldable pub frame : List ℕ → List ℕ
frame token = lead (length token) ++ token

-- ---- The front of some octets

-- octets begin with the frame of a token, which has so many octets before the token and so many in it
pub record Front (octets : List ℕ) (before n : ℕ) : Type 0 where
  pub token : List ℕ
  pub rest : List ℕ
  pub octets_are : octets ≡ frame token ++ rest
  pub before_is : before ≡ lead_length (length token)
  pub length_is : n ≡ length token

-- octets are the beginning of a frame, and more is needed
pub record Begun (octets : List ℕ) : Type 0 where
  pub token : List ℕ
  pub more : List ℕ
  pub some_more : 0 < length more
  pub used : Used (contents (length token))
  pub whole_is : octets ++ more ≡ frame token

-- What stands at the front of some octets. There is one answer for all octets (`one_front` of `proofs/Laws.antt`).
abbrev pub FrontIs : List ℕ → Framing → Type 0
FrontIs octets (Token before n) = Front octets before n
FrontIs octets Incomplete = Begun octets
FrontIs octets Fault = ((before n : ℕ) → Front octets before n → ⊥) × (Begun octets → ⊥)

-- two lists are the same as far as both go
unfoldable pub agree : List ℕ → List ℕ → Bool
agree xs ys = same (take (length ys) xs) (take (length xs) ys)

-- ---- A region that is a frame

-- how many octets stand before the token in a frame, by the first octet of its length
abbrev pub lead_width : List ℕ → ℕ
lead_width octets = 12 + width_in (drop 1 octets)

-- whether octets are what the rule writes around those that stand after the lead
unfoldable pub is_frame : List ℕ → Bool
is_frame octets = same octets (frame (drop (lead_width octets) octets))

-- the octets before the token, if some octets are one whole frame
unfoldable pub lead_of : List ℕ → Outcome ℕ
lead_of octets = require (is_frame octets) refusal.Frame (Ok (lead_width octets))

-- the same for the region of n octets from start: 2, then 9
unfoldable pub lead_in : List ℕ → ℕ → ℕ → Outcome ℕ
lead_in buf start n = require (inside start n buf) refusal.Region (lead_of (region start n buf))

-- what reading a framed token gives: 2, 9, and then what reading the token gives, which is told where it starts and how many octets it has
unfoldable pub read_framed : {A : Type 0} → (ℕ → ℕ → Outcome A) → List ℕ → ℕ → ℕ → Outcome A
read_framed read buf start n = and_then (lead_in buf start n) (λ (lead : ℕ). read (start + lead) (n - lead))

-- ---- Reading exactly what the rule writes

-- the rule writes the frame around a token, of which this holds, as exactly these octets
pub record Framed (Holds : List ℕ → Type 0) (octets : List ℕ) : Type 0 where
  pub token : List ℕ
  pub holds : Holds token
  pub as_framed : frame token ≡ octets

-- Octets are a frame exactly when the rule writes them around some token: only then, and always then. There is one such token. For all
-- octets (`frames_exactly` of `proofs/Laws.antt`).
pub record FramesExactly (octets : List ℕ) : Type 0 where
  pub only_then : is_frame octets ≡ true → frame (drop (lead_width octets) octets) ≡ octets
  pub always_then : (token : List ℕ) → frame token ≡ octets → (is_frame octets ≡ true) × (lead_width octets ≡ lead_length (length token))
  pub one_token : (s t : List ℕ) → frame s ≡ octets → frame t ≡ octets → s ≡ t
