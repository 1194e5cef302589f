-- The fifteen usages and their message types: RFC 4757, section 3.
use Rattle.std.specs.Prelude.{ℕ, ◌-◌, Bool, List, [], ◌∷◌, get_or, Result, Ok}
use Rattle.tokens.specs.Answer.{require}
use Rattle.primitives.specs.Octets.{little_endian}
use Rattle.tokens.specs.Limits.{within}
use Rattle.tokens.specs.declared.answer.Refusal.TheVariants as refusal
use Rattle.tokens.specs.declared.answer.Refusal.{Refusal}
use Rattle.tokens.specs.declared.usage.Usage.{Usage}

-- usages are counted from 1
abbrev pub least_usage : ℕ
least_usage = 1

abbrev pub most_usage : ℕ
most_usage = 15

abbrev pub is_usage : ℕ → Bool
is_usage usage = within least_usage most_usage usage

-- the message types as the list has them, from usage 1 to usage 15
abbrev pub message_types : List ℕ
message_types = 1 ∷ 2 ∷ 8 ∷ 4 ∷ 5 ∷ 6 ∷ 7 ∷ 8 ∷ 8 ∷ 10 ∷ 11 ∷ 12 ∷ 13 ∷ 14 ∷ 15 ∷ []

unfoldable pub message_type : ℕ → ℕ
message_type usage = get_or message_types (usage - least_usage) 0

-- T: the message type, encoded as a little-endian four-byte integer
unfoldable pub type_octets : ℕ → List ℕ
type_octets usage = little_endian 4 (message_type usage)

-- the usage of a number, if it is one of the fifteen
unfoldable pub named : ℕ → Result Usage Refusal
named number = require (is_usage number) refusal.Usage (Ok (record { t = type_octets number }))
