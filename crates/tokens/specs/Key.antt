-- The key of a password: RFC 4757, section 2.
use Rattle.std.specs.Prelude.{ℕ, List, [], ◌∷◌, ◌++◌, length, Ok}
use Rattle.primitives.specs.Octets.{little_endian}
use Rattle.primitives.specs.Hash.{md4}
use Rattle.tokens.specs.Answer.{Outcome, require}
use Rattle.tokens.specs.Limits.{most_units, within}
use Rattle.tokens.specs.declared.answer.Refusal.TheVariants.{Length}

-- UNICODE(password): each unit in two octets, the low one first, without a closing zero
unfoldable pub unicode : List ℕ → List ℕ
unicode [] = []
unicode (unit ∷ units) = little_endian 2 unit ++ unicode units

-- String2Key(password) = MD4(UNICODE(password))
unfoldable pub string_to_key : List ℕ → List ℕ
string_to_key units = md4 (unicode units)

-- what `password_key` answers
unfoldable pub password_key : List ℕ → Outcome (List ℕ)
password_key units = require (within 0 most_units (length units)) Length (Ok (string_to_key units))
