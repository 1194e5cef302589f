-- What the strength of a key changes: the salt, and a key's octets that export strength sets. RFC 4757, section 5.
use Rattle.std.specs.Prelude.{ℕ, List, [], ◌∷◌, ◌++◌, replicate}
use Rattle.tokens.specs.Limits.{placed}
use Rattle.tokens.specs.declared.strength.Strength.{Strength}
use Rattle.tokens.specs.declared.strength.Strength.TheVariants.{Full, Export}

-- "fortybits", with its closing zero
abbrev pub fortybits : List ℕ
fortybits = 0x66 ∷ 0x6f ∷ 0x72 ∷ 0x74 ∷ 0x79 ∷ 0x62 ∷ 0x69 ∷ 0x74 ∷ 0x73 ∷ 0x00 ∷ []

-- the salt for T: the four octets of T, and before them L40's ten for export
unfoldable pub salt : Strength → List ℕ → List ℕ
salt Full t = t
salt Export t = fortybits ++ t

-- memset(key + 7, 0xAB, 9), for export alone: of an encrypted message's K1, and of a token's Kseq and Kcrypt
unfoldable pub export_fill : Strength → List ℕ → List ℕ
export_fill Full key = key
export_fill Export key = placed 7 (replicate 9 0xab) key
