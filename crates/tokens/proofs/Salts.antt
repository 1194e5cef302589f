-- The salt as a `Short` of fourteen octets keeps it: of the four octets of T, and for export of those of "fortybits" before them.
use mathlib.Core.Path.{◌≡◌, ap}
use mathlib.Core.List.{List, [], ◌∷◌, ◌++◌}
use Prim.Native.Nat.{ℕ}
use native.Mathlib.Omega.{arith}
use lib.ListN.{length, get_or, take}
use lib.Seq.{take_all}
use Rattle.tokens.specs.Strength.{salt, fortybits}
use Rattle.tokens.specs.declared.strength.Strength.TheVariants.{Full, Export}
use Rattle.tokens.proofs.Placing.{four_of}

abbrev export_salt : List ℕ → List ℕ
export_salt t = 0x66 ∷ 0x6f ∷ 0x72 ∷ 0x74 ∷ 0x79 ∷ 0x62 ∷ 0x69 ∷ 0x74 ∷ 0x73 ∷ 0 ∷ get_or t 0 0 ∷ get_or t 1 0 ∷ get_or t 2 0 ∷ get_or t 3 0 ∷ []

pub full_salt_lem : (t : List ℕ) → length t ≡ 4 → take 14 t ≡ salt Full t
unfolding salt
full_salt_lem t four = take_all 14 t (omega (arith, four))

pub export_salt_lem : (t : List ℕ) → length t ≡ 4 → take 14 (export_salt t) ≡ salt Export t
unfolding salt
export_salt_lem t four = ap (λ (o : List ℕ). fortybits ++ o) (four_of t four)
