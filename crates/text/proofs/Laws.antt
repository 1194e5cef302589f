-- The laws of this crate's definitions that a crate above may cite.
use mathlib.Core.List.{List}
use Prim.Native.Nat.{ℕ}
use Rattle.primitives.specs.Octets.{Octets}
use Rattle.text.specs.Hex.{ReadBack}
use Rattle.text.proofs.Digits as Digits

-- hexadecimal that is written is read back
pub read_back : (octets : List ℕ) → Octets octets → ReadBack octets
read_back = Digits.read_back
