-- T of a message type.
use mathlib.Core.Path.{◌≡◌, sym}
use mathlib.Core.List.{[], ◌∷◌}
use Prim.Native.Nat.{ℕ, ◌/◌, ◌%◌, ◌<◌}
use native.Mathlib.Omega.{arith}
use Rattle.primitives.proofs.Laws.{little_endian_four}
use Rattle.tokens.specs.Usage.{message_type, type_octets}

-- T of a message type that is one octet
pub one_octet : (usage t : ℕ) → t ≡ message_type usage → t < 256 → ◌≡◌ (t ∷ 0 ∷ 0 ∷ 0 ∷ []) (type_octets usage)
unfolding type_octets
one_octet usage t e h =
    let low : t % 256 ≡ t = omega arith in
    let rest : t / 256 ≡ 0 = omega arith in
    rw (sym e, little_endian_four t, low, rest)
