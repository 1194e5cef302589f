-- The octets so far are xor the pad, and the others are as they came.
use Rattle.std.proofs.Common.{◌≡◌, ◌++◌, take, drop}
use Rattle.primitives.specs.Hmac.{xor_pad}
use Rattle.primitives.proofs.hmac.xor_pad.Given as goal

abbrev pub invariant-loop-octet : goal.invariant-loop-octet
invariant-loop-octet l = l.octet-items ≡ xor_pad l.pad (take l.octet-index l.initial.octet-items) ++ drop l.octet-index l.initial.octet-items
