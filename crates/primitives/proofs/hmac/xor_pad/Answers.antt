-- The octets so far are xor the pad, and the next one is.
use Rattle.std.proofs.Common.{ℕ, ◌<◌, length, refl, add-one, rules}
use lib.Bits.{bit_xor}
use Rattle.primitives.specs.Hmac.{xor_pad}
use Rattle.primitives.proofs.Copy.{map_more}
use Rattle.primitives.proofs.hmac.xor_pad.Goals as goal

pub loop-octet-init : goal.loop-octet-init
unfolding xor_pad
loop-octet-init c = refl

pub loop-octet-preserved : goal.loop-octet-preserved
unfolding xor_pad
loop-octet-preserved c =
    let loop = c.loop-octet in
    let more : loop.octet-index < length c.args.block = search rules in
    rw (add-one, loop.invariant) (map_more (λ (x : ℕ). bit_xor x c.args.pad) c.args.block loop.octet-index more)
