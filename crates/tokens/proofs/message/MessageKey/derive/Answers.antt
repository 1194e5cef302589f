-- K2 is the HMAC of the salt, and K1 is K2 with its octets set.
use mathlib.Core.Path.{◌≡◌, ap, ◌∙◌}
use Rattle.primitives.specs.Hmac.{hmac}
use Rattle.tokens.specs.Message as Spec
use Rattle.tokens.specs.Strength.{export_fill}
use Rattle.tokens.proofs.message.MessageKey.derive.Goals as goal

pub returns : goal.returns
unfolding Spec.k1 Spec.k2
returns c =
    let key = c.args.self in
    let second : c.of-k2.result ≡ Spec.k2 key.key key.strength key.usage.t = c.of-k2.ensures ∙ ap (hmac key.key) (c.as_slice.ensures ∙ c.salt-salt.ensures) in
    (c.fill-k1.ensures ∙ ap (export_fill key.strength) second, second)
