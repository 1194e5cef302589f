-- The HMAC of the number's octets under the salted local key.
use mathlib.Core.Path.{ap, ap₂, ◌∙◌}
use Rattle.primitives.specs.Hmac.{hmac}
use Rattle.tokens.specs.Token.{salted_key, sealing_key}
use Rattle.tokens.proofs.token.sealing_key.Goals as goal

pub returns : goal.returns
unfolding sealing_key
returns c =
    let a = c.args in
    c.of.ensures ∙ ap₂ hmac (c.salted_key.ensures ∙ ap (salted_key a.context.strength) c.local_key.ensures) c.sequence_octets.ensures
