-- The code of the salt for T = 0, with the octets that export strength sets.
use mathlib.Core.Path.{sym, ap, ◌∙◌}
use Rattle.primitives.specs.Hmac.{hmac}
use Rattle.primitives.proofs.Laws.{little_endian_four}
use Rattle.tokens.specs.Strength.{salt, export_fill}
use Rattle.tokens.specs.Token.{salted_key}
use Rattle.tokens.proofs.token.salted_key.Goals as goal

pub returns : goal.returns
unfolding salted_key
returns c =
    let a = c.args in
    c.fill.ensures
    ∙ ap (export_fill a.strength)
    (c.of.ensures ∙ ap (hmac a.key) (c.as_slice.ensures ∙ c.salt-salt.ensures ∙ ap (salt a.strength) (sym (little_endian_four 0))))
