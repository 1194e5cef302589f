-- The first eight octets of the code.
use mathlib.Core.Path.{◌∙◌, ap, ap₂}
use lib.ListN.{take}
use Rattle.primitives.specs.Hmac.{hmac}
use Rattle.tokens.proofs.token.finish_checksum.Goals as goal

pub returns : goal.returns
returns c = c.array_at.ensures ∙ ap (take 8) (c.of-sum.ensures ∙ ap₂ hmac c.signature_key.ensures c.finish-digest.ensures)
