-- The text is "signaturekey" with its closing zero.
use Rattle.tokens.specs.Checksum.{signature_key}
use Rattle.tokens.proofs.checksum.signature_key.Goals as goal

pub returns : goal.returns
unfolding signature_key
returns c = c.of.ensures
