-- T, the header and the text in turn.
use mathlib.Core.Path.{refl, sym}
use Rattle.primitives.proofs.Laws.{little_endian_four}
use Rattle.tokens.specs.Mic.{mic_checksum, header, message_type}
use Rattle.tokens.proofs.SignedText.{signed}
use Rattle.tokens.proofs.mic.mic_checksum.Goals as goal

pub returns : goal.returns
unfolding header mic_checksum
returns c =
    let a = c.args in
    signed a.context.key message_type header (sym (little_endian_four message_type)) refl c.begin_checksum-begun.ensures c.finish_checksum.ensures a.text.now c.update.ensures
