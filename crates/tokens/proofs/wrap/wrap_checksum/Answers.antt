-- T and the header, and then confounder and body in turn.
use mathlib.Core.Path.{sym, ap, ◌∙◌}
use Rattle.primitives.specs.Hash.{absorb}
use Rattle.primitives.specs.declared.hash.Hash.{Hash}
use Rattle.primitives.proofs.Laws.{little_endian_four}
use Rattle.tokens.specs.Wrap.{wrap_checksum, header, message_type}
use Rattle.tokens.proofs.SignedText.{signed_two}
use Rattle.tokens.proofs.wrap.wrap_checksum.Goals as goal

pub returns : goal.returns
unfolding wrap_checksum
returns c =
    let a = c.args in
    let header_is = c.header.ensures in
    let begun_is = c.begin_checksum-begun.ensures in
    signed_two a.context.key message_type (header a.sealed) (sym (little_endian_four message_type)) header_is begun_is c.finish_checksum.ensures a.confounder a.body.now
    (c.update-2.ensures ∙ ap (λ (h : Hash). absorb h a.body.now) c.update.ensures)
