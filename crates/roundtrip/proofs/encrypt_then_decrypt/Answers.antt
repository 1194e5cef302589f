-- What the writer left in the buffer is what the reader is promised to read.
use mathlib.Core.Path.{◌≡◌}
use lib.ListN.{length}
use Rattle.roundtrip.proofs.Returned.{octets_of, message_outward, message_returned}
use borrow.Author.Rules.{rules}
use Rattle.roundtrip.proofs.encrypt_then_decrypt.Goals as goal

pub returns-in_err-written : goal.returns-in_err-written
returns-in_err-written c =
    let a = c.args in
    let call = c.encrypt.ensures in
    message_outward a.key a.strength a.usage a.confounder a.buf.now a.start a.len call.answer call.buffer c.in_err-written.was c.from_residual.ensures.1

pub returns : goal.returns
returns c =
    let a = c.args in
    let eight : length a.confounder ≡ 8 = search rules in
    let call = c.encrypt.ensures in
    message_returned a.key a.strength a.usage a.confounder a.buf.now a.start a.len call.answer call.buffer eight (octets_of a.confounder (λ i. search rules)) (octets_of a.buf.now (λ i. search rules)) c.in_ok-written.was c.decrypt.ensures.buffer c.decrypt.ensures.exact
