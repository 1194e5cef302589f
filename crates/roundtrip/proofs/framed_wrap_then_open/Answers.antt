-- What the writer left in the buffer is what the opener is promised to open.
use mathlib.Core.Path.{◌≡◌}
use Prim.Native.Nat.{◌<◌}
use lib.ListN.{length}
use Rattle.tokens.specs.Token.{sequence_numbers}
use Rattle.roundtrip.proofs.Returned.{octets_of, framed_wrap_outward, framed_wrap_returned}
use borrow.Author.Rules.{rules}
use Rattle.roundtrip.proofs.framed_wrap_then_open.Goals as goal

pub returns : goal.returns
returns c =
    let a = c.args in
    let fits : a.sequence < sequence_numbers = search rules in
    let eight : length a.confounder ≡ 8 = search rules in
    let call = c.framed_wrap_write.ensures in
    framed_wrap_returned a.context a.sequence a.confounder a.sealed a.buf.now a.start a.len call.answer call.buffer fits eight (octets_of a.confounder (λ i. search rules)) (octets_of a.buf.now (λ i. search rules)) c.in_ok-written.was c.framed_wrap_open.ensures.buffer c.framed_wrap_open.ensures.exact

pub returns-in_err-written : goal.returns-in_err-written
returns-in_err-written c =
    let a = c.args in
    let call = c.framed_wrap_write.ensures in
    framed_wrap_outward a.context a.sequence a.confounder a.sealed a.buf.now a.start a.len call.answer call.buffer c.in_err-written.was c.from_residual.ensures.1
