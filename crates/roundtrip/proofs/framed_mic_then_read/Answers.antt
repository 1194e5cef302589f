-- What the writer left in the buffer is what the reader is promised to read.
use Prim.Native.Nat.{◌<◌}
use Rattle.frame.specs.Mic as Mic
use Rattle.tokens.specs.Token.{sequence_numbers}
use Rattle.roundtrip.proofs.Returned.{mic_outward, mic_returned, framed_mic_written}
use borrow.Author.Rules.{rules}
use Rattle.roundtrip.proofs.framed_mic_then_read.Goals as goal

pub returns : goal.returns
returns c =
    let a = c.args in
    let fits : a.sequence < sequence_numbers = search rules in
    let call = c.framed_mic_write.ensures in
    mic_returned (Mic.framed_mic_writing a.context a.sequence a.«data».now a.buf.now a.start) a.sequence a.buf.now a.start call.answer call.buffer (Mic.Written a.context a.«data».now a.sequence)
    (framed_mic_written a.context a.sequence a.«data».now a.buf.now a.start fits) c.in_ok-written.was (λ h. c.framed_mic_read.ensures.exact.always_then h a.sequence)

pub returns-in_err-written : goal.returns-in_err-written
returns-in_err-written c =
    let a = c.args in
    let call = c.framed_mic_write.ensures in
    mic_outward (Mic.framed_mic_writing a.context a.sequence a.«data».now a.buf.now a.start) a.sequence a.buf.now a.start call.answer call.buffer c.in_err-written.was c.from_residual.ensures.1
