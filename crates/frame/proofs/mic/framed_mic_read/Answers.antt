-- The refusal of the region or of the frame, or the token read; and from that, that reading succeeds exactly on what the rules write.
use Rattle.std.proofs.Common.{sym, ◌∙◌, arith}
use Rattle.tokens.proofs.Steps.{exit_is}
use Rattle.tokens.specs.Mic.{mic_reading}
use Rattle.frame.specs.Mic as Spec
use Rattle.frame.proofs.Regions.{read_refused, read_token, in_frame}
use Rattle.frame.proofs.mic.Exactly.{nothing_reads, token_reads}
use Rattle.frame.proofs.mic.framed_mic_read.Goals as goal

pub returns-in_err-lead : goal.returns-in_err-lead
unfolding Spec.framed_mic_reading
returns-in_err-lead c =
    let a = c.args in
    let none = sym c.lead_in.ensures ∙ c.in_err-lead.was in
    let told = exit_is _ c.from_residual.ensures.1 in
    record {
      answer = told ∙ sym (read_refused (mic_reading a.context a.«data».now a.buf.now) a.buf.now a.start a.len none);
      exact = rw told (nothing_reads a.context a.«data».now a.buf.now a.start a.len _ none);
    }

pub returns : goal.returns
unfolding Spec.framed_mic_reading
returns c =
    let a = c.args in
    let found = sym c.lead_in.ensures ∙ c.in_ok-lead.was in
    let read = c.mic_read.ensures in
    record {
      answer = read.answer ∙ sym (read_token (mic_reading a.context a.«data».now a.buf.now) a.buf.now a.start a.len found);
      exact = token_reads a.context a.«data».now a.buf.now a.start a.len _ found read.exact;
    }

pub overflow_add-start : goal.overflow_add-start
overflow_add-start c = let x = in_frame _ _ _ _ (sym c.lead_in.ensures ∙ c.in_ok-lead.was) in omega (arith, x.fits, x.sum)

pub overflow_sub-len : goal.overflow_sub-len
overflow_sub-len c = let x = in_frame _ _ _ _ (sym c.lead_in.ensures ∙ c.in_ok-lead.was) in omega (arith, x.sum)
