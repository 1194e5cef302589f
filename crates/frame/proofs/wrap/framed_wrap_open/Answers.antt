-- The refusal of the region or of the frame, or the token opened; and from that, that opening succeeds exactly on what the rules write.
use Rattle.std.proofs.Common.{sym, ap, ◌∙◌, arith}
use Rattle.tokens.proofs.Steps.{exit_is}
use Rattle.tokens.specs.Limits.{buffer_after}
use Rattle.tokens.specs.Wrap.{plain, wrap_opening, unwrapped_answer}
use Rattle.frame.specs.Wrap as Spec
use Rattle.frame.proofs.Regions.{read_refused, read_token, in_frame}
use Rattle.frame.proofs.wrap.Exactly.{nothing_opens, token_opens}
use Rattle.frame.proofs.wrap.framed_wrap_open.Goals as goal

pub returns-in_err-lead : goal.returns-in_err-lead
unfolding Spec.framed_wrap_opening
returns-in_err-lead c =
    let a = c.args in
    let none = sym c.lead_in.ensures ∙ c.in_err-lead.was in
    let told = exit_is _ c.from_residual.ensures.1 in
    let refused = read_refused (wrap_opening a.context a.buf.now) a.buf.now a.start a.len none in
    record {
      answer = told ∙ ap unwrapped_answer (sym refused);
      buffer = ap (buffer_after plain _ a.buf.now) (sym refused);
      exact = rw told (nothing_opens a.context a.buf.now a.start a.len _ none);
    }

pub returns : goal.returns
unfolding Spec.framed_wrap_opening
returns c =
    let a = c.args in
    let found = sym c.lead_in.ensures ∙ c.in_ok-lead.was in
    let opened = c.wrap_open.ensures in
    let x = in_frame _ _ _ _ found in
    let read = read_token (wrap_opening a.context a.buf.now) a.buf.now a.start a.len found in
    record {
      answer = opened.answer ∙ ap unwrapped_answer (sym read);
      buffer = opened.buffer ∙ rw x.width (ap (buffer_after plain _ a.buf.now) (sym read));
      exact = token_opens a.context a.buf.now a.start a.len _ found opened.exact;
    }

pub overflow_add-start : goal.overflow_add-start
overflow_add-start c = let x = in_frame _ _ _ _ (sym c.lead_in.ensures ∙ c.in_ok-lead.was) in omega (arith, x.fits, x.sum)

pub overflow_sub-len : goal.overflow_sub-len
overflow_sub-len c = let x = in_frame _ _ _ _ (sym c.lead_in.ensures ∙ c.in_ok-lead.was) in omega (arith, x.sum)
