-- The refusals of the length and the region, or the token placed and then the octets before it.
use mathlib.Core.Path.{◌≡◌, sym, ap, ◌∙◌}
use Prim.Native.Nat.{ℕ, ◌+◌}
use native.Mathlib.Omega.{arith}
use lib.Dec.{leb}
use lib.ListN.{length}
use Rattle.std.specs.Prelude.{Ok}
use Rattle.tokens.proofs.Laws.{mic_length_lem, mic_makes}
use Rattle.tokens.proofs.Steps.{goes_on, stops, exit_told, bounds, fits, not_refused}
use Rattle.tokens.specs.Answer.{tested}
use Rattle.tokens.specs.Limits.{buffer_after}
use Rattle.tokens.specs.Message.{all_octets}
use Rattle.tokens.specs.Mic.{mic_token}
use Rattle.tokens.specs.declared.answer.Refusal.TheVariants.{Region}
use Rattle.frame.specs.Framing.{frame}
use Rattle.frame.specs.Mic as Spec
use Rattle.frame.proofs.Leads.{frame_size, token_length, frame_placed}
use Rattle.frame.proofs.mic.framed_mic_write.Goals as goal

pub returns-in_err-length : goal.returns-in_err-length
unfolding Spec.framed_mic_writing
returns-in_err-length c =
    let refused = stops _ _ _ c.length.ensures c.in_err-length.was in
    let told = exit_told length all_octets _ _ c.from_residual.ensures.1 refused in
    record { answer = told.0; buffer = told.1 }

pub overflow_add-total : goal.overflow_add-total
overflow_add-total c = omega arith

pub returns-in_err-region : goal.returns-in_err-region
unfolding Spec.framed_mic_writing
returns-in_err-region c =
    let a = c.args in
    let region_tested = c.region.ensures ∙ ap (λ (w : ℕ). tested (leb (a.start + (w + 24)) (length a.buf.now)) Region) c.width-before.ensures.0 in
    let refused = goes_on _ _ _ c.length.ensures c.in_ok-length.was ∙ stops _ _ _ region_tested c.in_err-region.was in
    let told = exit_told length all_octets _ _ c.from_residual-in_err-region.ensures.1 refused in
    record { answer = told.0; buffer = told.1 }

pub overflow_add-start : goal.overflow_add-start
overflow_add-start c = let inside = fits c.in_ok-region.was (c.args.start + (c.width-before.result + 24)) _ c.region.ensures in omega (arith, inside)

pub returns-in_err-mic_write : goal.returns-in_err-mic_write
returns-in_err-mic_write c =
    let a = c.args in
    let start = a.start + c.width-before.result in
    let inside = fits c.in_ok-region.was (a.start + (c.width-before.result + 24)) _ c.region.ensures in
    let most = (bounds c.in_ok-length.was 0 32768 (length a.«data».now) c.length.ensures).1 in
    absurd (not_refused length _ (mic_makes a.context a.sequence a.«data».now a.buf.now start most (omega (arith, inside))) (sym c.in_err-mic_write.was ∙ c.mic_write.ensures.answer))

pub write-requires : goal.write-requires
write-requires c =
    let a = c.args in
    let buf = a.buf.now in
    let width = c.width-before.result in
    let token = mic_token a.context a.sequence a.«data».now in
    let token_size : length token ≡ 24 = mic_length_lem a.context a.sequence a.«data».now in
    let inside = fits c.in_ok-region.was (a.start + (width + 24)) _ c.region.ensures in
    let most = (bounds c.in_ok-length.was 0 32768 (length a.«data».now) c.length.ensures).1 in
    let token_placed = c.mic_write.ensures.buffer ∙ ap (buffer_after all_octets (a.start + width) buf) (mic_makes a.context a.sequence a.«data».now buf (a.start + width) most (omega (arith, inside))) in
    let kept = token_length a.start width 24 token buf token_size c.width-before.ensures.0 inside _ token_placed in
    (omega arith, omega (arith, inside, kept, c.width-before.ensures.0))

pub returns : goal.returns
unfolding Spec.framed_mic_writing
returns c =
    let a = c.args in
    let buf = a.buf.now in
    let width = c.width-before.result in
    let region_tested = c.region.ensures ∙ ap (λ (w : ℕ). tested (leb (a.start + (w + 24)) (length buf)) Region) c.width-before.ensures.0 in
    let token = mic_token a.context a.sequence a.«data».now in
    let token_size : length token ≡ 24 = mic_length_lem a.context a.sequence a.«data».now in
    let inside = fits c.in_ok-region.was (a.start + (width + 24)) _ c.region.ensures in
    let most = (bounds c.in_ok-length.was 0 32768 (length a.«data».now) c.length.ensures).1 in
    let ended : Spec.framed_mic_writing a.context a.sequence a.«data».now buf a.start ≡ Ok (frame token) = goes_on _ _ _ c.length.ensures c.in_ok-length.was ∙ goes_on _ _ _ region_tested c.in_ok-region.was in
    let token_placed = c.mic_write.ensures.buffer ∙ ap (buffer_after all_octets (a.start + width) buf) (mic_makes a.context a.sequence a.«data».now buf (a.start + width) most (omega (arith, inside))) in
    let size = frame_size a.start width 24 token buf token_size c.width-before.ensures.0 inside in
    let written = frame_placed a.start width 24 token buf token_size c.width-before.ensures.0 inside _ token_placed _ c.write.ensures in
    record {
      answer = rw (ended, size);
      buffer = rw ended written;
    }
