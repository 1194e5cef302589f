-- The refusals of the length and the region, or the token placed and then the octets before it.
use mathlib.Core.Path.{◌≡◌, sym, ap, ◌∙◌}
use Prim.Native.Nat.{ℕ, ◌+◌}
use native.Mathlib.Omega.{arith}
use lib.Dec.{leb}
use lib.ListN.{length}
use borrow.Author.Rules.{rules}
use Rattle.tokens.proofs.Laws.{wrap_makes}
use Rattle.tokens.proofs.Steps.{goes_on, stops, exit_told, bounds, fits, not_refused}
use Rattle.tokens.specs.Answer.{tested}
use Rattle.tokens.specs.Message.{all_octets}
use Rattle.tokens.specs.declared.answer.Refusal.TheVariants.{Region}
use Rattle.frame.specs.Wrap as Spec
use Rattle.frame.proofs.wrap.Writing.{length_kept, framed}
use Rattle.frame.proofs.wrap.framed_wrap_write.Goals as goal

pub returns-in_err-length : goal.returns-in_err-length
unfolding Spec.framed_wrap_writing
returns-in_err-length c =
    let refused = stops _ _ _ c.length.ensures c.in_err-length.was in
    let told = exit_told length all_octets _ _ c.from_residual.ensures.1 refused in
    record { answer = told.0; buffer = told.1 }

pub overflow_add-token : goal.overflow_add-token
overflow_add-token c = omega (arith, bounds c.in_ok-length.was 0 32768 c.args.len c.length.ensures)

pub width-before-requires : goal.width-before-requires
width-before-requires c = omega (arith, bounds c.in_ok-length.was 0 32768 c.args.len c.length.ensures)

pub overflow_add-total : goal.overflow_add-total
overflow_add-total c = omega (arith, bounds c.in_ok-length.was 0 32768 c.args.len c.length.ensures)

pub returns-in_err-region : goal.returns-in_err-region
unfolding Spec.framed_wrap_writing
returns-in_err-region c =
    let a = c.args in
    let region_tested = c.region.ensures ∙ ap (λ (w : ℕ). tested (leb (a.start + (w + (33 + a.len))) (length a.buf.now)) Region) c.width-before.ensures.0 in
    let refused = goes_on _ _ _ c.length.ensures c.in_ok-length.was ∙ stops _ _ _ region_tested c.in_err-region.was in
    let told = exit_told length all_octets _ _ c.from_residual-in_err-region.ensures.1 refused in
    record { answer = told.0; buffer = told.1 }

pub overflow_add-start : goal.overflow_add-start
overflow_add-start c = let inside = fits c.in_ok-region.was (c.args.start + (c.width-before.result + (33 + c.args.len))) _ c.region.ensures in omega (arith, inside)

pub returns-in_err-wrap_write : goal.returns-in_err-wrap_write
returns-in_err-wrap_write c =
    let a = c.args in
    let start = a.start + c.width-before.result in
    let inside = fits c.in_ok-region.was (a.start + (c.width-before.result + (33 + a.len))) _ c.region.ensures in
    let sized = (bounds c.in_ok-length.was 0 32768 a.len c.length.ensures).1 in
    absurd (not_refused length _ (wrap_makes a.context a.sequence a.confounder a.sealed a.buf.now start a.len sized (omega (arith, inside))) (sym c.in_err-wrap_write.was ∙ c.wrap_write.ensures.answer))

pub write-requires : goal.write-requires
write-requires c =
    let a = c.args in
    let eight : length a.confounder ≡ 8 = search rules in
    let sized = (bounds c.in_ok-length.was 0 32768 a.len c.length.ensures).1 in
    let inside = fits c.in_ok-region.was (a.start + (c.width-before.result + (33 + a.len))) _ c.region.ensures in
    let kept = length_kept a.context a.sequence a.confounder a.sealed a.buf.now a.start a.len eight c.length.ensures c.in_ok-length.was c.width-before.ensures.0 c.region.ensures c.in_ok-region.was c.wrap_write.ensures.buffer in
    (omega (arith, sized), omega (arith, inside, kept, c.width-before.ensures.0))

pub returns : goal.returns
returns c =
    let a = c.args in
    let eight : length a.confounder ≡ 8 = search rules in
    let written = framed a.context a.sequence a.confounder a.sealed a.buf.now a.start a.len eight c.length.ensures c.in_ok-length.was c.width-before.ensures.0 c.region.ensures c.in_ok-region.was c.wrap_write.ensures.buffer c.write.ensures in
    record { answer = written.0; buffer = written.1 }
