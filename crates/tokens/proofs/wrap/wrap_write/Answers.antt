-- The refusals of the length and the region, in their order, or the region written.
use mathlib.Core.Path.{◌≡◌, ◌∙◌}
use Prim.Native.Nat.{◌+◌, ◌-◌}
use lib.ListN.{length, length-take, length-drop}
use Rattle.std.specs.Prelude.{Ok}
use Rattle.tokens.specs.Limits.{region}
use Rattle.tokens.specs.Message.{all_octets}
use Rattle.tokens.specs.Wrap as Spec
use Rattle.tokens.proofs.Steps.{goes_on, stops, exit_told, bounds, fits}
use Rattle.tokens.proofs.wrap.Regions.{written_length, written_buffer}
use borrow.Author.Rules.{rules}
use native.Mathlib.Omega.{arith}
use Rattle.tokens.proofs.wrap.wrap_write.Goals as goal

pub returns-in_err-length : goal.returns-in_err-length
unfolding Spec.wrap_writing
returns-in_err-length c =
    let refused = stops _ _ _ c.length.ensures c.in_err-length.was in
    let told = exit_told length all_octets _ _ c.from_residual.ensures.1 refused in
    record { answer = told.0; buffer = told.1 }

pub overflow_add-total : goal.overflow_add-total
overflow_add-total c = omega (arith, bounds c.in_ok-length.was 0 32768 c.args.len c.length.ensures)

pub returns-in_err-region : goal.returns-in_err-region
unfolding Spec.wrap_writing
returns-in_err-region c =
    let refused = goes_on _ _ _ c.length.ensures c.in_ok-length.was ∙ stops _ _ _ c.region.ensures c.in_err-region.was in
    let told = exit_told length all_octets _ _ c.from_residual-in_err-region.ensures.1 refused in
    record { answer = told.0; buffer = told.1 }

pub overflow_add-region : goal.overflow_add-region
overflow_add-region c = let inside = fits c.in_ok-region.was (c.args.start + (33 + c.args.len)) _ c.region.ensures in omega (arith, inside)

pub slice_bounds-region-end : goal.slice_bounds-region-end
slice_bounds-region-end c = let inside = fits c.in_ok-region.was (c.args.start + (33 + c.args.len)) _ c.region.ensures in omega (arith, inside)

pub write_token-requires : goal.write_token-requires
write_token-requires c =
    let inside = fits c.in_ok-region.was (c.args.start + (33 + c.args.len)) _ c.region.ensures in
    simp (length-take, length-drop) (omega (arith, inside))

pub returns : goal.returns
unfolding Spec.wrap_writing
returns c =
    let a = c.args in
    let inside = fits c.in_ok-region.was (a.start + (33 + a.len)) _ c.region.ensures in
    let eight : length a.confounder ≡ 8 = search rules in
    let whole = Spec.wrap_token a.context (Spec.parts a.sequence a.sealed a.confounder (region (a.start + 32) a.len a.buf.now)) in
    let ended : Spec.wrap_writing a.context a.sequence a.confounder a.sealed a.buf.now a.start a.len ≡ Ok whole
    = goes_on _ _ _ c.length.ensures c.in_ok-length.was ∙ goes_on _ _ _ c.region.ensures c.in_ok-region.was in
    let k = a.start + (33 + a.len) - a.start in
    let total : k ≡ 33 + a.len = omega arith in
    record {
      answer = rw (ended, written_length a.context a.buf.now a.start a.sequence a.sealed a.confounder a.len eight inside);
      buffer = rw ended (written_buffer a.context a.buf.now a.start a.sequence a.sealed a.confounder a.len eight inside k total c.write_token.ensures);
    }
