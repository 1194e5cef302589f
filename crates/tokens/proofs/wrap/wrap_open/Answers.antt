-- The refusals of the length and the region, in their order, or the region opened; and from that, that opening succeeds exactly on
-- what the rule writes.
use mathlib.Core.Path.{◌≡◌, ◌∙◌}
use Prim.Native.Nat.{◌+◌, ◌-◌}
use mathlib.Core.List.{◌++◌}
use lib.ListN.{take, drop, length-take, length-drop}
use Rattle.primitives.specs.Octets.{Octets}
use Rattle.tokens.specs.Limits.{region, buffer_after}
use Rattle.tokens.specs.Wrap as Spec
use Rattle.tokens.proofs.Steps.{goes_on, stops, exit_told, bounds, fits}
use Rattle.tokens.proofs.wrap.Exactly.{opens_exactly}
use Rattle.tokens.proofs.wrap.Regions.{opened_answer, opened_buffer_lem}
use borrow.Author.Rules.{rules}
use native.Mathlib.Omega.{arith}
use Rattle.tokens.proofs.wrap.wrap_open.Goals as goal

pub returns-in_err-length : goal.returns-in_err-length
unfolding Spec.wrap_opening
returns-in_err-length c =
    let a = c.args in
    let bytes : Octets a.buf.now = λ i. search rules in
    let refused = stops _ _ _ c.length.ensures c.in_err-length.was in
    let told = exit_told Spec.unwrapped Spec.plain _ _ c.from_residual.ensures.1 refused in
    record { answer = told.0; buffer = told.1; exact = opens_exactly a.context a.buf.now a.start a.len bytes told.0 told.1 }

pub returns-in_err-region : goal.returns-in_err-region
unfolding Spec.wrap_opening
returns-in_err-region c =
    let a = c.args in
    let bytes : Octets a.buf.now = λ i. search rules in
    let refused = goes_on _ _ _ c.length.ensures c.in_ok-length.was ∙ stops _ _ _ c.region.ensures c.in_err-region.was in
    let told = exit_told Spec.unwrapped Spec.plain _ _ c.from_residual-in_err-region.ensures.1 refused in
    record { answer = told.0; buffer = told.1; exact = opens_exactly a.context a.buf.now a.start a.len bytes told.0 told.1 }

pub overflow_add-start : goal.overflow_add-start
overflow_add-start c = let inside = fits c.in_ok-region.was (c.args.start + c.args.len) _ c.region.ensures in omega (arith, inside)

pub slice_bounds-open_token-end : goal.slice_bounds-open_token-end
slice_bounds-open_token-end c = let inside = fits c.in_ok-region.was (c.args.start + c.args.len) _ c.region.ensures in omega (arith, inside)

pub open_token-requires : goal.open_token-requires
open_token-requires c =
    let sized = bounds c.in_ok-length.was 33 32801 c.args.len c.length.ensures in
    let inside = fits c.in_ok-region.was (c.args.start + c.args.len) _ c.region.ensures in
    simp (length-take, length-drop) (omega (arith, inside, sized.0))

pub returns : goal.returns
unfolding Spec.wrap_opening
returns c =
    let a = c.args in
    let bytes : Octets a.buf.now = λ i. search rules in
    let sized = bounds c.in_ok-length.was 33 32801 a.len c.length.ensures in
    let inside = fits c.in_ok-region.was (a.start + a.len) _ c.region.ensures in
    let passed : Spec.wrap_opening a.context a.buf.now a.start a.len ≡ Spec.opened a.context (region a.start a.len a.buf.now)
    = goes_on _ _ _ c.length.ensures c.in_ok-length.was ∙ goes_on _ _ _ c.region.ensures c.in_ok-region.was in
    let k = a.start + a.len - a.start in
    let part : k ≡ a.len = omega arith in
    let answer : c.open_token.result ≡ Spec.unwrapped_answer (Spec.wrap_opening a.context a.buf.now a.start a.len)
    = rw passed (opened_answer a.context a.buf.now a.start a.len inside sized.0 k part c.open_token.ensures.answer) in
    let buffer : take a.start a.buf.now ++ (c.open_token.new.region ++ drop k (drop a.start a.buf.now))
    ≡ buffer_after Spec.plain (a.start + 24) a.buf.now (Spec.wrap_opening a.context a.buf.now a.start a.len)
    = rw passed (opened_buffer_lem a.context a.buf.now a.start a.len inside sized.0 k part c.open_token.ensures.octets) in
    record { answer = answer; buffer = buffer; exact = opens_exactly a.context a.buf.now a.start a.len bytes answer buffer }
