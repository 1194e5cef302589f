-- The refusals of the length, the region, the usage and the checksum, in their order, or the region read; and from that, that reading
-- succeeds exactly on what the rule writes.
use mathlib.Core.Path.{sym, ◌∙◌, ap}
use Prim.Native.Nat.{◌+◌}
use lib.ListN.{length-take, length-drop}
use Rattle.primitives.specs.Octets.{Octets}
use Rattle.tokens.specs.Answer.{map_ok}
use Rattle.tokens.specs.Message as Spec
use Rattle.tokens.proofs.Steps.{goes_on, stops, exits, exit_told, bounds, fits, was_refused, named_stops}
use Rattle.tokens.proofs.message.Exactly.{reads_exactly}
use Rattle.tokens.proofs.message.Regions.{decrypted}
use borrow.Author.Rules.{rules}
use native.Mathlib.Omega.{arith}
use Rattle.tokens.proofs.message.decrypt.Goals as goal

pub returns-in_err-length : goal.returns-in_err-length
unfolding Spec.decryption
returns-in_err-length c =
    let a = c.args in
    let bytes : Octets a.buf.now = λ i. search rules in
    let refused = stops _ _ _ c.length.ensures c.in_err-length.was in
    let told = exit_told Spec.message_length Spec.plain _ _ c.from_residual.ensures.1 refused in
    record { answer = told.0; buffer = told.1; exact = reads_exactly a.key a.strength a.usage a.buf.now a.start a.len bytes told.0 told.1 }

pub returns-in_err-region : goal.returns-in_err-region
unfolding Spec.decryption
returns-in_err-region c =
    let a = c.args in
    let bytes : Octets a.buf.now = λ i. search rules in
    let refused = goes_on _ _ _ c.length.ensures c.in_ok-length.was ∙ stops _ _ _ c.region.ensures c.in_err-region.was in
    let told = exit_told Spec.message_length Spec.plain _ _ c.from_residual-in_err-region.ensures.1 refused in
    record { answer = told.0; buffer = told.1; exact = reads_exactly a.key a.strength a.usage a.buf.now a.start a.len bytes told.0 told.1 }

pub returns-in_err-usage : goal.returns-in_err-usage
unfolding Spec.decryption
returns-in_err-usage c =
    let a = c.args in
    let bytes : Octets a.buf.now = λ i. search rules in
    let refused = goes_on _ _ _ c.length.ensures c.in_ok-length.was
    ∙ goes_on _ _ _ c.region.ensures c.in_ok-region.was
    ∙ named_stops a.usage _ c.try_from.ensures c.in_err-usage.was in
    let told = exit_told Spec.message_length Spec.plain _ _ c.from_residual-in_err-usage.ensures.1 refused in
    record { answer = told.0; buffer = told.1; exact = reads_exactly a.key a.strength a.usage a.buf.now a.start a.len bytes told.0 told.1 }

pub overflow_add-start : goal.overflow_add-start
overflow_add-start c = let inside = fits c.in_ok-region.was (c.args.start + c.args.len) _ c.region.ensures in omega (arith, inside)

pub slice_bounds-read-end : goal.slice_bounds-read-end
slice_bounds-read-end c = let inside = fits c.in_ok-region.was (c.args.start + c.args.len) _ c.region.ensures in omega (arith, inside)

pub read-requires : goal.read-requires
read-requires c =
    let sized = bounds c.in_ok-length.was 24 32792 c.args.len c.length.ensures in
    let inside = fits c.in_ok-region.was (c.args.start + c.args.len) _ c.region.ensures in
    simp (length-take, length-drop) (omega (arith, inside, sized.0))

pub returns-in_err-read : goal.returns-in_err-read
returns-in_err-read c =
    let a = c.args in
    let bytes : Octets a.buf.now = λ i. search rules in
    let read = decrypted a.key a.strength a.usage a.buf.now a.start a.len c.length.ensures c.in_ok-length.was c.region.ensures c.in_ok-region.was c.try_from.ensures c.in_ok-usage.was c.read.ensures.status c.read.ensures.octets in
    let answer = exits _ _ c.from_residual-in_err-read.ensures.1 (ap (map_ok Spec.message_length) (was_refused _ (sym read.status ∙ c.in_err-read.was))) in
    record { answer = answer; buffer = read.buffer; exact = reads_exactly a.key a.strength a.usage a.buf.now a.start a.len bytes answer read.buffer }

pub overflow_sub-result : goal.overflow_sub-result
overflow_sub-result c = let sized = bounds c.in_ok-length.was 24 32792 c.args.len c.length.ensures in omega (arith, sized.0)

pub returns : goal.returns
returns c =
    let a = c.args in
    let bytes : Octets a.buf.now = λ i. search rules in
    let read = decrypted a.key a.strength a.usage a.buf.now a.start a.len c.length.ensures c.in_ok-length.was c.region.ensures c.in_ok-region.was c.try_from.ensures c.in_ok-usage.was c.read.ensures.status c.read.ensures.octets in
    let answer = read.length_is c.in_ok-read.was in
    record { answer = answer; buffer = read.buffer; exact = reads_exactly a.key a.strength a.usage a.buf.now a.start a.len bytes answer read.buffer }
