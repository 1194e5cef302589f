-- The refusals of the lengths and the region, or what the region's octets give.
use mathlib.Core.Path.{◌≡◌, ap, sym, ◌∙◌}
use Prim.Native.Nat.{ℕ, ◌+◌}
use Rattle.primitives.specs.Octets.{Octets}
use Rattle.tokens.specs.Limits.{region}
use Rattle.tokens.specs.Mic as Spec
use Rattle.tokens.proofs.Steps.{goes_on, stops, exits, bounds, fits}
use Rattle.tokens.proofs.mic.Exactly.{reads_exactly}
use borrow.Author.Rules.{rules}
use native.Mathlib.Omega.{arith}
use Rattle.tokens.proofs.mic.mic_read.Goals as goal

pub returns-in_err-length : goal.returns-in_err-length
unfolding Spec.mic_reading
returns-in_err-length c =
    let a = c.args in
    let bytes : Octets a.buf.now = λ i. search rules in
    let answer = exits _ _ c.from_residual.ensures.1 (stops _ _ _ c.length.ensures c.in_err-length.was) in
    record { answer = answer; exact = reads_exactly a.context a.«data».now a.buf.now a.start a.len bytes answer }

pub returns-in_err-length-2 : goal.returns-in_err-length-2
unfolding Spec.mic_reading
returns-in_err-length-2 c =
    let a = c.args in
    let bytes : Octets a.buf.now = λ i. search rules in
    let answer = exits _ _ c.from_residual-in_err-length-2.ensures.1 (goes_on _ _ _ c.length.ensures c.in_ok-length.was ∙ stops _ _ _ c.length-2.ensures c.in_err-length-2.was) in
    record { answer = answer; exact = reads_exactly a.context a.«data».now a.buf.now a.start a.len bytes answer }

pub returns-in_err-region : goal.returns-in_err-region
unfolding Spec.mic_reading
returns-in_err-region c =
    let a = c.args in
    let bytes : Octets a.buf.now = λ i. search rules in
    let answer = exits _ _ c.from_residual-in_err-region.ensures.1
    (goes_on _ _ _ c.length.ensures c.in_ok-length.was
    ∙ goes_on _ _ _ c.length-2.ensures c.in_ok-length-2.was
    ∙ stops _ _ _ c.region.ensures c.in_err-region.was) in
    record { answer = answer; exact = reads_exactly a.context a.«data».now a.buf.now a.start a.len bytes answer }

pub array_at-requires : goal.array_at-requires
array_at-requires c =
    let whole = bounds c.in_ok-length-2.was 24 24 c.args.len c.length-2.ensures in
    let inside = fits c.in_ok-region.was (c.args.start + c.args.len) _ c.region.ensures in
    omega (arith, inside, whole.0, whole.1)

pub returns : goal.returns
unfolding Spec.mic_reading
returns c =
    let a = c.args in
    let bytes : Octets a.buf.now = λ i. search rules in
    let whole = bounds c.in_ok-length-2.was 24 24 a.len c.length-2.ensures in
    let size : a.len ≡ 24 = omega (arith, whole.0, whole.1) in
    let octets = c.array_at.ensures ∙ ap (λ (n : ℕ). region a.start n a.buf.now) (sym size) in
    let answer = c.mic_number.ensures
    ∙ ap (Spec.mic_number a.context a.«data».now) octets
    ∙ sym (goes_on _ _ _ c.length.ensures c.in_ok-length.was
    ∙ goes_on _ _ _ c.length-2.ensures c.in_ok-length-2.was
    ∙ goes_on _ _ _ c.region.ensures c.in_ok-region.was) in
    record { answer = answer; exact = reads_exactly a.context a.«data».now a.buf.now a.start a.len bytes answer }
