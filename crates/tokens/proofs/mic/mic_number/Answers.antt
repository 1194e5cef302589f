-- The refusals of the header, the direction and the checksum, in their order, or the number.
use mathlib.Core.Path.{ap₂, sym, ◌∙◌}
use mathlib.Core.List.{List}
use Prim.Native.Nat.{ℕ}
use Rattle.tokens.specs.Answer.{tested}
use Rattle.tokens.specs.Octets.{same}
use Rattle.tokens.specs.Mic as Spec
use Rattle.tokens.specs.declared.answer.Refusal.TheVariants.{Checksum}
use Rattle.tokens.proofs.Steps.{goes_on, stops, then_on, then_stops, exits}
use Rattle.tokens.proofs.mic.mic_number.Goals as goal

pub returns-in_err-equal : goal.returns-in_err-equal
unfolding Spec.header Spec.mic_number
returns-in_err-equal c = exits _ _ c.from_residual.ensures.1 (stops _ _ _ c.equal.ensures c.in_err-equal.was)

pub returns-in_err-sequence : goal.returns-in_err-sequence
unfolding Spec.header Spec.mic_number
returns-in_err-sequence c =
    exits _ _ c.from_residual-in_err-sequence.ensures.1
    (goes_on _ _ _ c.equal.ensures c.in_ok-equal.was ∙ then_stops _ (sym c.number_in.ensures ∙ c.in_err-sequence.was))

pub returns-in_err-equal-2 : goal.returns-in_err-equal-2
unfolding Spec.header Spec.mic_number
returns-in_err-equal-2 c =
    let checked = c.equal-2.ensures ∙ ap₂ (λ (x y : List ℕ). tested (same x y) Checksum) c.checksum_in-given.ensures c.mic_checksum-expected.ensures in
    exits _ _ c.from_residual-in_err-equal-2.ensures.1
    (goes_on _ _ _ c.equal.ensures c.in_ok-equal.was
    ∙ then_on _ (sym c.number_in.ensures ∙ c.in_ok-sequence.was)
    ∙ stops _ _ _ checked c.in_err-equal-2.was)

pub returns : goal.returns
unfolding Spec.header Spec.mic_number
returns c =
    let checked = c.equal-2.ensures ∙ ap₂ (λ (x y : List ℕ). tested (same x y) Checksum) c.checksum_in-given.ensures c.mic_checksum-expected.ensures in
    sym (goes_on _ _ _ c.equal.ensures c.in_ok-equal.was
    ∙ then_on _ (sym c.number_in.ensures ∙ c.in_ok-sequence.was)
    ∙ goes_on _ _ _ checked c.in_ok-equal-2.was)
