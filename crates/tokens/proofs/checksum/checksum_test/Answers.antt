-- The refusals of the two lengths, the usage and the checksum.
use mathlib.Core.Path.{ap, ◌∙◌}
use mathlib.Core.List.{List}
use Prim.Native.Nat.{ℕ}
use Rattle.tokens.specs.Answer.{tested, status_answer}
use Rattle.tokens.specs.Checksum as Spec
use Rattle.tokens.specs.Octets.{same}
use Rattle.tokens.specs.declared.answer.Refusal.TheVariants.{Checksum}
use Rattle.tokens.proofs.Steps.{goes_on, stops, exits, status_decided, named_stops, named_on}
use Rattle.tokens.proofs.checksum.checksum_test.Goals as goal

pub returns-in_err-length : goal.returns-in_err-length
unfolding Spec.checksum_test
returns-in_err-length c = exits _ _ c.from_residual.ensures.1 (ap status_answer (stops _ _ _ c.length.ensures c.in_err-length.was))

pub returns-in_err-length-2 : goal.returns-in_err-length-2
unfolding Spec.checksum_test
returns-in_err-length-2 c =
    exits _ _ c.from_residual-in_err-length-2.ensures.1
    (ap status_answer (goes_on _ _ _ c.length.ensures c.in_ok-length.was ∙ stops _ _ _ c.length-2.ensures c.in_err-length-2.was))

pub returns-in_err-usage : goal.returns-in_err-usage
unfolding Spec.checksum_test
returns-in_err-usage c =
    exits _ _ c.from_residual-in_err-usage.ensures.1
    (ap status_answer (goes_on _ _ _ c.length.ensures c.in_ok-length.was
    ∙ goes_on _ _ _ c.length-2.ensures c.in_ok-length-2.was
    ∙ named_stops c.args.usage _ c.try_from.ensures c.in_err-usage.was))

pub returns : goal.returns
unfolding Spec.checksum_test
returns c =
    let a = c.args in
    let named = named_on a.usage _ c.try_from.ensures c.in_ok-usage.was in
    let expected = c.checksum_of-expected.ensures ∙ ap (λ (t : List ℕ). Spec.checksum a.key t a.«data».now) (c.t.ensures ∙ named.1) in
    status_decided _ _ _ (c.equal.ensures ∙ ap (λ (x : List ℕ). tested (same a.checksum.now x) Checksum) expected)
    (goes_on _ _ _ c.length.ensures c.in_ok-length.was ∙ goes_on _ _ _ c.length-2.ensures c.in_ok-length-2.was ∙ named.0)
