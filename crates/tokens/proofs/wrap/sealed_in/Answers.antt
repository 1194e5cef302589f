-- The two headers in turn.
use mathlib.Core.Path.{◌≡◌, sym, ◌∙◌}
use mathlib.Core.Bool.{true, false}
use lib.ListN.{take}
use Rattle.tokens.specs.Octets.{same}
use Rattle.tokens.specs.Wrap as Spec
use Rattle.tokens.proofs.Steps.{goes_on, stops, exits}
use Rattle.tokens.proofs.wrap.sealed_in.Goals as goal

pub returns-then-same : goal.returns-then-same
unfolding Spec.header Spec.sealed_in
returns-then-same c = rw (sym c.same.ensures ∙ c.if-same.true)

pub returns-in_err-equal : goal.returns-in_err-equal
unfolding Spec.header Spec.sealed_in
returns-in_err-equal c =
    let not-the-first : same (take 8 c.args.front) (Spec.header true) ≡ false = sym c.same.ensures ∙ c.if-same.false in
    rw not-the-first (exits _ _ c.from_residual.ensures.1 (stops _ _ _ c.equal.ensures c.in_err-equal.was))

pub returns : goal.returns
unfolding Spec.header Spec.sealed_in
returns c =
    let not-the-first : same (take 8 c.args.front) (Spec.header true) ≡ false = sym c.same.ensures ∙ c.if-same.false in
    rw not-the-first (sym (goes_on _ _ _ c.equal.ensures c.in_ok-equal.was))
