-- One stream under Kcrypt, or nothing.
use mathlib.Core.Path.{ap, ◌∙◌}
use mathlib.Core.List.{List, ◌++◌}
use Prim.Native.Nat.{ℕ}
use Rattle.primitives.specs.Rc4.{rc4}
use Rattle.tokens.specs.Wrap as Spec
use Rattle.tokens.proofs.wrap.under_seal.Goals as goal

pub returns-then-sealed : goal.returns-then-sealed
unfolding Spec.under_seal
returns-then-sealed c =
    let a = c.args in
    c.run.ensures ∙ ap (λ (k : List ℕ). rc4 k (a.confounder.now ++ a.body.now)) c.sealing_key.ensures ∙ rw c.if-sealed.true

pub returns-else-sealed : goal.returns-else-sealed
unfolding Spec.under_seal
returns-else-sealed c = rw c.if-sealed.false
