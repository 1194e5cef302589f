-- The four octets of the number, and the four of the direction.
use mathlib.Core.Path.{ap₂, ◌∙◌}
use mathlib.Core.List.{List, ◌++◌}
use Prim.Native.Nat.{ℕ}
use borrow.Author.Rules.{rules}
use Rattle.tokens.specs.Token as Spec
use Rattle.tokens.proofs.Placing.{four_of}
use Rattle.tokens.proofs.token.sequence_field.Goals as goal

pub returns : goal.returns
unfolding Spec.sequence_field
returns c =
    ap₂ (λ (x y : List ℕ). x ++ y)
    (four_of c.sequence_octets.result (search rules) ∙ c.sequence_octets.ensures)
    (four_of c.direction.result (search rules) ∙ c.direction.ensures)
