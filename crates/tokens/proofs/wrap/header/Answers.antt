-- The header of each.
use Rattle.tokens.specs.Wrap as Spec
use borrow.Author.Rules.{rules}
use Rattle.tokens.proofs.wrap.header.Goals as goal

pub returns-then-sealed : goal.returns-then-sealed
unfolding Spec.header
returns-then-sealed c = search rules

pub returns-else-sealed : goal.returns-else-sealed
unfolding Spec.header
returns-else-sealed c = search rules
