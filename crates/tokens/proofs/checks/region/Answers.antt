-- Each test as the definition makes it.
use Rattle.std.proofs.lemmas.Bool.Decides.{nat_tests}
use native.Mathlib.Omega.{arith}
use Rattle.tokens.specs.Answer.{tested}
use Rattle.tokens.proofs.checks.region.Goals as goal

pub returns-then-n-end : goal.returns-then-n-end
unfolding tested
returns-then-n-end c = grind (arith, nat_tests)

pub returns-else-start-end : goal.returns-else-start-end
unfolding tested
returns-else-start-end c = grind (arith, nat_tests)
