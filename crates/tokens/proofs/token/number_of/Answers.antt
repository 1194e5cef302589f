-- The four octets, the highest first.
use Rattle.tokens.specs.Token.{number_of}
use native.Mathlib.Omega.{arith}
use Rattle.tokens.proofs.token.number_of.Goals as goal

pub returns : goal.returns
unfolding number_of
returns c = omega arith
