-- The four octets, the highest first.
use Rattle.tokens.specs.Token.{sequence_octets}
use borrow.Author.Rules.{rules}
use Rattle.tokens.proofs.token.sequence_octets.Goals as goal

pub returns : goal.returns
unfolding sequence_octets
returns c = search rules
