-- Each of the two.
use Rattle.tokens.specs.Session.{other}
use borrow.Author.Rules.{rules}
use Rattle.tokens.proofs.context.Sender.other.Goals as goal

pub returns-in-Initiator : goal.returns-in-Initiator
unfolding other
returns-in-Initiator c = search rules

pub returns-in-Acceptor : goal.returns-in-Acceptor
unfolding other
returns-in-Acceptor c = search rules
