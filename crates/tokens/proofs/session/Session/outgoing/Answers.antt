-- The fields, of which the sender or the role may be the other side.
use borrow.Author.Rules.{rules}
use Rattle.tokens.specs.Session.{outgoing}
use Rattle.tokens.proofs.session.Session.outgoing.Goals as goal

pub returns : goal.returns
unfolding outgoing
returns c = search rules
