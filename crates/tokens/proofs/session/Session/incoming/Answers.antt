-- The fields, of which the sender or the role may be the other side.
use Rattle.tokens.specs.Session.{incoming, outgoing}
use Rattle.tokens.proofs.session.Session.incoming.Goals as goal

pub returns : goal.returns
unfolding incoming outgoing
returns c = rw (c.other.ensures, c.outgoing.ensures)
