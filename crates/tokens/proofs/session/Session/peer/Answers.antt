-- The fields, of which the sender or the role may be the other side.
use Rattle.tokens.specs.Session.{peer}
use Rattle.tokens.proofs.session.Session.peer.Goals as goal

pub returns : goal.returns
unfolding peer
returns c = rw c.other.ensures
