-- The octets of each sender.
use mathlib.Core.Path.{refl}
use Rattle.tokens.specs.Token as Spec
use Rattle.tokens.proofs.token.direction.Goals as goal

pub returns-in-Initiator : goal.returns-in-Initiator
unfolding Spec.direction
returns-in-Initiator c = rw c.in-Initiator.is refl

pub returns-in-Acceptor : goal.returns-in-Acceptor
unfolding Spec.direction
returns-in-Acceptor c = rw c.in-Acceptor.is refl
