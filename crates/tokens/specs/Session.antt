-- A session: the contexts of the tokens that it writes and reads, and which Wrap tokens it allows.
use Rattle.std.specs.Prelude.{Bool, true, cond}
use Rattle.tokens.specs.declared.context.Context.{Context}
use Rattle.tokens.specs.declared.context.Sender.{Sender}
use Rattle.tokens.specs.declared.context.Sender.TheVariants.{Initiator, Acceptor}
use Rattle.tokens.specs.declared.session.Session.{Session}

-- the other side of a session
unfoldable pub other : Sender → Sender
other Initiator = Acceptor
other Acceptor = Initiator

-- the context of the tokens that a session writes: its own role is the sender
unfoldable pub outgoing : Session → Context
outgoing session = record { key = session.key; strength = session.strength; sender = session.role }

-- the context of the tokens that it reads: the other role is the sender
unfoldable pub incoming : Session → Context
incoming session = record { key = session.key; strength = session.strength; sender = other session.role }

-- the session of the other side: it reads what this one writes, and writes what this one reads
unfoldable pub peer : Session → Session
peer session = record { key = session.key; strength = session.strength; role = other session.role; sealed_only = session.sealed_only }

-- whether a Wrap token, sealed or clear, is allowed: a clear one is not where the session insists on sealing
unfoldable pub allows : Session → Bool → Bool
allows session sealed = cond session.sealed_only sealed true
