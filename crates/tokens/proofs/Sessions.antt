-- The laws of a session: its contexts and those of the other side, and which Wrap tokens it allows.
use mathlib.Core.Path.{◌≡◌, refl, sym, ◌∙◌}
use mathlib.Core.Bool.{Bool, true, false, cond}
use Rattle.tokens.specs.Session.{other, outgoing, incoming, peer, allows}
use Rattle.tokens.specs.declared.context.Sender.{Sender}
use Rattle.tokens.specs.declared.context.Sender.TheVariants.{Initiator, Acceptor}
use Rattle.tokens.specs.declared.session.Session.{Session}

-- the other side reads what this one writes
pub peer_reads : (session : Session) → incoming (peer session) ≡ outgoing session
unfolding incoming outgoing peer other
peer_reads session = λ i. record { key = session.key; strength = session.strength; sender = back session.role i }
  where
    back : (role : Sender) → other (other role) ≡ role
    back Initiator = refl
    back Acceptor = refl

-- and allows the same tokens
pub peer_allows : (session : Session) (sealed : Bool) → allows (peer session) sealed ≡ allows session sealed
unfolding allows peer
peer_allows session sealed = refl

-- a sealed token is always allowed
pub sealed_allowed : (session : Session) → allows session true ≡ true
unfolding allows
sealed_allowed session = either session.sealed_only
  where
    either : (b : Bool) → cond b true true ≡ true
    either true = refl
    either false = refl

-- tokens are allowed that are sealed if the session insists, and no others
module _ (session : Session) (sealed : Bool) where
  pub allowed_sealed : allows session sealed ≡ true → session.sealed_only ≡ true → sealed ≡ true
  unfolding allows
  allowed_sealed e only = sym (rw only) ∙ e

  pub sealed_allows : (session.sealed_only ≡ true → sealed ≡ true) → allows session sealed ≡ true
  unfolding allows
  sealed_allows h = either session.sealed_only h
    where
      either : (b : Bool) → (b ≡ true → sealed ≡ true) → cond b sealed true ≡ true
      either true f = f refl
      either false f = refl
