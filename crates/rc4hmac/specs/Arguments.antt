-- The arguments of the C interface: a number that is 0 for no and anything else for yes, and a window as four numbers.
use Rattle.std.specs.Prelude.{Bool, true, false, cond, List, ℕ, zero, suc, ◌%◌, get_or}
use Rattle.billing.specs.declared.window.Window.{Window}
use Rattle.tokens.specs.Token.{sequence_numbers}
use Rattle.tokens.specs.declared.context.Context.{Context}
use Rattle.tokens.specs.declared.context.Sender.{Sender}
use Rattle.tokens.specs.declared.context.Sender.TheVariants.{Initiator, Acceptor}
use Rattle.tokens.specs.declared.strength.Strength.{Strength}
use Rattle.tokens.specs.declared.strength.Strength.TheVariants.{Full, Export}

abbrev pub is_yes : ℕ → Bool
is_yes zero = false
is_yes (suc n) = true

-- export strength, if it is asked for
abbrev pub strength_of : ℕ → Strength
strength_of export = cond (is_yes export) Export Full

-- the acceptor, if it is named
abbrev pub sender_of : ℕ → Sender
sender_of acceptor = cond (is_yes acceptor) Acceptor Initiator

abbrev pub context_of : List ℕ → ℕ → ℕ → Context
context_of key export acceptor = record { key = key; strength = strength_of export; sender = sender_of acceptor }

-- the window that four numbers hold, the first number and the next expected distance modulo 2^32
abbrev pub window_of : List ℕ → Window
window_of words = record { first = get_or words 0 0 % sequence_numbers; next = get_or words 1 0 % sequence_numbers; seen = get_or words 2 0; billed = get_or words 3 0 }
