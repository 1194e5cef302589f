-- After some numbers the window is the one of the session whose tokens present them; so its count and what it misses are the clerk's.
use mathlib.Core.Path.{◌≡◌}
use mathlib.Core.List.{List, map, reverse}
use Prim.Native.Nat.{ℕ}
use lib.ListN.{take}
use Rattle.std.specs.Prelude.{Ok}
use Rattle.tokens.specs.Answer.{Outcome}
use Rattle.billing.specs.Session.{window_after}
use Rattle.tally.proofs.bill_all.Given as goal

-- the tokens of a session that present these numbers, in the order in which they come
abbrev pub tokens_of : List ℕ → List (Outcome ℕ)
tokens_of numbers = map Ok (reverse numbers)

abbrev pub invariant-loop-number : goal.invariant-loop-number
invariant-loop-number l = l.window ≡ window_after l.first (tokens_of (take l.number-index l.numbers))
