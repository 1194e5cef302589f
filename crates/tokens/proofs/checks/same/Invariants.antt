-- The octets so far are the same exactly if no difference is seen.
use mathlib.Core.Path.{◌≡◌}
use lib.Dec.{eqb}
use lib.ListN.{length, take}
use Rattle.tokens.specs.Octets.{same}
use Rattle.tokens.proofs.checks.same.Given as goal

abbrev pub invariant-loop-x : goal.invariant-loop-x
invariant-loop-x l = same (take (length l.yielded) l.a) (take (length l.yielded) l.b) ≡ eqb l.difference 0
