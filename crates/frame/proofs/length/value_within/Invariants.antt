-- What the octets so far say, and the octets that are left after it.
use mathlib.Core.Path.{◌≡◌}
use Prim.Native.Nat.{◌≤◌}
use lib.ListN.{drop}
use Rattle.frame.specs.Length.{value_after}
use Rattle.frame.proofs.length.value_within.Given as goal

abbrev pub invariant-loop-octet : goal.invariant-loop-octet
invariant-loop-octet l = (l.value ≤ l.most) × (value_after 0 l.octets ≡ value_after l.value (drop l.octet-index l.octets))
