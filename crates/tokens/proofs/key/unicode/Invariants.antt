-- The first i units have been turned to octets.
use mathlib.Core.Path.{◌≡◌}
use mathlib.Core.List.{◌++◌}
use Prim.Native.Nat.{◌-◌, ◌*◌}
use lib.ListN.{take, replicate}
use Rattle.tokens.specs.Key.{unicode}
use Rattle.tokens.proofs.key.unicode.Given as goal

abbrev pub invariant-loop-i : goal.invariant-loop-i
invariant-loop-i l = l.octets ≡ unicode (take l.i l.units) ++ replicate (512 - 2 * l.i) 0
