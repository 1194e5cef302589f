-- The octets before those ahead were read. Each way out has its law in `proofs/Texts.antt`.
use Rattle.std.proofs.Common.{length}
use Rattle.text.proofs.Texts.{Reads}
use Rattle.text.proofs.utf8.units.Given as goal

abbrev pub invariant-loop-ahead : goal.invariant-loop-ahead
invariant-loop-ahead l = Reads l.text l.units l.ahead

abbrev pub decreases-loop-ahead : goal.decreases-loop-ahead
decreases-loop-ahead l = length l.ahead
