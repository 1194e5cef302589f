-- The number that the digits so far say, and the text that is ahead of it.
use Rattle.std.proofs.Common.{◌≡◌, ◌≤◌, drop}
use Rattle.text.specs.Decimal.{read}
use Rattle.text.proofs.Numerals.{read_after}
use Rattle.text.proofs.decimal.read.Given as goal

abbrev pub invariant-loop-octet : goal.invariant-loop-octet
invariant-loop-octet l = (l.sum ≤ 4294967295) × (read l.text ≡ read_after l.sum (drop l.octet-index l.text))
