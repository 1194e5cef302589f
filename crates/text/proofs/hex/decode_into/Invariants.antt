-- The first i octets are read, and the text is digits and says the others ahead.
use Rattle.std.proofs.Common.{◌≡◌, ◌*◌, ◌++◌, true, length, take, drop}
use Rattle.text.specs.Hex.{are_digits, octets_of}
use Rattle.text.proofs.hex.decode_into.Given as goal

abbrev pub invariant-loop-i : goal.invariant-loop-i
invariant-loop-i l = record {
  size : length l.out ≡ length l.initial.out;
  digits : are_digits (drop (2 * l.i) l.text) ≡ true;
  said : take l.i l.out ++ octets_of (drop (2 * l.i) l.text) ≡ octets_of l.text;
}
