-- The digits of the first i octets are written, and behind them `out` is as it came.
use Rattle.std.proofs.Common.{◌≡◌, ◌*◌, ◌++◌, length, take, drop}
use Rattle.text.specs.Hex.{digits}
use Rattle.text.proofs.hex.encode.Given as goal

abbrev pub invariant-loop-i : goal.invariant-loop-i
invariant-loop-i l = record {
  size : length l.out ≡ length l.initial.out;
  written : l.out ≡ digits (take l.i l.octets) ++ drop (2 * l.i) l.initial.out;
}
