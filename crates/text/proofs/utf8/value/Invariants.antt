-- The number so far, and the octets after them. Six bits more with each keep it below a bound for each index.
use Rattle.std.proofs.Common.{◌≡◌, ◌≤◌, ◌<◌, drop}
use Rattle.text.specs.Utf8.{value_after}
use Rattle.text.proofs.utf8.value.Given as goal

abbrev pub invariant-loop-octet : goal.invariant-loop-octet
invariant-loop-octet l = record {
  none : l.octet-index ≤ 0 → l.value < 128;
  one : l.octet-index ≤ 1 → l.value < 8192;
  two : l.octet-index ≤ 2 → l.value < 524288;
  all : l.octet-index ≤ 3 → l.value < 33554432;
  ahead : value_after l.fn.bits l.after ≡ value_after l.value (drop l.octet-index l.after);
}
