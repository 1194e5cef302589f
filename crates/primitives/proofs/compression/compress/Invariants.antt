-- Round by round.
use Rattle.std.proofs.Common.{◌≡◌, ◌*◌}
use Rattle.primitives.specs.Word.{operations}
use Rattle.primitives.proofs.compression.compress.Given as goal

abbrev pub invariant-loop-i : goal.invariant-loop-i
invariant-loop-i g l = l.v ≡ operations g.C.Compression.step (16 * l.i) l.w l.block
