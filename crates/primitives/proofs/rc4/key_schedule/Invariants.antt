-- The turns so far are done, and the iterator stands at the next octet of the key.
use Rattle.std.proofs.Common.{◌≡◌, ◌+◌}
use Rattle.std.specs.Iterator.Adapters.{enumerate_source, enumerate_count, take_source, take_count}
use Rattle.primitives.proofs.Cycle.{Cycling}
use Rattle.primitives.proofs.rc4.Loops.{Scheduling}
use Rattle.primitives.proofs.rc4.key_schedule.Given as goal

abbrev pub invariant-loop-i : goal.invariant-loop-i
invariant-loop-i l =
    let taken = enumerate_source l.i-iterator in
    let i = enumerate_count l.i-iterator in
    Scheduling l.key l.s l.j i × Cycling l.key (take_source taken) i × (take_count taken + i ≡ 256)
