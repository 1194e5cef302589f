-- At the head of each turn the state and the text are those of the octets so far.
use Rattle.primitives.specs.Rc4.{state}
use Rattle.primitives.proofs.rc4.Loops.{Applying}
use Rattle.primitives.proofs.rc4.Rc4.apply.Given as goal

abbrev pub invariant-loop-octet : goal.invariant-loop-octet
invariant-loop-octet l = Applying (state l.initial.s l.initial.i l.initial.j) l.initial.text l.text l.s l.i l.j l.a l.octet-index
