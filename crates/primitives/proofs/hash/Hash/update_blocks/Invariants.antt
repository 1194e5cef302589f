-- What is left of the part leads from the state so far to what the whole part leads to.
use Rattle.std.proofs.Common.{◌≡◌, ℕ, ◌≤◌, List, length}
use Rattle.primitives.specs.Hash.{absorb}
use Rattle.primitives.specs.declared.hash.Algorithm.{Algorithm}
use Rattle.primitives.specs.declared.hash.Hash.{Hash}
use Rattle.primitives.specs.declared.hash.Words.{Words}
use Rattle.primitives.proofs.Absorb.{Held}
use Rattle.primitives.proofs.hash.Hash.update_blocks.Given as goal

abbrev pub state : Algorithm → Words → List ℕ → ℕ → Hash
state algorithm words block count = record { algorithm = algorithm; words = words; block = block; count = count }

abbrev pub invariant-loop-rest : goal.invariant-loop-rest
invariant-loop-rest l =
    record {
      within : length l.rest ≤ length l.part;
      held : Held (state l.algorithm l.words l.block l.count);
      absorbed : absorb (state l.algorithm l.words l.block l.count) l.rest ≡ absorb (state l.algorithm l.initial.words l.initial.block l.initial.count) l.part;
    }

abbrev pub decreases-loop-rest : goal.decreases-loop-rest
decreases-loop-rest l = length l.rest
