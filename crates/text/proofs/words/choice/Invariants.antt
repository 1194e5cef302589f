-- No word of the table so far is the given one.
use Rattle.std.proofs.Common.{◌≡◌, map, drop}
use Rattle.text.specs.Words.{chosen}
use Rattle.text.proofs.words.choice.Given as goal

abbrev pub invariant-loop-name : goal.invariant-loop-name
invariant-loop-name g l = chosen l.word (map (λ c. (c.0.now, c.1)) (drop l.name-index l.choices)) ≡ chosen l.word (map (λ c. (c.0.now, c.1)) l.choices)
