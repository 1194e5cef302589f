-- The tables are those that are printed.
use Rattle.std.proofs.Common.{refl}
use Rattle.primitives.specs.Md4 as Md4
use Rattle.primitives.proofs.md4.compress.Goals as goal

pub invariant_of-compress : goal.invariant_of-compress
unfolding Md4.addend Md4.shifts_by_round Md4.words
invariant_of-compress c = record { addends_printed = refl; shifts_printed = refl; words_printed = refl }
