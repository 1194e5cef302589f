-- The tables are those that are printed.
use Rattle.std.proofs.Common.{refl}
use Rattle.primitives.specs.Md5 as Md5
use Rattle.primitives.proofs.md5.compress.Goals as goal

pub invariant_of-compress : goal.invariant_of-compress
unfolding Md5.addends Md5.shifts_by_round Md5.words
invariant_of-compress c = record { addends_printed = refl; shifts_printed = refl; words_printed = refl }
