-- The places of the words in a block that are printed.
use Rattle.std.proofs.Common.{ℕ, ◌<◌, get_or}
use Rattle.primitives.specs.Md5.{words}
use Rattle.primitives.proofs.Below.{bounded}

pub words_below : (n : ℕ) → n < 64 → get_or words n 0 < 16
unfolding words
words_below = bounded 16 words 64 tt
