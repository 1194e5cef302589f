-- Each place has its own number.
use Rattle.std.proofs.Common.{rules}
use Rattle.primitives.proofs.rc4.Loops.{counted}
use Rattle.primitives.proofs.rc4.up_to_256.Goals as goal

pub returns : goal.returns
returns c = let h = c.from_fn.ensures.items in counted 256 _ h.long (λ i lt. let called = h.at i 0 lt in search rules)
