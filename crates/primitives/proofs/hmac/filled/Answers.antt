-- The key, and the zeros behind it.
use Rattle.std.proofs.Common.{ℕ, List, ◌++◌, length, ap₂}
use Rattle.primitives.specs.Hmac.{filled}
use Rattle.primitives.proofs.Copy.{drop_zeros}
use Rattle.primitives.proofs.hmac.filled.Goals as goal

pub returns : goal.returns
unfolding filled
returns c = ap₂ (λ (l r : List ℕ). l ++ r) c.copy_from_slice.ensures.after (drop_zeros (length c.args.key.now) 64 c.requires)
