-- The HMAC of SGN_CKSUM under the salted key.
use mathlib.Core.Path.{ap, ◌∙◌}
use mathlib.Core.List.{List}
use Prim.Native.Nat.{ℕ}
use Rattle.primitives.specs.Hmac.{hmac}
use Rattle.tokens.specs.Token.{sequence_key}
use Rattle.tokens.proofs.token.sequence_key.Goals as goal

pub returns : goal.returns
unfolding sequence_key
returns c = c.of.ensures ∙ ap (λ (k : List ℕ). hmac k c.args.sum) c.salted_key.ensures
