-- The octets copied into their place.
use native.Mathlib.Omega.{arith}
use Rattle.tokens.proofs.Placing.{put_placed}
use Rattle.tokens.proofs.octets.place.Goals as goal

pub returns : goal.returns
returns c = put_placed c.args.at _ c.args.buf.now _ _ c.copy_from_slice.ensures.after (omega arith)
