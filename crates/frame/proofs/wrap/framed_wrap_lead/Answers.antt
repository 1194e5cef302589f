-- The refusal of the length, or the octets before the token.
use mathlib.Core.Path.{ap}
use native.Mathlib.Omega.{arith}
use lib.ListN.{length}
use Rattle.tokens.proofs.Steps.{goes_on, stops, exits, bounds}
use Rattle.tokens.specs.Answer.{map_ok}
use Rattle.frame.specs.Wrap as Spec
use Rattle.frame.proofs.wrap.framed_wrap_lead.Goals as goal

pub returns-in_err-length : goal.returns-in_err-length
unfolding Spec.wrap_lead
returns-in_err-length c = exits _ _ c.from_residual.ensures.1 (ap (map_ok length) (stops _ _ _ c.length.ensures c.in_err-length.was))

pub overflow_add-len : goal.overflow_add-len
overflow_add-len c = omega (arith, bounds c.in_ok-length.was 0 32768 c.args.len c.length.ensures)

pub width-requires : goal.width-requires
width-requires c = omega (arith, bounds c.in_ok-length.was 0 32768 c.args.len c.length.ensures)

pub returns : goal.returns
unfolding Spec.wrap_lead
returns c = rw (goes_on _ _ _ c.length.ensures c.in_ok-length.was, c.width.ensures.0)
