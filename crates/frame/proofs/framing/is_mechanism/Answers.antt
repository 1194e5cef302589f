-- The octets up to the length of the mechanism, and those of the mechanism up to theirs.
use Rattle.std.proofs.Common.{ap₂, ◌∙◌, ℕ, List, length, arith}
use Rattle.tokens.specs.Octets.{same}
use Rattle.frame.specs.Framing.{mechanism, agree}
use Rattle.frame.proofs.Fronts.{take_least}
use Rattle.frame.proofs.framing.is_mechanism.Goals as goal

pub returns : goal.returns
unfolding agree mechanism
returns c =
    let octets : List ℕ = c.args.octets.now in
    c.same.ensures ∙ ap₂ same (take_least octets 11 c.min-count.ensures) (take_least mechanism (length octets) (c.min-count.ensures ∙ omega arith))
