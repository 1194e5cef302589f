-- The refusals of the length and the usage, or the checksum for the usage's T.
use mathlib.Core.Path.{ap, sym, ◌∙◌}
use mathlib.Core.List.{List}
use Prim.Native.Nat.{ℕ}
use Rattle.std.specs.Prelude.{Ok}
use Rattle.tokens.specs.Checksum as Spec
use Rattle.tokens.proofs.Steps.{goes_on, stops, exits, named_stops, named_on}
use Rattle.tokens.proofs.checksum.checksum.Goals as goal

pub returns-in_err-length : goal.returns-in_err-length
unfolding Spec.keyed_checksum
returns-in_err-length c = exits _ _ c.from_residual.ensures.1 (stops _ _ _ c.length.ensures c.in_err-length.was)

pub returns-in_err-usage : goal.returns-in_err-usage
unfolding Spec.keyed_checksum
returns-in_err-usage c =
    exits _ _ c.from_residual-in_err-usage.ensures.1
    (goes_on _ _ _ c.length.ensures c.in_ok-length.was ∙ named_stops c.args.usage _ c.try_from.ensures c.in_err-usage.was)

pub returns : goal.returns
unfolding Spec.keyed_checksum
returns c =
    let a = c.args in
    let named = named_on a.usage _ c.try_from.ensures c.in_ok-usage.was in
    let sum = c.checksum_of.ensures ∙ ap (λ (t : List ℕ). Spec.checksum a.key t a.«data».now) (c.t.ensures ∙ named.1) in
    ap Ok sum ∙ sym (goes_on _ _ _ c.length.ensures c.in_ok-length.was ∙ named.0)
