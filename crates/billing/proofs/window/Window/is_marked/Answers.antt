-- The binary digit at the place.
use Rattle.std.proofs.Common.{refl}
use Rattle.billing.specs.Window.{is_marked}
use Rattle.billing.proofs.window.Window.is_marked.Goals as goal

pub returns : goal.returns
unfolding is_marked
returns c = refl
