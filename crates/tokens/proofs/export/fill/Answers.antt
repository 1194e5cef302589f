-- Nothing, or the nine octets in their place.
use mathlib.Core.Path.{refl}
use Rattle.tokens.specs.Strength.{export_fill}
use Rattle.tokens.proofs.Placing.{put_placed}
use Rattle.tokens.proofs.export.fill.Goals as goal

pub returns-in-Export : goal.returns-in-Export
unfolding export_fill
returns-in-Export c = rw c.in-Export.is (put_placed 7 9 c.args.key _ _ c.copy_from_slice.ensures.after refl)

pub returns-in_default : goal.returns-in_default
unfolding export_fill
returns-in_default c = rw c.in_default.is
