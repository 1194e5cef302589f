-- The form of the code is that of the document.
use Rattle.primitives.proofs.Choose.{choose}
use Rattle.std.proofs.Common.{rules}
use Rattle.primitives.proofs.word.aux_f.Goals as goal

pub returns : goal.returns
returns c = choose 32 c.args.x c.args.y c.args.z (search rules) (search rules) (search rules)
