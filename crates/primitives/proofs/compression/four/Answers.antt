-- Four operations in a row.
use Rattle.primitives.proofs.Rounds.{four_more}
use Rattle.primitives.proofs.compression.four.Goals as goal

pub returns : goal.returns
returns g c o =
    four_more g.C.Compression.step o c.args.block.now c.args.n c.operation-a.ensures
    c.operation-b.ensures
    c.operation-c.ensures
    c.operation.ensures
