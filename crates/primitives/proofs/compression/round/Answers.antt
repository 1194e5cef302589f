-- Four times four operations in a row.
use Rattle.primitives.proofs.Rounds.{round_more}
use Rattle.primitives.proofs.compression.round.Goals as goal

pub returns : goal.returns
returns g c o =
    round_more g.C.Compression.step o c.args.block.now c.args.n (c.four-a.ensures o)
    (c.four-b.ensures o)
    (c.four-c.ensures o)
    (c.four.ensures o)
