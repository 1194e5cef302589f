-- The pad in its place, and the token's fields from what then stands there.
use Rattle.tokens.proofs.wrap.Opening.{parts_written}
use Rattle.tokens.proofs.wrap.write_parts.Goals as goal

pub returns : goal.returns
returns c =
    let a = c.args in
    parts_written a.context a.sequence a.sealed a.confounder.now a.body.now c.requires c.wrap_checksum-sum.ensures c.header.ensures c.front.ensures c.under_seal.ensures
