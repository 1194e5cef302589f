-- The checksum, and then the last octet.
use Rattle.tokens.proofs.Steps.{exits}
use Rattle.tokens.proofs.wrap.Opening.{checksum_refused, pad_found, pad_refused}
use Rattle.tokens.proofs.wrap.verify.Goals as goal

pub returns-in_err-equal : goal.returns-in_err-equal
returns-in_err-equal c =
    let a = c.args in
    exits _ _ c.from_residual.ensures.1
    (checksum_refused a.context a.sealed a.confounder a.body.now c.requires a.sum c.wrap_checksum-expected.ensures c.equal.ensures c.in_err-equal.was)

pub returns-then-body-eq-PAD : goal.returns-then-body-eq-PAD
returns-then-body-eq-PAD c =
    let a = c.args in
    pad_found a.context a.sealed a.confounder a.body.now c.requires a.sum c.wrap_checksum-expected.ensures c.equal.ensures c.in_ok-equal.was c.if-body-eq-PAD.true

pub returns-else-body-eq-PAD : goal.returns-else-body-eq-PAD
returns-else-body-eq-PAD c =
    let a = c.args in
    pad_refused a.context a.sealed a.confounder a.body.now c.requires a.sum c.wrap_checksum-expected.ensures c.equal.ensures c.in_ok-equal.was c.if-body-eq-PAD.false
