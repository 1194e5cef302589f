-- The checksum before what the run gave.
use Rattle.tokens.proofs.message.Sealing.{sealed}
use Rattle.tokens.proofs.message.MessageKey.seal.Goals as goal

pub returns : goal.returns
returns c =
    sealed _ _ _ _ _ (record {
      k1_is = c.derive.ensures.0;
      k2_is = c.derive.ensures.1;
      k3_is = c.of.ensures;
      run_is = c.run.ensures;
    }) c.of_two-checksum.ensures
