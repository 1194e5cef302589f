-- The checksum decides: what the run gave stays, or a second run puts back what was there.
use mathlib.Core.Path.{◌≡◌, sym, ◌∙◌}
use mathlib.Core.List.{◌++◌}
use lib.ListN.{length}
use Rattle.tokens.proofs.message.Sealing.{Run, opened_status, opened_plain, opened_restored}
use borrow.Author.Rules.{rules}
use Rattle.tokens.proofs.message.MessageKey.unseal.Goals as goal

pub returns-in-Err : goal.returns-in-Err
returns-in-Err c =
    let a = c.args in
    let size : length a.checksum ≡ 16 = search rules in
    let ran : Run a.self.key a.self.strength a.self.usage.t a.checksum (a.confounder.now ++ a.message.now) c.derive.result.k1 c.derive.result.k2 c.of-k3.result (c.run.new.confounder ++ c.run.new.body)
    = record { k1_is = c.derive.ensures.0; k2_is = c.derive.ensures.1; k3_is = c.of-k3.ensures; run_is = c.run.ensures } in
    record {
      status = sym c.in-Err.is ∙ opened_status _ _ _ ran size c.of_two-expected.ensures c.equal.ensures;
      octets = opened_restored _ _ _ ran size c.of_two-expected.ensures c.equal.ensures c.in-Err.is c.run-in-Err.ensures;
    }

pub returns : goal.returns
returns c =
    let a = c.args in
    let size : length a.checksum ≡ 16 = search rules in
    let ran : Run a.self.key a.self.strength a.self.usage.t a.checksum (a.confounder.now ++ a.message.now) c.derive.result.k1 c.derive.result.k2 c.of-k3.result (c.run.new.confounder ++ c.run.new.body)
    = record { k1_is = c.derive.ensures.0; k2_is = c.derive.ensures.1; k3_is = c.of-k3.ensures; run_is = c.run.ensures } in
    record {
      status = sym c.in_default.is ∙ opened_status _ _ _ ran size c.of_two-expected.ensures c.equal.ensures;
      octets = opened_plain _ _ _ ran size c.of_two-expected.ensures c.equal.ensures c.in_default.is;
    }
