-- The region is its three fields, and has confounder and message afterwards as opening leaves them.
use mathlib.Core.Path.{◌≡◌, ◌∙◌}
use lib.ListN.{length}
use Rattle.tokens.specs.Answer.{status_answer}
use Rattle.tokens.specs.Message.{plain, opened}
use Rattle.tokens.proofs.Lent.{front_fits, confounder_placed, fields_answer, fields_after}
use borrow.Author.Rules.{rules}
use native.Mathlib.Omega.{arith}
use Rattle.tokens.proofs.message.MessageKey.read.Goals as goal

pub place-requires : goal.place-requires
place-requires c =
    let size : length c.unseal-status.new.confounder ≡ 8 = search rules in
    front_fits 16 c.args.region.now c.unseal-status.new.message c.requires (length c.unseal-status.new.confounder) 16 (omega arith)

pub returns : goal.returns
returns c =
    let size : length c.unseal-status.new.confounder ≡ 8 = search rules in
    let key = c.args.self in
    let region = c.args.region.now in
    let sum = c.array_at-checksum.ensures in
    let confounder = c.array_at-confounder.ensures in
    record {
      status = fields_answer 16 region sum confounder (opened key.key key.strength key.usage.t) status_answer c.unseal-status.ensures.status;
      octets = c.place.ensures
          ∙ confounder_placed 16 region c.unseal-status.new.message c.requires c.unseal-status.new.confounder size
          ∙ fields_after 16 region sum confounder (opened key.key key.strength key.usage.t) plain c.unseal-status.ensures.octets;
    }
