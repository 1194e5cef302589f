-- The region is its three fields, and has confounder, message and pad afterwards as opening leaves them.
use mathlib.Core.Path.{◌≡◌, ◌∙◌}
use Prim.Native.Nat.{◌≤◌}
use lib.ListN.{length}
use Rattle.tokens.specs.Wrap.{plain, opened, unwrapped_answer}
use Rattle.tokens.proofs.Lent.{front_fits, confounder_placed, fields_answer, fields_after}
use borrow.Author.Rules.{rules}
use native.Mathlib.Omega.{arith}
use Rattle.tokens.proofs.wrap.open_token.Goals as goal

pub place-requires : goal.place-requires
place-requires c =
    let size : length c.open_parts-answer.new.confounder ≡ 8 = search rules in
    let long : 32 ≤ length c.args.region.now = omega (arith, c.requires) in
    front_fits 24 c.args.region.now c.open_parts-answer.new.body long (length c.open_parts-answer.new.confounder) 24 (omega arith)

pub returns : goal.returns
returns c =
    let size : length c.open_parts-answer.new.confounder ≡ 8 = search rules in
    let long : 32 ≤ length c.args.region.now = omega (arith, c.requires) in
    let a = c.args in
    let region = a.region.now in
    let front = c.array_at-front.ensures in
    let came = c.array_at-confounder.ensures in
    record {
      answer = fields_answer 24 region front came (opened a.context) unwrapped_answer c.open_parts-answer.ensures.answer;
      octets = c.place.ensures
          ∙ confounder_placed 24 region c.open_parts-answer.new.body long c.open_parts-answer.new.confounder size
          ∙ fields_after 24 region front came (opened a.context) plain c.open_parts-answer.ensures.octets;
    }
