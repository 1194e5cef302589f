-- The digits of one octet more are written.
use Rattle.std.proofs.Common.{true, refl, rules, ◌∙◌}
use Rattle.std.proofs.lemmas.Grind.{put_three}
use Rattle.text.specs.Hex.{digits}
use Rattle.text.proofs.Digits.{printed}
use Rattle.text.proofs.hex.HexDisplay.fmt.Goals as goal

pub loop-octet-init : goal.loop-octet-init
unfolding digits
loop-octet-init g c = search rules

pub loop-octet-preserved : goal.loop-octet-preserved
loop-octet-preserved g c plain =
    let done = c.loop-octet.invariant plain in
    let high = c.in_ok-write_char.ensures.writes done.plain (refl {a = true}) in
    let low = c.in_ok-write_char-2.ensures.writes high.plain (refl {a = true}) in
    let first = c.from.ensures ∙ c.digit.ensures in
    let second = c.from-in-loop-octet.ensures ∙ c.digit-in-loop-octet.ensures in
    put_three _ _ _ _ _ _ _ _ _ done high low (printed _ _ c.loop-octet-test.true (search rules) first second)
