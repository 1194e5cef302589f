-- The library's digits are those of the definition.
use Rattle.std.proofs.Common.{◌∙◌, le-ltb, lt-ltb}
use Rattle.text.specs.Hex.{octet, value}
use Rattle.text.proofs.DigitValues.{hex_digit, no_hex_digit}
use Rattle.text.proofs.hex.octet.Goals as goal

pub returns-in_err-high : goal.returns-in_err-high
unfolding octet
returns-in_err-high c = c.from_residual.ensures ∙ rw (le-ltb (value c.args.high) 16 (no_hex_digit c.args.high c.in_err-high.ensures.value))

pub returns-in_err-low : goal.returns-in_err-low
unfolding octet
returns-in_err-low c =
    let high = hex_digit c.args.high c.in_ok-high.high c.in_ok-high.ensures.value in
    c.from_residual-in_err-low.ensures ∙ rw (← high.0, lt-ltb c.in_ok-high.high 16 high.1, le-ltb (value c.args.low) 16 (no_hex_digit c.args.low c.in_err-low.ensures.value))

pub returns : goal.returns
unfolding octet
returns c =
    let high = hex_digit c.args.high c.in_ok-high.high c.in_ok-high.ensures.value in
    let low = hex_digit c.args.low c.in_ok-low.low c.in_ok-low.ensures.value in
    rw (← high.0, ← low.0, lt-ltb c.in_ok-high.high 16 high.1, lt-ltb c.in_ok-low.low 16 low.1)
