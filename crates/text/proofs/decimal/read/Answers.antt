-- The number that the digits so far say, and the text that is ahead of it.
use Rattle.std.proofs.Common.{◌≡◌, ◌+◌, ◌*◌, drop, sym, ap, ◌∙◌, arith, eqb-true, false-eqb, slice_index_or}
use Rattle.text.proofs.DigitValues.{decimal_digit, no_decimal_digit}
use Rattle.text.proofs.Numerals.{read_after, read_empty, read_some, next_digit, no_digit, all_read, too_large}
use Rattle.text.proofs.decimal.read.Goals as goal

pub returns-then-is_empty : goal.returns-then-is_empty
returns-then-is_empty c = sym (read_empty _ (eqb-true _ 0 (sym c.is_empty.ensures ∙ c.if-is_empty.true)))

pub loop-octet-init : goal.loop-octet-init
loop-octet-init c = (omega arith, read_some _ (omega (arith, false-eqb _ 0 c.if-is_empty.ensures)))

pub returns-in_err-digit : goal.returns-in_err-digit
returns-in_err-digit c =
    let l = c.loop-octet in
    let none = no_decimal_digit (slice_index_or c.args.text.now l.octet-index 0) c.in_err-digit.ensures.value in
    c.from_residual.ensures ∙ sym (l.invariant.1 ∙ no_digit l.sum _ l.octet-index c.loop-octet-test.true none)

pub returns-in_err-checked_mul : goal.returns-in_err-checked_mul
returns-in_err-checked_mul c =
    let l = c.loop-octet in
    let d = decimal_digit (slice_index_or c.args.text.now l.octet-index 0) c.in_ok-digit.digit c.in_ok-digit.ensures.value in
    let high = c.in_err-checked_mul.ensures in
    c.from_residual-in_err-checked_mul.ensures ∙ sym (l.invariant.1 ∙ next_digit l.sum _ l.octet-index c.loop-octet-test.true d.0 d.1 ∙ too_large (10 * l.sum + c.in_ok-digit.digit) _ (omega arith))

pub returns-in_err-sum : goal.returns-in_err-sum
returns-in_err-sum c =
    let l = c.loop-octet in
    let d = decimal_digit (slice_index_or c.args.text.now l.octet-index 0) c.in_ok-digit.digit c.in_ok-digit.ensures.value in
    let ten = c.in_ok-checked_mul.ensures in
    let high = c.in_err-sum.ensures in
    c.from_residual-in_err-sum.ensures ∙ sym (l.invariant.1 ∙ next_digit l.sum _ l.octet-index c.loop-octet-test.true d.0 d.1 ∙ too_large (10 * l.sum + c.in_ok-digit.digit) _ (omega arith))

pub loop-octet-preserved : goal.loop-octet-preserved
loop-octet-preserved c =
    let l = c.loop-octet in
    let d = decimal_digit (slice_index_or c.args.text.now l.octet-index 0) c.in_ok-digit.digit c.in_ok-digit.ensures.value in
    let ten = c.in_ok-checked_mul.ensures in
    let sum = c.in_ok-sum.ensures in
    let whole : 10 * l.sum + c.in_ok-digit.digit ≡ c.in_ok-sum.sum = omega arith in
    (omega arith, l.invariant.1 ∙ next_digit l.sum _ l.octet-index c.loop-octet-test.true d.0 d.1 ∙ ap (λ n. read_after n (drop (l.octet-index + 1) c.args.text.now)) whole)

pub returns : goal.returns
returns c =
    let l = c.loop-octet in
    sym (l.invariant.1 ∙ all_read l.sum _ l.octet-index c.loop-octet-test.false l.invariant.0)
