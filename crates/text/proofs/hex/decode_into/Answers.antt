-- The first i octets are read, and the text is digits and says the others ahead.
use Rattle.std.proofs.Common.{◌≡◌, ◌*◌, ◌∙◌, sym, false, arith, length, length-set}
use Rattle.text.specs.Hex.{spells, decode_into, decoded}
use Rattle.text.proofs.Digits.{not_digits, more_digits, read_more, other_length, same_length, all_read}
use Rattle.text.proofs.hex.decode_into.Goals as goal
use Rattle.text.proofs.hex.decode_into.Goals.{then-text-ne0-via-then-text-ne0, then-text-ne0-via-else-text-ne0+then-text-out, then-text-ne0-via-else-text-ne0+else-text-out+then-not-are_digits}

pub returns-then-text-ne0 : goal.returns-then-text-ne0
unfolding decode_into decoded
returns-then-text-ne0 c =
    let text = c.args.text.now in
    let n = length c.args.out.now in
    let other : spells n text ≡ false = elim c.then-text-ne0.branch [
      | then-text-ne0-via-then-text-ne0 w ↦ other_length text n (λ e. omega (arith, w.if-text-ne0.true))
      | then-text-ne0-via-else-text-ne0+then-text-out w ↦ other_length text n (λ e. omega (arith, w.if-text-out.true))
      | then-text-ne0-via-else-text-ne0+else-text-out+then-not-are_digits w ↦
          same_length text n (omega (arith, w.if-text-ne0.false, w.if-text-out.false)) ∙ (sym w.are_digits.ensures ∙ w.if-not-are_digits.true)
    ] in
    record { answer = rw other; octets = rw other }

pub returns-in_err-octet : goal.returns-in_err-octet
returns-in_err-octet c =
    let l = c.loop-i in
    let wrong = not_digits c.args.text.now l.i (omega arith) c.in_err-octet.ensures in
    let right = l.invariant.digits in
    absurd cc

pub loop-i-preserved : goal.loop-i-preserved
loop-i-preserved c =
    let l = c.loop-i in
    let text = c.args.text.now in
    record {
      size = length-set l.out l.i _ ∙ l.invariant.size;
      digits = sym (more_digits text l.i (omega arith) c.in_ok-octet.ensures) ∙ l.invariant.digits;
      said = read_more text l.i (omega arith) c.in_ok-octet.ensures l.out (omega arith) l.invariant.said;
    }

pub returns : goal.returns
unfolding decode_into decoded
returns c =
    let l = c.loop-i in
    let text = c.args.text.now in
    let n = length c.args.out.now in
    let size : length text ≡ 2 * n = omega arith in
    let all : l.i ≡ n = omega arith in
    let spelled = same_length text n size ∙ (sym c.are_digits.ensures ∙ c.if-not-are_digits.false) in
    record { answer = rw spelled; octets = rw spelled (all_read text n size l.out l.invariant.size (rw all at l.invariant.said)) }
