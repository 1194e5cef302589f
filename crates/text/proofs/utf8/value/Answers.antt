-- The number so far, and the octets after them.
use Rattle.std.proofs.Common.{sym, ◌∙◌, arith}
use Rattle.text.proofs.Characters.{value_next, value_all}
use Rattle.text.proofs.utf8.value.Goals as goal

pub overflow_mul-value : goal.overflow_mul-value
overflow_mul-value c = omega (arith, c.loop-octet.invariant.two (omega arith))

pub loop-octet-preserved : goal.loop-octet-preserved
loop-octet-preserved c =
    let l = c.loop-octet in
    record {
      none = λ h. omega arith;
      one = λ h. omega (arith, l.invariant.none (omega arith));
      two = λ h. omega (arith, l.invariant.one (omega arith));
      all = λ h. omega (arith, l.invariant.two (omega arith));
      ahead = l.invariant.ahead ∙ value_next l.value c.args.after.now l.octet-index c.loop-octet-test.true;
    }

pub returns : goal.returns
returns c =
    let l = c.loop-octet in
    sym (l.invariant.ahead ∙ value_all l.value c.args.after.now l.octet-index c.loop-octet-test.false)
