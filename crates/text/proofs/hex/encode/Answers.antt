-- The digits of the first i octets are written, and behind them `out` is as it came.
use Rattle.std.proofs.Common.{refl, arith, rules}
use Rattle.text.specs.Hex.{digits}
use Rattle.text.proofs.Digits.{written, none_written, all_written}
use Rattle.text.proofs.hex.encode.Goals as goal

pub returns-then-out-octets-clause-count : goal.returns-then-out-octets-clause-count
returns-then-out-octets-clause-count c = (none_written _ _ c.if-out-octets.true).0

pub returns-then-out-octets-clause-digits : goal.returns-then-out-octets-clause-digits
returns-then-out-octets-clause-digits c = (none_written _ _ c.if-out-octets.true).1

pub loop-i-init : goal.loop-i-init
unfolding digits
loop-i-init c = record { size = refl; written = refl }

pub loop-i-preserved : goal.loop-i-preserved
loop-i-preserved c =
    let l = c.loop-i in
    record {
      size = search rules;
      written = written _ _ l.out l.i c.loop-i-test.true (omega arith) l.invariant.written c.digit.ensures c.digit-in-loop-i.ensures;
    }

pub returns-clause-count : goal.returns-clause-count
returns-clause-count c =
    let l = c.loop-i in
    (all_written _ _ l.out l.i c.loop-i-test.false (omega arith) (omega arith) l.invariant.written).0

pub returns-clause-digits : goal.returns-clause-digits
returns-clause-digits c =
    let l = c.loop-i in
    (all_written _ _ l.out l.i c.loop-i-test.false (omega arith) (omega arith) l.invariant.written).1
