-- All 64 marks, or those in use.
use Rattle.std.proofs.Common.{pow_pos, rules}
use lib.Count.{ones-le}
use Rattle.billing.proofs.window.Numbers.{one_moved, few_set, few_missing, many_missing}
use Rattle.billing.proofs.window.Window.missing.Goals as goal

pub overflow_sub-result : goal.overflow_sub-result
overflow_sub-result c = ones-le 64 c.args.self.seen (search rules)

pub returns-then-next-ge-MARKS : goal.returns-then-next-ge-MARKS
returns-then-next-ge-MARKS c = many_missing c.args.self (search rules) (search rules)

pub overflow_sub-result-2 : goal.overflow_sub-result-2
overflow_sub-result-2 c = let w = c.args.self in rw (one_moved w.next c.if-next-ge-MARKS.false) (pow_pos w.next)

pub overflow_sub-result-3 : goal.overflow_sub-result-3
overflow_sub-result-3 c = let w = c.args.self in few_set w.seen w.next c.if-next-ge-MARKS.false

pub returns : goal.returns
returns c = few_missing c.args.self c.if-next-ge-MARKS.false
