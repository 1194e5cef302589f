-- Each answer of the reading, as the capture has it, and that the whole frame is held.
use Rattle.std.proofs.Common.{arith}
use Rattle.std.proofs.lemmas.Grind.{common_steps}
use mathlib.Core.Logic.{inr}
use Rattle.frame.proofs.Fronts.{front_fits, not_begun}
use Rattle.frame.proofs.capture.next_frame.Goals as goal

pub overflow_add-result : goal.overflow_add-result
overflow_add-result c = omega (arith, front_fits _ _ _ c.in-Token.ensures)

pub returns-in-Token-clause-within : goal.returns-in-Token-clause-within
returns-in-Token-clause-within c = front_fits _ _ _ c.in-Token.ensures

pub returns-in-Incomplete-3-clause-answer : goal.returns-in-Incomplete-3-clause-answer
returns-in-Incomplete-3-clause-answer c = (λ before m front. not_begun _ before m front c.in-Incomplete.ensures, inr (c.if-not-last.false, grind (arith, common_steps)))
