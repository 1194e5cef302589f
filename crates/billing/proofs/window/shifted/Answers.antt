-- The test is the definition's.
use Rattle.std.proofs.Common.{le-ltb, lt-ltb}
use Rattle.billing.specs.Window.{shifted}
use Rattle.billing.proofs.window.shifted.Goals as goal

pub returns-then-by-lt-MARKS : goal.returns-then-by-lt-MARKS
unfolding shifted
returns-then-by-lt-MARKS c = simp (lt-ltb _ _ c.if-by-lt-MARKS.true)

pub returns-else-by-lt-MARKS : goal.returns-else-by-lt-MARKS
unfolding shifted
returns-else-by-lt-MARKS c = simp (le-ltb _ _ c.if-by-lt-MARKS.false)
