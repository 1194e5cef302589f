-- Each way out has its law in `proofs/Fronts.antt`.
use Rattle.std.proofs.Common.{sym, arith}
use Rattle.frame.proofs.Fronts as Law
use Rattle.frame.proofs.framing.lead_of.Goals as goal

pub overflow_add-lead : goal.overflow_add-lead
overflow_add-lead c = omega (arith, Law.front_fits _ _ _ c.in-Token.ensures)

pub returns-in-Token : goal.returns-in-Token
returns-in-Token c = sym (Law.whole_lead _ _ _ c.in-Token.ensures c.if-lead-length.true)

pub returns-in_default : goal.returns-in_default
returns-in_default c = sym (Law.not_whole _ _ _ c.in-Token.ensures c.if-lead-length.false)

pub returns-in_default-2 : goal.returns-in_default-2
returns-in_default-2 c = sym (Law.no_token _ c.framing_in.result c.framing_in.ensures (λ before n e. grind arith))
