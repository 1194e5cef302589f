-- A number takes a step, and a refusal leaves the window.
use Rattle.billing.proofs.receive.receive.Goals as goal

pub returns-in-Ok : goal.returns-in-Ok
returns-in-Ok c = rw (c.in-Ok.is, c.bill-status.ensures)

pub returns-in-Err : goal.returns-in-Err
returns-in-Err c = rw c.in-Err.is
