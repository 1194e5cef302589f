-- A token received into a window: the number that it presents is handed in if the token opened, and else nothing is.
use Rattle.std.specs.Prelude.{ℕ, Bool, false, Option, Some, None, Ok, Err}
use Rattle.tokens.specs.Answer.{Outcome, map_ok}
use Rattle.tokens.specs.declared.answer.Unwrapped.{Unwrapped}
use Rattle.billing.specs.Status as Rules
use Rattle.billing.specs.Window.{step}
use Rattle.billing.specs.declared.receive.Received.{Received}
use Rattle.billing.specs.declared.status.Status.{Status}
use Rattle.billing.specs.declared.window.Window.{Window}

-- the number that a caller is given: 0 of a refused token, which has no status
abbrev pub number : Option Status → ℕ
number None = 0
number (Some status) = Rules.number status

-- whether the number of a token was billed
abbrev pub is_billed : Option Status → Bool
is_billed None = false
is_billed (Some status) = Rules.is_billed status

-- the sequence number that a Wrap token presents, if it opened
abbrev pub presented_by : Outcome Unwrapped → Outcome ℕ
presented_by token = map_ok (λ (u : Unwrapped). u.sequence) token

-- what a window makes of a token: its number takes a step, and with a refusal the window is as it was
abbrev pub received : Window → Outcome ℕ → Received
received w (Ok n) = record { status = Some (step w n).status; window = (step w n).window }
received w (Err refusal) = record { status = None; window = w }
