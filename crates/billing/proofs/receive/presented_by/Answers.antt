-- The number, or the refusal as it is.
use Rattle.std.specs.Prelude.{Ok, Err, MatchResult, IsOkAnd}
use Rattle.std.proofs.Common.{◌≡◌, ℕ, ap, rules}
use Rattle.tokens.specs.Answer.{Outcome}
use Rattle.tokens.specs.declared.answer.Unwrapped.{Unwrapped}
use Rattle.billing.specs.Receive.{presented_by}
use Rattle.billing.proofs.receive.presented_by.Goals as goal

-- from what `Result::map` promises of a closure that gives the number
mapped : {Gives : Unwrapped → ℕ → Type 0} → ((u : Unwrapped) (n : ℕ) → Gives u n → n ≡ u.sequence) → (token : Outcome Unwrapped) (r : Outcome ℕ)
    → MatchResult token (λ u. IsOkAnd r (Gives u)) (λ e. r ≡ Err e) → r ≡ presented_by token
mapped number (Ok u) (Ok n) given = ap Ok (number u n given)
mapped number (Ok u) (Err e) given = absurd given
mapped number (Err e) r given = given

pub returns : goal.returns
returns c = mapped (λ u n given. search (rules, given)) c.args.token c.map.result c.map.ensures.cases
