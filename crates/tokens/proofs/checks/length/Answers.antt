-- The test of the primitives, and its error as a refusal.
use Rattle.std.proofs.Common.{◌≡◌, Bool, true, false, cond, ap}
use Rattle.std.specs.Prelude.{⊤, Result, Ok, Err, MatchResult, IsErrAnd}
use Rattle.primitives.specs.Limits.{length_error}
use Rattle.tokens.specs.Answer.{tested}
use Rattle.tokens.specs.declared.answer.Refusal.{Refusal}
use Rattle.tokens.specs.declared.answer.Refusal.TheVariants.{Length}
use Rattle.tokens.proofs.checks.length.Goals as goal

told : (b : Bool) (r : Result ⊤ Refusal) → MatchResult (cond b (Ok tt) (Err length_error)) (λ x. r ≡ Ok x) (λ e. IsErrAnd r (λ v. v ≡ Length)) → r ≡ tested b Length
unfolding tested
told true r m = m
told false (Ok a) m = absurd m
told false (Err e) m = ap Err m

pub returns : goal.returns
returns c = told _ c.map_err.result (rw c.length_status.ensures at c.map_err.ensures.cases)
