-- The test as the definition makes it.
use mathlib.Core.Path.{◌≡◌, refl, ap, ◌∙◌}
use mathlib.Core.Bool.{Bool, true, false}
use Rattle.std.specs.Prelude.{⊤, Option}
use Rattle.std.specs.Bool.{then_some}
use Rattle.std.specs.Option.{ok_or}
use Rattle.tokens.specs.Answer.{tested}
use Rattle.tokens.specs.declared.answer.Refusal.{Refusal}
use Rattle.tokens.proofs.checks.equal.Goals as goal

told : (b : Bool) (r : Refusal) → ok_or (then_some b tt) r ≡ tested b r
unfolding tested
told true r = refl
told false r = refl

pub returns : goal.returns
returns c =
    let r = c.args.refusal in
    c.ok_or.ensures.value ∙ ap (λ (o : Option ⊤). ok_or o r) (c.then_some.ensures ∙ ap (λ (b : Bool). then_some b tt) c.same.ensures) ∙ told _ r
