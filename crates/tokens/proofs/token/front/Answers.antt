-- The three fields fill the array.
use mathlib.Core.Path.{◌≡◌, ap, ap₂, ◌∙◌}
use mathlib.Core.List.{List, ◌++◌}
use Prim.Native.Nat.{ℕ}
use lib.ListN.{length, replicate}
use Rattle.primitives.specs.Rc4.{rc4}
use Rattle.tokens.specs.Limits.{placed}
use Rattle.tokens.specs.Token as Spec
use Rattle.tokens.proofs.Placing.{three_placed}
use borrow.Author.Rules.{rules}
use native.Mathlib.Omega.{arith}
use Rattle.tokens.proofs.token.front.Goals as goal

pub returns : goal.returns
unfolding Spec.front
returns c =
    let sizes : (length c.args.header ≡ 8) × (length c.eight-field.result ≡ 8) × (length c.args.sum ≡ 8) = (search rules, search rules, search rules) in
    let a = c.args in
    let field = c.eight-field.result in
    let size = sizes in
    c.place-3.ensures
    ∙ ap (λ (l : List ℕ). placed 16 a.sum l) (c.place-2.ensures ∙ ap (λ (l : List ℕ). placed 8 field l) c.place.ensures)
    ∙ three_placed a.header field a.sum (replicate 24 0) 8 16 size.0 (omega (arith, size.1)) (omega (arith, size.2))
    ∙ ap (λ (l : List ℕ). a.header ++ (l ++ a.sum))
    (c.eight-field.ensures ∙ ap₂ (λ (k l : List ℕ). rc4 k l) c.sequence_key.ensures c.sequence_field.ensures)
