-- The field decrypted, its direction octets compared, and its number.
use mathlib.Core.Path.{◌≡◌, sym, ap, ◌∙◌}
use Prim.Native.Nat.{ℕ}
use lib.ListN.{length}
use borrow.Author.Rules.{rules}
use Rattle.std.specs.Prelude.{Ok}
use Rattle.tokens.specs.Answer.{Outcome}
use Rattle.tokens.specs.Token as Spec
use Rattle.tokens.proofs.Fronts.{field_run, compared}
use Rattle.tokens.proofs.Steps.{goes_on, stops, exits}
use Rattle.tokens.proofs.token.number_in.Goals as goal

pub returns-in_err-equal : goal.returns-in_err-equal
unfolding Spec.number_in
returns-in_err-equal c =
    let a = c.args in
    let eight : length c.eight-field.result ≡ 8 = search rules in
    let key = c.sequence_key-key.ensures ∙ ap (Spec.sequence_key a.context) c.checksum_in.ensures in
    let test = compared a.context a.front c.array_at.ensures key c.eight-field.ensures c.direction.result eight c.direction.ensures c.equal.ensures in
    exits _ _ c.from_residual.ensures.1 (stops _ _ _ test c.in_err-equal.was)

pub returns : goal.returns
unfolding Spec.number_in
returns c =
    let a = c.args in
    let eight : length c.eight-field.result ≡ 8 = search rules in
    let key = c.sequence_key-key.ensures ∙ ap (Spec.sequence_key a.context) c.checksum_in.ensures in
    let test = compared a.context a.front c.array_at.ensures key c.eight-field.ensures c.direction.result eight c.direction.ensures c.equal.ensures in
    let field = field_run a.context a.front c.array_at.ensures key c.eight-field.ensures in
    let number : ◌≡◌ {A = Outcome ℕ} (Ok c.number_of.result) (Ok (Spec.number_of (Spec.field_in a.context a.front))) = rw (c.number_of.ensures, field) in
    number ∙ sym (goes_on _ _ _ test c.in_ok-equal.was)
