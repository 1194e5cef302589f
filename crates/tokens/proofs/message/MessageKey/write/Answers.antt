-- The checksum, the confounder and then the message, which was encrypted in its place.
use mathlib.Core.Path.{◌≡◌, ap, ◌∙◌}
use mathlib.Core.List.{List}
use Prim.Native.Nat.{ℕ}
use lib.ListN.{length}
use Rattle.tokens.specs.Limits.{placed}
use Rattle.tokens.specs.Message.{parts, encrypt}
use Rattle.tokens.proofs.Placing.{rest_of}
use Rattle.tokens.proofs.Lent.{front_fits, front_placed}
use borrow.Author.Rules.{rules}
use native.Mathlib.Omega.{arith}
use Rattle.tokens.proofs.message.MessageKey.write.Goals as goal

pub place-requires : goal.place-requires
place-requires c =
    let size : length c.seal-checksum.result ≡ 16 = search rules in
    front_fits 16 c.args.region.now c.seal-checksum.new.message c.requires (length c.seal-checksum.result) 0 (omega arith)

pub place-requires-2 : goal.place-requires-2
place-requires-2 c =
    let size : length c.seal-checksum.new.confounder ≡ 8 = search rules in
    let fits = front_fits 16 c.args.region.now c.seal-checksum.new.message c.requires 8 16 (omega arith) in
    omega (arith, c.place.auto.buf)

pub returns : goal.returns
returns c =
    let sixteen : length c.seal-checksum.result ≡ 16 = search rules in
    let eight : length c.seal-checksum.new.confounder ≡ 8 = search rules in
    let a = c.args in
    let key = a.self in
    let sealed = c.seal-checksum in
    c.place-2.ensures
    ∙ ap (placed 16 sealed.new.confounder) c.place.ensures
    ∙ front_placed 16 a.region.now sealed.new.message c.requires sealed.result sealed.new.confounder sixteen eight
    ∙ sealed.ensures
    ∙ ap (λ (l : List ℕ). encrypt key.key key.strength key.usage.t (parts a.confounder l)) (rest_of 24 a.region.now)
